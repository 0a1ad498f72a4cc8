-- The first child that settles the decision.
use Rattle.std.proofs.Common.{◌≡◌, Bool, true, false, ◌||◌, List, [], ◌∷◌, ◌++◌, refl, sym, ap, ◌∙◌}
use Rattle.std.specs.List.{list_any}
use Rattle.std.proofs.lemmas.Bool.{false≢true}
use Rattle.policy_documents.specs.declared.algorithms.Algorithm.{Algorithm}
use Rattle.policy_documents.specs.declared.algorithms.Algorithm.TheVariants.{DenyOverrides, PermitOverrides, DenyUnlessPermit, PermitUnlessDeny, FirstApplicable}
use Rattle.combining.specs.declared.decisions.Decision.{Decision}
use Rattle.combining.specs.declared.decisions.Decision.TheVariants.{Permit, Deny, NotApplicable}
use Rattle.combining.specs.Decisions.{is_permit, is_deny, is_settled, combined, first_applicable}

any_behind : (p : Decision → Bool) (before : List Decision) (d : Decision) (after : List Decision) → p d ≡ true → list_any p (before ++ d ∷ after) ≡ true
any_behind p [] d after is = ap (λ b. b || list_any p after) is
any_behind p (e ∷ es) d after is = ap (λ b. p e || b) (any_behind p es d after is) ∙ or_true (p e)
  where
    or_true : (b : Bool) → (b || true) ≡ true
    or_true true = refl
    or_true false = refl

first_behind : (before : List Decision) (d : Decision) (after : List Decision) → list_any (is_settled FirstApplicable) before ≡ false → is_settled FirstApplicable d ≡ true →
    first_applicable (before ++ d ∷ after) ≡ d
first_behind [] Permit after none is = refl
first_behind [] Deny after none is = refl
first_behind [] NotApplicable after none is = absurd (false≢true is)
first_behind (NotApplicable ∷ es) d after none is = first_behind es d after none is
first_behind (Permit ∷ es) d after none is = absurd (false≢true (sym none))
first_behind (Deny ∷ es) d after none is = absurd (false≢true (sym none))

pub settled-combined : (a : Algorithm) (before : List Decision) (d : Decision) (after : List Decision) → list_any (is_settled a) before ≡ false → is_settled a d ≡ true →
    combined a (before ++ d ∷ after) ≡ d
settled-combined DenyOverrides before Deny after none is = rw (any_behind is_deny before Deny after refl) refl
settled-combined PermitOverrides before Permit after none is = rw (any_behind is_permit before Permit after refl) refl
settled-combined DenyUnlessPermit before Permit after none is = rw (any_behind is_permit before Permit after refl) refl
settled-combined PermitUnlessDeny before Deny after none is = rw (any_behind is_deny before Deny after refl) refl
settled-combined DenyOverrides before Permit after none is = absurd (false≢true is)
settled-combined DenyOverrides before NotApplicable after none is = absurd (false≢true is)
settled-combined PermitOverrides before Deny after none is = absurd (false≢true is)
settled-combined PermitOverrides before NotApplicable after none is = absurd (false≢true is)
settled-combined DenyUnlessPermit before Deny after none is = absurd (false≢true is)
settled-combined DenyUnlessPermit before NotApplicable after none is = absurd (false≢true is)
settled-combined PermitUnlessDeny before Permit after none is = absurd (false≢true is)
settled-combined PermitUnlessDeny before NotApplicable after none is = absurd (false≢true is)
settled-combined FirstApplicable before d after none is = first_behind before d after none is
