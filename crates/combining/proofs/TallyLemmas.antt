-- A tally with one more decision.
use Rattle.std.proofs.Common.{◌≡◌, ℕ, ◌+◌, ◌<◌, Bool, true, false, ◌||◌, List, [], ◌∷◌, ◌++◌, length, get_or, take, refl, sym, ap, ◌∙◌}
use Rattle.std.specs.List.{list_any}
use Rattle.std.proofs.lemmas.List.{take_more}
use Rattle.combining.specs.declared.decisions.Decision.{Decision}
use Rattle.combining.specs.declared.decisions.Decision.TheVariants.{Permit, Deny, NotApplicable}
use Rattle.combining.specs.declared.algorithms.Tally.{Tally}
use Rattle.combining.specs.Decisions.{is_permit, is_deny, first_applicable}
use Rattle.combining.specs.Tallies.{tally_of, with_decision, or_else}

or_behind : (a b c : Bool) → (a || (b || c)) ≡ (a || b || c)
or_behind true b c = refl
or_behind false b c = refl

or_false : (b : Bool) → (b || false) ≡ b
or_false true = refl
or_false false = refl

list_any-push : (p : Decision → Bool) (ds : List Decision) (d : Decision) → list_any p (ds ++ d ∷ []) ≡ (list_any p ds || p d)
list_any-push p [] d = or_false (p d)
list_any-push p (e ∷ ds) d = ap (λ b. p e || b) (list_any-push p ds d) ∙ or_behind (p e) (list_any p ds) (p d)

first_applicable-push : (ds : List Decision) (d : Decision) → first_applicable (ds ++ d ∷ []) ≡ or_else (first_applicable ds) d
first_applicable-push [] Permit = refl
first_applicable-push [] Deny = refl
first_applicable-push [] NotApplicable = refl
first_applicable-push (NotApplicable ∷ ds) d = first_applicable-push ds d
first_applicable-push (Permit ∷ ds) d = refl
first_applicable-push (Deny ∷ ds) d = refl

tally : Bool → Bool → Decision → Tally
tally p d f = record { permits = p; denies = d; first = f }

same_tally : (p p' d d' : Bool) (f f' : Decision) → p ≡ p' → d ≡ d' → f ≡ f' → tally p d f ≡ tally p' d' f'
same_tally p p' d d' f f' x y z = cc

pub tally_of-push : (ds : List Decision) (d : Decision) → tally_of (ds ++ d ∷ []) ≡ with_decision (tally_of ds) d
unfolding tally
tally_of-push ds d = same_tally _ _ _ _ _ _ (list_any-push is_permit ds d) (list_any-push is_deny ds d) (first_applicable-push ds d)

-- one more decision of a list
pub tally_of-take : (ds : List Decision) (i : ℕ) (d : Decision) → i < length ds → with_decision (tally_of (take i ds)) (get_or ds i d) ≡ tally_of (take (i + 1) ds)
tally_of-take ds i d in_range = sym (ap tally_of (take_more ds i d in_range) ∙ tally_of-push (take i ds) (get_or ds i d))
