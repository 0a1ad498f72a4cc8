-- The sets and policies around a rule.
use Rattle.std.proofs.Common.{◌≡◌, Bool, true, false, ◌&&◌, List, [], ◌∷◌, ◌++◌, refl, sym, ap, ◌∙◌, if◌then◌else◌}
use Rattle.std.specs.List.{list_all}
use Rattle.policy_documents.specs.declared.algorithms.Algorithm.{Algorithm}
use Rattle.combining.specs.declared.decisions.Decision.{Decision}
use Rattle.combining.specs.Decisions.{is_not_applicable}
use Rattle.combining.specs.Deciding.{Enclosing}

-- a set or a policy with these decisions of earlier children
abbrev pub around : Algorithm → Decision → List Decision → Enclosing
around a d earlier = record { combine = a; decision = d; earlier = earlier }

pub and_and : (a b c : Bool) → (a && b && c) ≡ (a && (b && c))
and_and true b c = refl
and_and false b c = refl

pub list_all-push : (ds : List Decision) (d : Decision) → list_all is_not_applicable (ds ++ d ∷ []) ≡ (list_all is_not_applicable ds && is_not_applicable d)
list_all-push [] d = and_true (is_not_applicable d)
  where
    and_true : (b : Bool) → (b && true) ≡ b
    and_true true = refl
    and_true false = refl
list_all-push (e ∷ ds) d = ap (λ b. is_not_applicable e && b) (list_all-push ds d) ∙ sym (and_and (is_not_applicable e) _ _)

pub choice_push : (c x y : Bool) → (if c then (x && y) else true) ≡ ((if c then x else true) && (if c then y else true))
choice_push true x y = refl
choice_push false x y = refl
