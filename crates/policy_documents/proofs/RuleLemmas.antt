-- Finding a rule by its number.
use Rattle.std.proofs.Common.{◌≡◌, ℕ, zero, suc, ◌+◌, ◌-◌, ◌<◌, ◌≤◌, List, [], ◌∷◌, ◌++◌, length, get_or, drop, map, refl, ap, ◌∙◌, arith, add-one, drop-cons, Result, Ok, Err, slice_get, option_map}
use Rattle.std.specs.Result.{result_ok}
use Rattle.policy_documents.specs.Documents.{NodeData, RuleData, children_of, rules_of, rules_of_all, found_rule, rule_named}

abbrev pub or_behind : Result (List ℕ) ℕ → List RuleData → Result (List ℕ) ℕ
or_behind (Ok name) rules = Ok name
or_behind (Err left) rules = found_rule left rules

pub found_rule-append : (i : ℕ) (xs ys : List RuleData) → found_rule i (xs ++ ys) ≡ or_behind (found_rule i xs) ys
found_rule-append i [] ys = refl
found_rule-append zero (x ∷ xs) ys = refl
found_rule-append (suc i) (x ∷ xs) ys = found_rule-append i xs ys

pub found_rule-at : (i : ℕ) (xs : List RuleData) (r d : RuleData) → i < length xs → r ≡ get_or xs i d → found_rule i xs ≡ Ok r.name
found_rule-at i [] r d in_range e = absurd (omega arith)
found_rule-at zero (x ∷ xs) r d in_range e = cc
found_rule-at (suc i) (x ∷ xs) r d in_range e = found_rule-at i xs r d (omega arith) e

pub found_rule-past : (i : ℕ) (xs : List RuleData) → length xs ≤ i → found_rule i xs ≡ Err (i - length xs)
found_rule-past i [] past = ap Err (omega arith)
found_rule-past zero (x ∷ xs) past = absurd (omega arith)
found_rule-past (suc i) (x ∷ xs) past = found_rule-past i xs (omega arith) ∙ ap Err (omega arith)

pub found_here : {X : Type 0} (view : X → NodeData) (items : List X) (at left : ℕ) (x : X) (name : List ℕ) → at < length items →
    found_rule left (rules_of (view (get_or items at x))) ≡ Ok name → found_rule left (rules_of_all (children_of (map view (drop at items)))) ≡ Ok name
found_here view items at left x name in_range found =
    rw (drop-cons items at x in_range, found_rule-append, found) refl

pub found_behind : {X : Type 0} (view : X → NodeData) (items : List X) (at left rest : ℕ) (x : X) → at < length items →
    found_rule left (rules_of (view (get_or items at x))) ≡ Err rest →
    found_rule left (rules_of_all (children_of (map view (drop at items)))) ≡ found_rule rest (rules_of_all (children_of (map view (drop (at + 1) items))))
found_behind view items at left rest x in_range missed =
    rw (drop-cons items at x in_range, found_rule-append, missed, add-one) refl

-- the number of a rule is its index plus one
pub rule_named-suc : (i : ℕ) (xs : List RuleData) → option_map (λ rule. rule.name) (slice_get xs i) ≡ result_ok (found_rule i xs)
rule_named-suc i [] = refl
rule_named-suc zero (x ∷ xs) = refl
rule_named-suc (suc i) (x ∷ xs) = rule_named-suc i xs

pub rule_named-found_rule : (n : ℕ) (root : NodeData) → (n ≡ 0 → ⊥) → rule_named n root ≡ result_ok (found_rule (n - 1) (rules_of root))
rule_named-found_rule zero root above = absurd (above refl)
rule_named-found_rule (suc i) root above = let e : suc i - 1 ≡ i = omega arith in rw e (rule_named-suc i (rules_of root))
