-- A number means the same rule where a document is evaluated and where it names its rules.
use Rattle.std.proofs.Common.{◌≡◌, ℕ, zero, suc, ◌+◌, Bool, true, false, cond, List, [], ◌∷◌, ◌++◌, map, Some, refl, sym, ap, ◌∙◌, arith}
use Rattle.std.specs.Prelude.{slice_get, option_map}
use Rattle.std.specs.List.{position_from}
use Rattle.std.proofs.lemmas.List.{map-append}
use Rattle.policy_documents.specs.Documents.{RuleData, NodeData, set, policy, Children, no_children, child, rules_of, rules_of_all, rule_named}
use Rattle.policy_documents.specs.declared.algorithms.Algorithm.{Algorithm}
use Rattle.combining.specs.declared.questions.Question.{Question}
use Rattle.combining.specs.declared.decisions.Decision.{Decision}
use Rattle.combining.specs.Decisions.{decision_of}
use Rattle.combining.specs.Deciding.{Placed, Enclosing, within, is_deciding, placed_within, placed_rules, parts_of, rule_part, first_deciding, IsMadeBy}
use Rattle.combining.proofs.EnclosingLemmas.{around}

-- the list has this element at the index that was found, and it passes the test
record Found {X : Type 0} (test : X → Bool) (k : ℕ) (xs : List X) (n : ℕ) : Type 0 where
  index : ℕ
  item : X
  counted : n ≡ k + index
  stands : slice_get xs index ≡ Some item
  passes : test item ≡ true

found_at : {X : Type 0} (test : X → Bool) (k : ℕ) (xs : List X) (n : ℕ) → position_from test k xs ≡ Some n → Found test k xs n
found_at test k [] n told = absurd cc
found_at test k (x ∷ xs) n told = by_test (test x) refl told (found_at test (k + 1) xs n)
  where
    by_test : (b : Bool) → test x ≡ b → cond b (Some k) (position_from test (k + 1) xs) ≡ Some n → (position_from test (k + 1) xs ≡ Some n → Found test (k + 1) xs n) → Found test k (x ∷ xs) n
    by_test true is told behind = let same : k ≡ n = cc in record { index = 0; item = x; counted = omega (arith, same); stands = refl; passes = is }
    by_test false is told behind =
        let f = behind told in
        record { index = suc f.index; item = f.item; counted = omega (arith, f.counted); stands = f.stands; passes = f.passes }

slice_get-mapped : {X Y : Type 0} (f : X → Y) (xs : List X) (i : ℕ) (x : X) → slice_get xs i ≡ Some x → slice_get (map f xs) i ≡ Some (f x)
slice_get-mapped f [] i x told = absurd cc
slice_get-mapped f (y ∷ ys) zero x told = ap (option_map f) told
slice_get-mapped f (y ∷ ys) (suc i) x told = slice_get-mapped f ys i x told

abbrev rule_in : Placed → RuleData
rule_in p = p.rule

rules-within : (e : Enclosing) (ps : List Placed) → map rule_in (map (within e) ps) ≡ map rule_in ps
rules-within e [] = refl
rules-within e (p ∷ ps) = ap (λ rs. p.rule ∷ rs) (rules-within e ps)

module _ (q : Question) (met : List (List ℕ)) where
  rules-rules : (a : Algorithm) (d : Decision) (earlier : List Decision) (rules : List RuleData) →
      map rule_in (placed_within q met a d earlier (map (rule_part q met) rules)) ≡ rules
  rules-rules a d earlier [] = refl
  rules-rules a d earlier (r ∷ rs) = ap (λ rest. r ∷ rest) (rules-rules a d (earlier ++ (rule_part q met r).0 ∷ []) rs)

  mutual
    pub rules-placed : (node : NodeData) → map rule_in (placed_rules q met node) ≡ rules_of node
    rules-placed (set head children) = rules-parts head.combine (decision_of q met (set head children)) [] children
    rules-placed (policy head rules) = rules-rules head.combine (decision_of q met (policy head rules)) [] rules

    rules-parts : (a : Algorithm) (d : Decision) (earlier : List Decision) (children : Children) →
        map rule_in (placed_within q met a d earlier (parts_of q met children)) ≡ rules_of_all children
    rules-parts a d earlier no_children = refl
    rules-parts a d earlier (child node rest) =
        map-append rule_in (map (within (around a d earlier)) (placed_rules q met node)) _
        ∙ (λ i. (rules-within (around a d earlier) (placed_rules q met node) ∙ rules-placed node) i ++ rules-parts a d (earlier ++ decision_of q met node ∷ []) rest i)

  named : (root : NodeData) (index : ℕ) (p : Placed) → slice_get (placed_rules q met root) index ≡ Some p → rule_named (suc index) root ≡ Some p.rule.name
  named root index p told =
      ap (λ rs. option_map (λ rule. rule.name) (slice_get rs index)) (sym (rules-placed root))
      ∙ ap (option_map (λ rule. rule.name)) (slice_get-mapped rule_in (placed_rules q met root) index p told)

  -- the number in a verdict
  pub made_by : (root : NodeData) (number : ℕ) → first_deciding q met root ≡ Some number → IsMadeBy q met root number
  made_by root number told =
      let f = found_at (is_deciding q met (decision_of q met root)) 1 (placed_rules q met root) number told in
      let counted : number ≡ suc f.index = omega (arith, f.counted) in
      record {
        index = f.index;
        placed = f.item;
        counted = counted;
        stands = f.stands;
        deciding = f.passes;
        named = ap (λ n. rule_named n root) counted ∙ named root f.index f.item f.stands;
      }
