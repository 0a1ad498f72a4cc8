-- What is gathered of the parts of a set or a policy, one by one.
use Rattle.std.proofs.Common.{◌≡◌, ℕ, zero, suc, ◌+◌, ◌<◌, ◌≤◌, Bool, true, false, ◌&&◌, cond, List, [], ◌∷◌, ◌++◌, length, get_or, take, map, refl, sym, ap, ◌∙◌, subst, arith, append_assoc, length-append, Option, Some, None, if◌then◌else◌}
use Rattle.std.specs.List.{list_all, position_from}
use Rattle.std.specs.Option.{option_or}
use Rattle.std.proofs.lemmas.List.{map_more, take_more, map-append, append-nil}
use Rattle.std.proofs.lemmas.Bool.{false≢true}
use Rattle.policy_documents.specs.Documents.{RuleData, Head, NodeData, set, policy, Children, no_children, child, children_of, rules_of, rules_of_all}
use Rattle.policy_documents.specs.declared.algorithms.Effect.{Effect}
use Rattle.policy_documents.specs.declared.algorithms.Effect.TheVariants as effects
use Rattle.policy_documents.specs.declared.algorithms.Algorithm.{Algorithm}
use Rattle.combining.specs.declared.questions.Question.{Question}
use Rattle.combining.specs.declared.decisions.Decision.{Decision}
use Rattle.combining.specs.declared.decisions.Decision.TheVariants.{Permit, Deny, NotApplicable}
use Rattle.combining.specs.declared.decisions.Verdict.{Verdict}
use Rattle.combining.specs.declared.gathering.Gathered.{Gathered}
use Rattle.combining.specs.declared.algorithms.Tally.{Tally}
use Rattle.combining.specs.Holding.{rule_applies, target_holds}
use Rattle.combining.specs.Decisions.{is_permit, is_deny, is_not_applicable, combined, effect_decision, rule_decision, decision_of, decisions_of}
use Rattle.combining.specs.Deciding.{Placed, Enclosing, within, is_decision, is_first_applicable, is_open, is_deciding, placed_within, placed_rules, rule_part, parts_of}
use Rattle.combining.specs.Tallies.{tally_of}
use Rattle.combining.specs.Gathering.{with_verdict, rule_for, settled_verdict, node_part, part_verdict, first_making, gathered_of}
use Rattle.combining.proofs.TallyLemmas.{tally_of-push}
use Rattle.combining.proofs.EnclosingLemmas.{around, list_all-push, choice_push}
use Rattle.combining.proofs.PlacedLemmas.{sizes_of, length-placed_parts, parts_of-map, sizes_of-parts_of}
use Rattle.combining.proofs.DecisionLemmas.{settled-tally_of}

-- the first element of two lists that passes a test
position_go : {K : Type 0} (b : Bool) (test : K → Bool) (n : ℕ) (xs ys : List K) →
    position_from test (n + 1) (xs ++ ys) ≡ option_or (position_from test (n + 1) xs) (position_from test (n + 1 + length xs) ys) → n + 1 + length xs ≡ n + suc (length xs) →
    cond b (Some n) (position_from test (n + 1) (xs ++ ys)) ≡ option_or (cond b (Some n) (position_from test (n + 1) xs)) (position_from test (n + suc (length xs)) ys)
position_go true test n xs ys rest e = refl
position_go false test n xs ys rest e = rest ∙ ap (λ k. option_or (position_from test (n + 1) xs) (position_from test k ys)) e

pub position_from-append : {K : Type 0} (test : K → Bool) (n : ℕ) (xs ys : List K) →
    position_from test n (xs ++ ys) ≡ option_or (position_from test n xs) (position_from test (n + length xs) ys)
position_from-append test n [] ys = ap (λ k. position_from test k ys) (omega arith)
position_from-append test n (x ∷ xs) ys = position_go (test x) test n xs ys (position_from-append test (n + 1) xs ys) (omega arith)

-- if no element passes, none is found
pub position_from-none : {K : Type 0} (test : K → Bool) → ((x : K) → test x ≡ false) → (n : ℕ) (xs : List K) → position_from test n xs ≡ None
position_from-none test out n [] = refl
position_from-none test out n (x ∷ xs) = ap (λ b. cond b (Some n) (position_from test (n + 1) xs)) (out x) ∙ position_from-none test out (n + 1) xs

option_or-none : (o : Option ℕ) → option_or o None ≡ o
option_or-none None = refl
option_or-none (Some n) = refl

and_false : (b : Bool) → (b && false) ≡ false
and_false true = refl
and_false false = refl

module _ (q : Question) (met : List (List ℕ)) where
  -- no rule makes the decision NotApplicable
  pub none_unmakes : (n : ℕ) (ps : List Placed) → position_from (is_deciding q met NotApplicable) n ps ≡ None
  none_unmakes n ps = position_from-none (is_deciding q met NotApplicable) out n ps
    where
      by_effect : (e : Effect) (b c : Bool) → (b && (c && is_decision NotApplicable (effect_decision e))) ≡ false
      by_effect effects.Permit b c = ap (λ x. b && x) (and_false c) ∙ and_false b
      by_effect effects.Deny b c = ap (λ x. b && x) (and_false c) ∙ and_false b

      out : (p : Placed) → is_deciding q met NotApplicable p ≡ false
      out p = by_effect p.rule.effect (list_all (is_open NotApplicable) p.enclosing) (rule_applies q met p.rule)

  -- the first rule within a set or a policy that is open, or is not
  pub position_from-within : (d : Decision) (e : Enclosing) (b : Bool) → is_open d e ≡ b → (n : ℕ) (ps : List Placed) →
      position_from (is_deciding q met d) n (map (within e) ps) ≡ (if b then position_from (is_deciding q met d) n ps else None)
  position_from-within d e true is n [] = refl
  position_from-within d e false is n [] = refl
  position_from-within d e true is n (p ∷ ps) =
      (λ i. cond (is i && list_all (is_open d) p.enclosing && (rule_applies q met p.rule && is_decision d (effect_decision p.rule.effect))) (Some n) (position_from-within d e true is (n + 1) ps i))
  position_from-within d e false is n (p ∷ ps) =
      (λ i. cond (is i && list_all (is_open d) p.enclosing && (rule_applies q met p.rule && is_decision d (effect_decision p.rule.effect))) (Some n) (position_from-within d e false is (n + 1) ps i))

  -- in a set or a policy with another decision no rule makes d
  pub position_from-shut : (d : Decision) (a : Algorithm) (e : Decision) → is_decision d e ≡ false → (n : ℕ) (earlier : List Decision) (parts : List (Decision × List Placed)) →
      position_from (is_deciding q met d) n (placed_within q met a e earlier parts) ≡ None
  position_from-shut d a e other n earlier [] = refl
  position_from-shut d a e other n earlier (part ∷ parts) =
      position_from-append (is_deciding q met d) n (map (within (around a e earlier)) part.1) _
      ∙ (λ i. option_or (position_from-within d (around a e earlier) false (ap (λ b. b && (if is_first_applicable a then list_all is_not_applicable earlier else true)) other) n part.1 i)
      (position_from-shut d a e other (n + length (map (within (around a e earlier)) part.1)) (earlier ++ part.0 ∷ []) parts i))

  -- no rule of a part makes a decision other than the part's
  pub OwnDecision : Decision × List Placed → Type 0
  OwnDecision part = (d : Decision) → is_decision d part.0 ≡ false → (n : ℕ) → position_from (is_deciding q met d) n part.1 ≡ None

  pub own_node : (node : NodeData) → OwnDecision (node_part q met node)
  unfolding OwnDecision
  own_node (set head children) d other n = position_from-shut d head.combine (decision_of q met (set head children)) other n [] (parts_of q met children)
  own_node (policy head rules) d other n = position_from-shut d head.combine (decision_of q met (policy head rules)) other n [] (map (rule_part q met) rules)

  pub own_rule : (rule : RuleData) → OwnDecision (rule_part q met rule)
  unfolding OwnDecision
  own_rule rule d other n = ap (λ b. cond b (Some n) None) (by_test (rule_applies q met rule) other)
    where
      by_test : (b : Bool) → is_decision d (if b then effect_decision rule.effect else NotApplicable) ≡ false → (b && is_decision d (effect_decision rule.effect)) ≡ false
      by_test true other = other
      by_test false other = refl

  -- the verdict of a rule that applies, and of one that does not
  pub rule_applied : (n : ℕ) (rule : RuleData) → true ≡ rule_applies q met rule → part_verdict q met n (rule_part q met rule) ≡ record { decision = effect_decision rule.effect; rule = Some n }
  rule_applied n rule applies = rw (sym applies) (by_effect rule.effect)
    where
      by_effect : (e : Effect) → (let v : Verdict = record { decision = effect_decision e; rule = cond (is_decision (effect_decision e) (effect_decision e)) (Some n) None } in v)
          ≡ record { decision = effect_decision e; rule = Some n }
      by_effect effects.Permit = refl
      by_effect effects.Deny = refl

  pub rule_left : (n : ℕ) (rule : RuleData) → false ≡ rule_applies q met rule → part_verdict q met n (rule_part q met rule) ≡ record { decision = NotApplicable; rule = None }
  rule_left n rule other = rw (sym other) refl

  -- the decisions of parts
  abbrev pub decisions : List (Decision × List Placed) → List Decision
  decisions parts = map (λ part. part.0) parts

  placed_within-push : (a : Algorithm) (d : Decision) (earlier : List Decision) (parts : List (Decision × List Placed)) (part : Decision × List Placed) →
      placed_within q met a d earlier (parts ++ part ∷ []) ≡ placed_within q met a d earlier parts ++ map (within (around a d (earlier ++ decisions parts))) part.1
  placed_within-push a d earlier [] part =
      append-nil (map (within (around a d earlier)) part.1) ∙ ap (λ ds. map (within (around a d ds)) part.1) (sym (append-nil earlier))
  placed_within-push a d earlier (p ∷ ps) part =
      ap (λ rest. map (within (around a d earlier)) p.1 ++ rest) (placed_within-push a d (earlier ++ p.0 ∷ []) ps part
      ∙ ap (λ ds. placed_within q met a d (earlier ++ p.0 ∷ []) ps ++ map (within (around a d ds)) part.1) (append_assoc earlier (p.0 ∷ []) (decisions ps)))
      ∙ sym (append_assoc (map (within (around a d earlier)) p.1) _ _)

  same_decision : (d e : Decision) → is_decision d e ≡ true → e ≡ d
  same_decision Permit Permit e = refl
  same_decision Deny Deny e = refl
  same_decision NotApplicable NotApplicable e = refl
  same_decision Permit Deny e = absurd (false≢true e)
  same_decision Permit NotApplicable e = absurd (false≢true e)
  same_decision Deny Permit e = absurd (false≢true e)
  same_decision Deny NotApplicable e = absurd (false≢true e)
  same_decision NotApplicable Permit e = absurd (false≢true e)
  same_decision NotApplicable Deny e = absurd (false≢true e)

  -- under first-applicable, no part before was applicable
  abbrev pub counting : Algorithm → List (Decision × List Placed) → Bool
  counting a parts = if is_first_applicable a then list_all is_not_applicable (decisions parts) else true

  part_choice : (d : Decision) (part : Decision × List Placed) → OwnDecision part → (c b : Bool) → is_decision d part.0 ≡ b → (o : Option ℕ) (n : ℕ) →
      option_or o (if c then position_from (is_deciding q met d) n part.1 else None) ≡ (if c && b then option_or o (position_from (is_deciding q met part.0) n part.1) else o)
  unfolding OwnDecision
  part_choice d part own false b is o n = option_or-none o
  part_choice d part own true true is o n = ap (λ e. option_or o (position_from (is_deciding q met e) n part.1)) (sym (same_decision d part.0 is))
  part_choice d part own true false is o n = ap (option_or o) (own d is n) ∙ option_or-none o

  first_making-push : (a : Algorithm) (n : ℕ) (parts : List (Decision × List Placed)) (part : Decision × List Placed) (d : Decision) (b : Bool) → OwnDecision part →
      is_decision d d ≡ true → is_decision d part.0 ≡ b →
      (if counting a parts && b then option_or (first_making q met a n parts d) (position_from (is_deciding q met part.0) (n + sizes_of parts) part.1) else first_making q met a n parts d)
      ≡ first_making q met a n (parts ++ part ∷ []) d
  first_making-push a n parts part d b own itself is =
      let test = is_deciding q met d in
      let here = around a d (decisions parts) in
      let o = first_making q met a n parts d in
      sym (ap (position_from test n) (placed_within-push a d [] parts part)
      ∙ position_from-append test n (placed_within q met a d [] parts) (map (within here) part.1)
      ∙ ap (λ k. option_or o (position_from test (n + k) (map (within here) part.1))) (length-placed_parts q met a d parts [])
      ∙ ap (option_or o) (position_from-within d here (counting a parts) (ap (λ x. x && counting a parts) itself) (n + sizes_of parts) part.1)
      ∙ part_choice d part own (counting a parts) b is o (n + sizes_of parts))

  permit_test : (e : Decision) → is_decision Permit e ≡ is_permit e
  permit_test Permit = refl
  permit_test Deny = refl
  permit_test NotApplicable = refl

  deny_test : (e : Decision) → is_decision Deny e ≡ is_deny e
  deny_test Permit = refl
  deny_test Deny = refl
  deny_test NotApplicable = refl

  abbrev gathered : Tally → Bool → Option ℕ → Option ℕ → Gathered
  gathered t c p d = record { tally = t; counts = c; permitting = p; denying = d }

  -- what is gathered with one more part
  pub gathered-push : (a : Algorithm) (n : ℕ) (parts : List (Decision × List Placed)) (part : Decision × List Placed) → OwnDecision part →
      with_verdict a (gathered_of q met a n parts) (part_verdict q met (n + sizes_of parts) part) ≡ gathered_of q met a n (parts ++ part ∷ [])
  gathered-push a n parts part own =
      let ds = decisions parts in
      let more : decisions (parts ++ part ∷ []) ≡ ds ++ part.0 ∷ [] = map-append (λ p. p.0) parts (part ∷ []) in
      let tallied = sym (ap tally_of more ∙ tally_of-push ds part.0) in
      let counted = sym (ap (λ es. if is_first_applicable a then list_all is_not_applicable es else true) more
      ∙ ap (λ x. if is_first_applicable a then x else true) (list_all-push ds part.0) ∙ choice_push (is_first_applicable a) _ _) in
      λ i. gathered (tallied i) (counted i) (first_making-push a n parts part Permit (is_permit part.0) own refl (permit_test part.0) i)
      (first_making-push a n parts part Deny (is_deny part.0) own refl (deny_test part.0) i)

  -- the same, for the parts of a list of other elements
  pub gathered-more : {X : Type 0} (part : X → Decision × List Placed) → ((x : X) → OwnDecision (part x)) → (a : Algorithm) (n : ℕ) (xs : List X) (i : ℕ) (x : X) (g : Gathered) (v : Verdict) →
      i < length xs → x ≡ get_or xs i x → g ≡ gathered_of q met a n (map part (take i xs)) → v ≡ part_verdict q met (n + sizes_of (map part (take i xs))) (part x) →
      with_verdict a g v ≡ gathered_of q met a n (map part (take (i + 1) xs))
  gathered-more part own a n xs i x g v in_range at g_is v_is =
      (λ j. with_verdict a (g_is j) (v_is j)) ∙ gathered-push a n (map part (take i xs)) (part x) (own x)
      ∙ ap (gathered_of q met a n) (ap (λ y. map part (take i xs) ++ part y ∷ []) at ∙ sym (map_more part xs i x in_range))

  rule_for-making : (a : Algorithm) (n : ℕ) (parts : List (Decision × List Placed)) (d : Decision) → rule_for (gathered_of q met a n parts) d ≡ first_making q met a n parts d
  rule_for-making a n parts Permit = refl
  rule_for-making a n parts Deny = refl
  rule_for-making a n parts NotApplicable = sym (none_unmakes n (placed_within q met a NotApplicable [] parts))

  abbrev verdict : Decision → Option ℕ → Verdict
  verdict d r = record { decision = d; rule = r }

  settled-parts : (a : Algorithm) (n : ℕ) (parts : List (Decision × List Placed)) (d : Decision) → combined a (decisions parts) ≡ d →
      settled_verdict a (gathered_of q met a n parts) ≡ verdict d (first_making q met a n parts d)
  settled-parts a n parts d is =
      ap (λ e. verdict e (rule_for (gathered_of q met a n parts) e)) (settled-tally_of a (decisions parts) ∙ is) ∙ ap (verdict d) (rule_for-making a n parts d)

  decisions-rules : (rules : List RuleData) → decisions (map (rule_part q met) rules) ≡ map (rule_decision q met) rules
  decisions-rules [] = refl
  decisions-rules (r ∷ rs) = ap (λ ds. rule_decision q met r ∷ ds) (decisions-rules rs)

  decisions-children : (children : Children) → decisions (parts_of q met children) ≡ decisions_of q met children
  decisions-children no_children = refl
  decisions-children (child node rest) = ap (λ ds. decision_of q met node ∷ ds) (decisions-children rest)

  -- the verdict of a set, and of a policy, whose target holds
  pub settled-set : (n : ℕ) (head : Head) (children : Children) → true ≡ target_holds q met head.target →
      settled_verdict head.combine (gathered_of q met head.combine n (parts_of q met children)) ≡ part_verdict q met n (node_part q met (set head children))
  settled-set n head children holds =
      settled-parts head.combine n (parts_of q met children) (decision_of q met (set head children)) (rw (sym holds) (ap (combined head.combine) (decisions-children children)))

  pub settled-policy : (n : ℕ) (head : Head) (rules : List RuleData) → true ≡ target_holds q met head.target →
      settled_verdict head.combine (gathered_of q met head.combine n (map (rule_part q met) rules)) ≡ part_verdict q met n (node_part q met (policy head rules))
  settled-policy n head rules holds =
      settled-parts head.combine n (map (rule_part q met) rules) (decision_of q met (policy head rules)) (rw (sym holds) (ap (combined head.combine) (decisions-rules rules)))

  left-node : (n : ℕ) (node : NodeData) → decision_of q met node ≡ NotApplicable → part_verdict q met n (node_part q met node) ≡ verdict NotApplicable None
  left-node n node is = ap (λ d. verdict d (position_from (is_deciding q met d) n (placed_rules q met node))) is ∙ ap (verdict NotApplicable) (none_unmakes n (placed_rules q met node))

  -- the verdict of a set, and of a policy, whose target does not hold
  pub left-set : (n : ℕ) (head : Head) (children : Children) → false ≡ target_holds q met head.target →
      part_verdict q met n (node_part q met (set head children)) ≡ record { decision = NotApplicable; rule = None }
  left-set n head children other = left-node n (set head children) (rw (sym other) refl)

  pub left-policy : (n : ℕ) (head : Head) (rules : List RuleData) → false ≡ target_holds q met head.target →
      part_verdict q met n (node_part q met (policy head rules)) ≡ record { decision = NotApplicable; rule = None }
  left-policy n head rules other = left-node n (policy head rules) (rw (sym other) refl)

  pub sizes_of-rules : (rules : List RuleData) → sizes_of (map (rule_part q met) rules) ≡ length rules
  sizes_of-rules [] = refl
  sizes_of-rules (r ∷ rs) = ap (λ n. 1 + n) (sizes_of-rules rs) ∙ omega arith

-- how many rules are below nodes
module _ {X : Type 0} (view : X → NodeData) where
  abbrev pub total : List X → ℕ
  total xs = length (rules_of_all (children_of (map view xs)))

  total-push : (xs : List X) (x : X) → total (xs ++ x ∷ []) ≡ total xs + length (rules_of (view x))
  total-push [] x = length-append (rules_of (view x)) [] ∙ omega arith
  total-push (y ∷ ys) x =
      let rest = total-push ys x in
      length-append (rules_of (view y)) _ ∙ ap (λ n. length (rules_of (view y)) + n) rest
      ∙ omega (arith, length-append (rules_of (view y)) (rules_of_all (children_of (map view ys))))

  pub total-more : (xs : List X) (i : ℕ) (x : X) → i < length xs → x ≡ get_or xs i x → total (take (i + 1) xs) ≡ total (take i xs) + length (rules_of (view x))
  total-more xs i x in_range at =
      ap total (take_more xs i x in_range) ∙ total-push (take i xs) (get_or xs i x) ∙ ap (λ y. total (take i xs) + length (rules_of (view y))) (sym at)

  total-within : (xs : List X) (i : ℕ) (x : X) → i < length xs → total (take i xs) + length (rules_of (view (get_or xs i x))) ≤ total xs
  total-within [] i x in_range = absurd (omega arith)
  total-within (y ∷ ys) zero x in_range = omega (arith, length-append (rules_of (view y)) (rules_of_all (children_of (map view ys))))
  total-within (y ∷ ys) (suc i) x in_range =
      let rest = total-within ys i x (omega arith) in
      omega (arith, rest, length-append (rules_of (view y)) (rules_of_all (children_of (map view ys))), length-append (rules_of (view y)) (rules_of_all (children_of (map view (take i ys)))))

  pub total-some : (xs : List X) (i : ℕ) (x : X) → i < length xs → x ≡ get_or xs i x → total (take i xs) + length (rules_of (view x)) ≤ total xs
  total-some xs i x in_range at = subst (λ y. total (take i xs) + length (rules_of (view y)) ≤ total xs) (sym at) (total-within xs i x in_range)

  pub sizes_of-total : (q : Question) (met : List (List ℕ)) (xs : List X) → sizes_of (map (λ x. node_part q met (view x)) xs) ≡ total xs
  sizes_of-total q met xs = ap sizes_of (sym (parts_of-map q met view xs)) ∙ sizes_of-parts_of q met (children_of (map view xs))
