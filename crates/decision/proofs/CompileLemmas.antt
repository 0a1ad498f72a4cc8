-- What is appended while a document is compiled.
use Rattle.std.proofs.Common.{◌≡◌, ◌==◌, ℕ, ◌+◌, ◌-◌, ◌<◌, Bool, true, false, ◌&&◌, List, [], ◌∷◌, ◌++◌, length, take, get_or, map, refl, sym, ap, ◌∙◌, arith, append_assoc, length-append, Option, Some, None, cond, if◌then◌else◌, ◌||◌}
use Rattle.std.specs.List.{list_all, position_from}
use Rattle.std.specs.Prelude.{slice_set}
use Rattle.std.proofs.lemmas.Bool.Decides.{Decides-eqb}
use Rattle.std.proofs.lemmas.List.{set_at, take_at, append-nil}
use Rattle.policy_documents.specs.Documents.{RuleData, NodeData, Head, set, policy, children_of}
use Rattle.policy_documents.specs.declared.algorithms.Algorithm.{Algorithm}
use Rattle.policy_documents.specs.declared.algorithms.Algorithm.TheVariants.{DenyOverrides, PermitOverrides, DenyUnlessPermit, PermitUnlessDeny, FirstApplicable}
use Rattle.policy_documents.specs.declared.matches.Match.{Match}
use Rattle.policy_documents.specs.declared.matches.Atom.{Atom}
use Rattle.combining.specs.declared.questions.Question.{Question}
use Rattle.combining.specs.declared.decisions.Decision.{Decision}
use Rattle.combining.specs.declared.decisions.Decision.TheVariants.{Permit, Deny, NotApplicable}
use Rattle.combining.specs.declared.gathering.Gathered.{Gathered}
use Rattle.decision.proofs.FinishLemmas.{gathered, verdict}
use Rattle.decision.specs.declared.known.Known.{Known}
use Rattle.decision.specs.declared.plan_nodes.PlanNode.{PlanNode}
use Rattle.decision.specs.declared.plan_nodes.PlanNode.TheVariants as plan_nodes
use Rattle.combining.specs.Holding.{target_holds, atom_holds, rule_applies}
use Rattle.combining.specs.Decisions.{effect_decision, decision_of}
use Rattle.combining.specs.Deciding.{Placed, rule_part, is_deciding, placed_rules, verdict_of}
use Rattle.combining.specs.Gathering.{with_verdict, settled_verdict, nothing_gathered, node_part, part_verdict, gathered_of, stays_open}
use Rattle.combining.specs.Tallies.{or_else}
use Rattle.decision.specs.Known.{Fits}
use Rattle.decision.specs.Plans.{Branches, no_branches, leaf, fork, flat, gathered_from, branches_verdict, leaf_verdict, not_applicable}
use Rattle.decision.specs.Compiled.{Appends, StandsFor, AllStandFor, is_silent, placeholder, node_closed}
use Rattle.combining.proofs.GatherLemmas.{OwnDecision, gathered-more, rule_applied, rule_left, none_unmakes, settled-set, settled-policy, left-set, left-policy}
use Rattle.combining.proofs.PlacedLemmas.{sizes_of, parts_of-map}

-- the branches of one list followed by those of another
join : Branches → Branches → Branches
join no_branches others = others
join (leaf number effect target when row) others = leaf number effect target when (join row others)
join (fork combine target below row) others = fork combine target below (join row others)

flat-join : (A : Type 0) (row others : Branches) → flat A (join row others) ≡ flat A row ++ flat A others
unfolding join
flat-join A no_branches others = refl
flat-join A (leaf number effect target when row) others = ap (λ list. plan_nodes.Rule number effect target when ∷ list) (flat-join A row others)
flat-join A (fork combine target below row) others =
    ap (λ list. plan_nodes.Node combine target (length (flat A below)) ∷ (flat A below ++ list)) (flat-join A row others)
    ∙ ap (λ list. plan_nodes.Node combine target (length (flat A below)) ∷ list) (sym (append_assoc (flat A below) (flat A row) (flat A others)))

gathered_from-join : (q : Question) (met : List (List ℕ)) (a : Algorithm) (g : Gathered) (row others : Branches) →
    gathered_from q met a g (join row others) ≡ gathered_from q met a (gathered_from q met a g row) others
unfolding join
gathered_from-join q met a g no_branches others = refl
gathered_from-join q met a g (leaf number effect target when row) others = gathered_from-join q met a (with_verdict a g (leaf_verdict q met number effect target when)) row others
gathered_from-join q met a g (fork combine target below row) others =
    gathered_from-join q met a (with_verdict a g (if target_holds q met target then settled_verdict combine (gathered_from q met combine nothing_gathered below) else not_applicable)) row others

-- a child that is not applicable changes nothing
and_false : (b : Bool) → (b && false) ≡ false
and_false true = refl
and_false false = refl

and_true : (b : Bool) → (b && true) ≡ b
and_true true = refl
and_true false = refl

same_gathered : (p p' d d' : Bool) (f f' : Decision) (c c' : Bool) (x x' y y' : Option ℕ) → p ≡ p' → d ≡ d' → f ≡ f' → c ≡ c' → x ≡ x' → y ≡ y' → gathered p d f c x y ≡ gathered p' d' f' c' x' y'
same_gathered p p' d d' f f' c c' x x' y y' e1 e2 e3 e4 e5 e6 = cc

or_false : (b : Bool) → (b || false) ≡ b
or_false true = refl
or_false false = refl

or_else_none : (d : Decision) → or_else d NotApplicable ≡ d
or_else_none Permit = refl
or_else_none Deny = refl
or_else_none NotApplicable = refl

stays : (a : Algorithm) → stays_open a NotApplicable ≡ true
stays DenyOverrides = refl
stays PermitOverrides = refl
stays DenyUnlessPermit = refl
stays PermitUnlessDeny = refl
stays FirstApplicable = refl

unchosen : (b : Bool) (x y : Option ℕ) → b ≡ false → cond b x y ≡ y
unchosen b x y e = ap (λ c. cond c x y) e

left_out : (a : Algorithm) (g : Gathered) → with_verdict a g not_applicable ≡ g
unfolding gathered
left_out a g =
    same_gathered _ g.tally.permits _ g.tally.denies _ g.tally.first _ g.counts _ g.permitting _ g.denying (or_false g.tally.permits) (or_false g.tally.denies) (or_else_none g.tally.first)
    (ap (λ b. g.counts && b) (stays a) ∙ and_true g.counts) (unchosen _ _ _ (and_false g.counts)) (unchosen _ _ _ (and_false g.counts))

silent : (a : Algorithm) → is_silent a ≡ true → settled_verdict a nothing_gathered ≡ not_applicable
silent DenyOverrides e = refl
silent PermitOverrides e = refl
silent DenyUnlessPermit e = absurd cc
silent PermitUnlessDeny e = absurd cc
silent FirstApplicable e = refl

module _ (A : Type 0) (known : Known) where
  -- what is never applicable can be left out
  appends_none : (n : ℕ) (part : Question → List (List ℕ) → Decision × List Placed) (old : List (PlanNode A)) →
      ((q : Question) (met : List (List ℕ)) → Fits known q → part_verdict q met n (part q met) ≡ not_applicable) → Appends A known (λ q met. StandsFor q met n (part q met)) old old
  appends_none n part old never = record {
    row = no_branches;
    appended = sym (append-nil old);
    meant = λ q met fits a g. sym (ap (with_verdict a g) (never q met fits) ∙ left_out a g);
  }

  pub rule-never : (n : ℕ) (rule : RuleData) (old : List (PlanNode A)) → ((q : Question) (met : List (List ℕ)) → Fits known q → rule_applies q met rule ≡ false) →
      Appends A known (λ q met. StandsFor q met n (rule_part q met rule)) old old
  rule-never n rule old never = appends_none n (λ q met. rule_part q met rule) old (λ q met fits. rule_left q met n rule (sym (never q met fits)))

  pub target-never : (n : ℕ) (rule : RuleData) (old : List (PlanNode A)) → ((q : Question) (met : List (List ℕ)) → Fits known q → target_holds q met rule.target ≡ false) →
      Appends A known (λ q met. StandsFor q met n (rule_part q met rule)) old old
  target-never n rule old never = rule-never n rule old (λ q met fits. ap (λ b. b && list_all (atom_holds q met) rule.when) (never q met fits))

  pub when-never : (n : ℕ) (rule : RuleData) (old : List (PlanNode A)) → ((q : Question) (met : List (List ℕ)) → Fits known q → list_all (atom_holds q met) rule.when ≡ false) →
      Appends A known (λ q met. StandsFor q met n (rule_part q met rule)) old old
  when-never n rule old never =
      rule-never n rule old (λ q met fits. ap (λ b. target_holds q met rule.target && b) (never q met fits) ∙ and_false (target_holds q met rule.target))

  by_test : (q : Question) (met : List (List ℕ)) (n : ℕ) (rule : RuleData) (b : Bool) → b ≡ rule_applies q met rule →
      (if b then record { decision = effect_decision rule.effect; rule = Some n } else not_applicable) ≡ part_verdict q met n (rule_part q met rule)
  by_test q met n rule true applies = sym (rule_applied q met n rule applies)
  by_test q met n rule false other = sym (rule_left q met n rule other)

  -- a rule whose reduced target and conditions are kept
  pub rule-kept : (n : ℕ) (rule : RuleData) (target : List (List (List Match))) (when : List Atom) (old new : List (PlanNode A)) →
      ((q : Question) (met : List (List ℕ)) → Fits known q → target_holds q met rule.target ≡ target_holds q met target) →
      ((q : Question) (met : List (List ℕ)) → Fits known q → list_all (atom_holds q met) rule.when ≡ list_all (atom_holds q met) when) →
      new ≡ old ++ plan_nodes.Rule n rule.effect target when ∷ [] → Appends A known (λ q met. StandsFor q met n (rule_part q met rule)) old new
  rule-kept n rule target when old new same_target same_when appended = record {
    row = leaf n rule.effect target when no_branches;
    appended = appended;
    meant = λ q met fits a g.
        ap (with_verdict a g) (by_test q met n rule (target_holds q met target && list_all (atom_holds q met) when) (sym (λ i. same_target q met fits i && same_when q met fits i)));
  }

  nothing-gathered : (q : Question) (met : List (List ℕ)) (a : Algorithm) (n : ℕ) → nothing_gathered ≡ gathered_of q met a n []
  nothing-gathered q met DenyOverrides n = refl
  nothing-gathered q met PermitOverrides n = refl
  nothing-gathered q met DenyUnlessPermit n = refl
  nothing-gathered q met PermitUnlessDeny n = refl
  nothing-gathered q met FirstApplicable n = refl

  -- no parts are compiled to no branches
  pub all-none : (n : ℕ) (old : List (PlanNode A)) → Appends A known (λ q met. AllStandFor q met n []) old old
  all-none n old = record { row = no_branches; appended = sym (append-nil old); meant = λ q met fits a. nothing-gathered q met a n }

  -- one more part
  pub all-more : {X : Type 0} (part : Question → List (List ℕ) → X → Decision × List Placed) → ((q : Question) (met : List (List ℕ)) (x : X) → OwnDecision q met (part q met x)) →
      (n : ℕ) (xs : List X) (i : ℕ) (x : X) (number : ℕ) (old mid new : List (PlanNode A)) → i < length xs → x ≡ get_or xs i x →
      ((q : Question) (met : List (List ℕ)) → number ≡ n + sizes_of (map (part q met) (take i xs))) →
      Appends A known (λ q met. AllStandFor q met n (map (part q met) (take i xs))) old mid → Appends A known (λ q met. StandsFor q met number (part q met x)) mid new →
      Appends A known (λ q met. AllStandFor q met n (map (part q met) (take (i + 1) xs))) old new
  all-more part own n xs i x number old mid new in_range at numbered first second = record {
    row = join first.row second.row;
    appended = second.appended ∙ ap (λ list. list ++ flat A second.row) first.appended ∙ append_assoc old (flat A first.row) (flat A second.row)
        ∙ ap (λ list. old ++ list) (sym (flat-join A first.row second.row));
    meant = λ q met fits a.
        gathered_from-join q met a nothing_gathered first.row second.row
        ∙ ap (λ g. gathered_from q met a g second.row) (first.meant q met fits a)
        ∙ second.meant q met fits a (gathered_of q met a n (map (part q met) (take i xs)))
        ∙ gathered-more q met (part q met) (own q met) a n xs i x (gathered_of q met a n (map (part q met) (take i xs))) (part_verdict q met number (part q met x)) in_range at refl
        (ap (λ k. part_verdict q met k (part q met x)) (numbered q met));
  }

  closed-list : (combine : Algorithm) (target : List (List (List Match))) (old behind mid : List (PlanNode A)) → mid ≡ (old ++ placeholder A combine ∷ []) ++ behind →
      slice_set mid (length old) (plan_nodes.Node combine target (length mid - length old - 1)) ≡ old ++ plan_nodes.Node combine target (length behind) ∷ behind
  closed-list combine target old behind mid e =
      let regrouped : mid ≡ old ++ placeholder A combine ∷ behind = e ∙ append_assoc old (placeholder A combine ∷ []) behind in
      let counted : length mid - length old - 1 ≡ length behind = ap (λ list. length list - length old - 1) regrouped ∙ omega (arith, length-append old (placeholder A combine ∷ behind)) in
      (λ i. slice_set (regrouped i) (length old) (plan_nodes.Node combine target (counted i))) ∙ set_at old (placeholder A combine) behind (plan_nodes.Node combine target (length behind)) (length old) refl

  -- a set or a policy whose target never holds can be left out
  pub node-never : (n : ℕ) (node : NodeData) (target : List (List (List Match))) (old : List (PlanNode A)) →
      ((q : Question) (met : List (List ℕ)) → false ≡ target_holds q met target → part_verdict q met n (node_part q met node) ≡ not_applicable) →
      ((q : Question) (met : List (List ℕ)) → Fits known q → target_holds q met target ≡ false) → Appends A known (λ q met. StandsFor q met n (node_part q met node)) old old
  node-never n node target old dropped never = appends_none n (λ q met. node_part q met node) old (λ q met fits. dropped q met (sym (never q met fits)))

  -- a set or a policy with a reduced target, and the steps below it
  node-in : (n : ℕ) (node : NodeData) (combine : Algorithm) (target left : List (List (List Match))) (parts : Question → List (List ℕ) → List (Decision × List Placed)) (old mid new : List (PlanNode A)) →
      ((q : Question) (met : List (List ℕ)) → true ≡ target_holds q met target → settled_verdict combine (gathered_of q met combine n (parts q met)) ≡ part_verdict q met n (node_part q met node)) →
      ((q : Question) (met : List (List ℕ)) → false ≡ target_holds q met target → part_verdict q met n (node_part q met node) ≡ not_applicable) →
      ((q : Question) (met : List (List ℕ)) → Fits known q → target_holds q met target ≡ target_holds q met left) →
      Appends A known (λ q met. AllStandFor q met n (parts q met)) (old ++ placeholder A combine ∷ []) mid → new ≡ slice_set mid (length old) (plan_nodes.Node combine left (length mid - length old - 1)) →
      Appends A known (λ q met. StandsFor q met n (node_part q met node)) old new
  node-in n node combine target left parts old mid new kept dropped same inner is = record {
    row = fork combine left inner.row no_branches;
    appended = is ∙ closed-list combine left old (flat A inner.row) mid inner.appended
        ∙ ap (λ list. old ++ plan_nodes.Node combine left (length (flat A inner.row)) ∷ list) (sym (append-nil (flat A inner.row)));
    meant = λ q met fits a g. ap (with_verdict a g) (by_target q met fits (target_holds q met left) (same q met fits));
  }
    where
      by_target : (q : Question) (met : List (List ℕ)) → Fits known q → (b : Bool) → target_holds q met target ≡ b →
          (if b then settled_verdict combine (gathered_from q met combine nothing_gathered inner.row) else not_applicable) ≡ part_verdict q met n (node_part q met node)
      by_target q met fits true holds = ap (settled_verdict combine) (inner.meant q met fits combine) ∙ kept q met (sym holds)
      by_target q met fits false other = sym (dropped q met (sym other))

  nothing-below : (q : Question) (met : List (List ℕ)) (a : Algorithm) (g : Gathered) (row : Branches) → length (flat A row) ≡ 0 → gathered_from q met a g row ≡ g
  nothing-below q met a g no_branches e = refl
  nothing-below q met a g (leaf number effect target when others) e = absurd (omega (arith, e))
  nothing-below q met a g (fork combine target below others) e = absurd (omega (arith, e))

  -- the same with nothing below it, where it would never be applicable: it can be left out
  node-out : (n : ℕ) (node : NodeData) (combine : Algorithm) (target : List (List (List Match))) (parts : Question → List (List ℕ) → List (Decision × List Placed)) (old mid new : List (PlanNode A)) →
      ((q : Question) (met : List (List ℕ)) → true ≡ target_holds q met target → settled_verdict combine (gathered_of q met combine n (parts q met)) ≡ part_verdict q met n (node_part q met node)) →
      ((q : Question) (met : List (List ℕ)) → false ≡ target_holds q met target → part_verdict q met n (node_part q met node) ≡ not_applicable) →
      Appends A known (λ q met. AllStandFor q met n (parts q met)) (old ++ placeholder A combine ∷ []) mid → is_silent combine ≡ true → length mid - length old - 1 ≡ 0 → new ≡ take (length old) mid →
      Appends A known (λ q met. StandsFor q met n (node_part q met node)) old new
  node-out n node combine target parts old mid new kept dropped inner quiet alone is =
      let regrouped : mid ≡ old ++ placeholder A combine ∷ flat A inner.row = inner.appended ∙ append_assoc old (placeholder A combine ∷ []) (flat A inner.row) in
      let none : length (flat A inner.row) ≡ 0 = omega (arith, alone, ap length regrouped, length-append old (placeholder A combine ∷ flat A inner.row)) in
      let begins : take (length old) mid ≡ old = ap (take (length old)) regrouped ∙ take_at old (placeholder A combine ∷ flat A inner.row) _ refl in
      record {
        row = no_branches;
        appended = is ∙ begins ∙ sym (append-nil old);
        meant = λ q met fits a g. sym (ap (with_verdict a g) (by_target q met fits none (target_holds q met target) refl) ∙ left_out a g);
      }
    where
      by_target : (q : Question) (met : List (List ℕ)) → Fits known q → length (flat A inner.row) ≡ 0 → (b : Bool) → target_holds q met target ≡ b → part_verdict q met n (node_part q met node) ≡ not_applicable
      by_target q met fits none true holds =
          sym (kept q met (sym holds)) ∙ ap (settled_verdict combine) (sym (inner.meant q met fits combine) ∙ nothing-below q met combine nothing_gathered inner.row none) ∙ silent combine quiet
      by_target q met fits none false other = dropped q met (sym other)

  -- either of the two
  pub node-kept : (n : ℕ) (node : NodeData) (combine : Algorithm) (target left : List (List (List Match))) (parts : Question → List (List ℕ) → List (Decision × List Placed)) (old mid new : List (PlanNode A)) →
      ((q : Question) (met : List (List ℕ)) → true ≡ target_holds q met target → settled_verdict combine (gathered_of q met combine n (parts q met)) ≡ part_verdict q met n (node_part q met node)) →
      ((q : Question) (met : List (List ℕ)) → false ≡ target_holds q met target → part_verdict q met n (node_part q met node) ≡ not_applicable) →
      ((q : Question) (met : List (List ℕ)) → Fits known q → target_holds q met target ≡ target_holds q met left) →
      Appends A known (λ q met. AllStandFor q met n (parts q met)) (old ++ placeholder A combine ∷ []) mid → new ≡ node_closed A (length old) combine left mid →
      Appends A known (λ q met. StandsFor q met n (node_part q met node)) old new
  node-kept n node combine target left parts old mid new kept dropped same inner is = by_size (is_silent combine) refl (length mid - length old - 1 == 0) refl is
    where
      by_size : (s : Bool) → is_silent combine ≡ s → (z : Bool) → (length mid - length old - 1 == 0) ≡ z →
          new ≡ (if s && z then take (length old) mid else slice_set mid (length old) (plan_nodes.Node combine left (length mid - length old - 1))) →
          Appends A known (λ q met. StandsFor q met n (node_part q met node)) old new
      by_size true quiet true alone is = node-out n node combine target parts old mid new kept dropped inner quiet ((Decides-eqb _ _).0 alone) is
      by_size true quiet false more is = node-in n node combine target left parts old mid new kept dropped same inner is
      by_size false loud z e is = node-in n node combine target left parts old mid new kept dropped same inner is

  abbrev pub NeverHolds : List (List (List Match)) → Type 0
  NeverHolds target = (q : Question) (met : List (List ℕ)) → Fits known q → target_holds q met target ≡ false

  abbrev pub HoldAlike : List (List (List Match)) → List (List (List Match)) → Type 0
  HoldAlike target left = (q : Question) (met : List (List ℕ)) → Fits known q → target_holds q met target ≡ target_holds q met left

  -- the two facts for sets, and for policies
  pub set-never : {X : Type 0} (view : X → NodeData) (n : ℕ) (head : Head) (xs : List X) (old : List (PlanNode A)) → NeverHolds head.target →
      Appends A known (λ q met. StandsFor q met n (node_part q met (set head (children_of (map view xs))))) old old
  set-never view n head xs old never = node-never n (set head (children_of (map view xs))) head.target old (λ q met other. left-set q met n head (children_of (map view xs)) other) never

  pub set-kept : {X : Type 0} (view : X → NodeData) (n : ℕ) (head : Head) (xs : List X) (left : List (List (List Match))) (old mid new : List (PlanNode A)) → HoldAlike head.target left →
      Appends A known (λ q met. AllStandFor q met n (map (λ x. node_part q met (view x)) xs)) (old ++ placeholder A head.combine ∷ []) mid → new ≡ node_closed A (length old) head.combine left mid →
      Appends A known (λ q met. StandsFor q met n (node_part q met (set head (children_of (map view xs))))) old new
  set-kept view n head xs left old mid new same inner is =
      node-kept n (set head (children_of (map view xs))) head.combine head.target left (λ q met. map (λ x. node_part q met (view x)) xs) old mid new
      (λ q met holds. ap (λ ps. settled_verdict head.combine (gathered_of q met head.combine n ps)) (sym (parts_of-map q met view xs)) ∙ settled-set q met n head (children_of (map view xs)) holds)
      (λ q met other. left-set q met n head (children_of (map view xs)) other) same inner is

  pub policy-never : (n : ℕ) (head : Head) (rules : List RuleData) (old : List (PlanNode A)) → NeverHolds head.target →
      Appends A known (λ q met. StandsFor q met n (node_part q met (policy head rules))) old old
  policy-never n head rules old never = node-never n (policy head rules) head.target old (λ q met other. left-policy q met n head rules other) never

  pub policy-kept : (n : ℕ) (head : Head) (rules : List RuleData) (left : List (List (List Match))) (old mid new : List (PlanNode A)) → HoldAlike head.target left →
      Appends A known (λ q met. AllStandFor q met n (map (rule_part q met) rules)) (old ++ placeholder A head.combine ∷ []) mid → new ≡ node_closed A (length old) head.combine left mid →
      Appends A known (λ q met. StandsFor q met n (node_part q met (policy head rules))) old new
  policy-kept n head rules left old mid new same inner is =
      node-kept n (policy head rules) head.combine head.target left (λ q met. map (rule_part q met) rules) old mid new
      (λ q met holds. settled-policy q met n head rules holds) (λ q met other. left-policy q met n head rules other) same inner is

-- first-applicable over one branch gives that branch's verdict
sole : (d : Decision) (rule : Option ℕ) → (d ≡ NotApplicable → rule ≡ None) → settled_verdict FirstApplicable (with_verdict FirstApplicable nothing_gathered (verdict d rule)) ≡ verdict d rule
unfolding verdict
sole Permit rule none = refl
sole Deny rule none = refl
sole NotApplicable rule none = ap (verdict NotApplicable) (sym (none refl))

pub stands-root : (q : Question) (met : List (List ℕ)) (root : NodeData) (row : Branches) → StandsFor q met 1 (node_part q met root) row →
    branches_verdict q met FirstApplicable row ≡ verdict_of q met root
unfolding verdict
stands-root q met root row stands =
    ap (settled_verdict FirstApplicable) (stands FirstApplicable nothing_gathered)
    ∙ sole (decision_of q met root) _ (λ e. ap (λ d. position_from (is_deciding q met d) 1 (placed_rules q met root)) e ∙ none_unmakes q met 1 (placed_rules q met root))
