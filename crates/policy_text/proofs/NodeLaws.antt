-- Rules, policies and sets that were read are sound.
use Rattle.std.proofs.Common.{◌≡◌, ℕ, zero, suc, ◌+◌, Bool, true, List, ◌++◌, sym, subst, arith, Ok, Result}
use Rattle.serde_json.specs.Data.{Data, Items}
use Rattle.policy_documents.specs.Documents.{RuleData, Head, NodeData, Children, set, policy, children_of, target_matches, is_target}
use Rattle.policy_text.specs.Reading.{Seen, at_key, has_key, object_in, name_in, effect_in, algorithm_in, array_in, optional_array_in, rule_keys, rule_at, head_at, policy_at, set_at, node_at, policy_keys, set_keys}
use Rattle.policy_documents.specs.declared.zones.Zone.{Zone}
use Rattle.policy_documents.specs.declared.matches.Match.{Match}
use Rattle.policy_text.specs.declared.paths.MemberName.{MemberName}
use Rattle.policy_text.specs.declared.paths.MemberName.TheVariants as member_names
use Rattle.policy_text.specs.declared.paths.PathPart.{PathPart}
use Rattle.policy_text.specs.declared.faults.TextFault.{TextFault}
use Rattle.policy_text.proofs.ChainLemmas.{bound, same_value, either, name_in-spelled, within-read}
use Rattle.policy_text.proofs.TestLaws.{IsTested, then_tested}
use Rattle.policy_text.proofs.TargetLaws.{target_at-tested, when_at-tested}
use Rattle.policy_text.proofs.ContentLemmas.{rule_contents, head_contents, node_contents, rules_contents, children_contents, all_contents-rules, all_contents-nodes}
use Rattle.policy_text.proofs.PartLaws.{beside, all_contents, IsSound, then_sound, each_sound, own_sound}

module _ (zones : List Zone) (levels : ℕ) where
  -- a target, and the conditions after it
  target_and_when : (a b c size more : ℕ) (xs ys : List Match) (full : Bool) → IsTested zones a size xs full b → IsTested zones b more ys true c → IsTested zones a (size + more) (xs ++ ys) full c
  target_and_when a b c size more xs ys full h k =
      let both = then_tested zones a b c size more xs ys full true h k in
      record { count = both.count; within = both.within; known = both.known; spelled = both.spelled; filled = h.filled }

  rule_at-sound : (path : List PathPart) (s : Seen) (d : Data) (r : RuleData × Seen) → rule_at zones path s d ≡ Ok r → IsSound zones levels s (rule_contents r.0) r.1
  unfolding rule_at
  rule_at-sound path s d r told =
      bound (object_in rule_keys path d) _ r told (λ _ _ a. bound (name_in member_names.Rule path d) _ r a (λ name spelled b. bound (effect_in path d) _ r b (λ effect _ c.
      bound (optional_array_in member_names.Target path d) _ r c (λ target _ e. bound (optional_array_in member_names.When path d) _ r e (λ when _ f. bound _ _ r f (λ names new g.
      bound _ _ r g (λ rules more h. bound _ _ r h (λ t target_read i. bound _ _ r i (λ w when_read end.
      let n = within-read path 512 s.rules rules more in
      let tested = target_and_when s.tests t.1 w.1 _ _ (target_matches t.0) _ (is_target t.0)
      (target_at-tested zones (at_key path member_names.Target) s.tests target t target_read) (when_at-tested zones (at_key path member_names.When) t.1 when w when_read) in
      subst (λ q. IsSound zones levels s (rule_contents q.0) q.1) (same_value _ r end)
      (own_sound zones levels s (record { names = names; nodes = s.nodes; rules = rules; tests = w.1 }) (at_key path member_names.Rule) name 0 1 _ _ t.0
      (name_in-spelled member_names.Rule path d name spelled) new (omega arith) (sym n.1) (λ low. low) (λ _. omega (arith, n.0, n.1)) tested))))))))))

  -- the head of a set or a policy
  head_at-sound : (listed : List MemberName) (name_key children : MemberName) (path : List PathPart) (s : Seen) (d : Data) (r : Head × (Seen × Items)) →
      head_at zones listed name_key children path s d ≡ Ok r → IsSound zones levels s (head_contents r.0) r.1.0
  unfolding head_at
  head_at-sound listed name_key children path s d r told =
      bound (object_in listed path d) _ r told (λ _ _ a. bound (name_in name_key path d) _ r a (λ name spelled b. bound (algorithm_in path d) _ r b (λ combine _ c.
      bound (optional_array_in member_names.Target path d) _ r c (λ target _ e. bound (array_in children path d) _ r e (λ items _ f. bound _ _ r f (λ names new g.
      bound _ _ r g (λ nodes more h. bound _ _ r h (λ t target_read end.
      let n = within-read path 512 s.nodes nodes more in
      subst (λ q. IsSound zones levels s (head_contents q.0) q.1.0) (same_value _ r end)
      (own_sound zones levels s (record { names = names; nodes = nodes; rules = s.rules; tests = t.1 }) (at_key path name_key) name 1 0 _ (target_matches t.0) t.0
      (name_in-spelled name_key path d name spelled) new (sym n.1) (omega arith) (λ _. omega (arith, n.0, n.1)) (λ low. low)
      (target_at-tested zones (at_key path member_names.Target) s.tests target t target_read))))))))))

  -- a node whose head and children are sound is sound
  policy_sound : (s t : Seen) (head : Head) (rules : List RuleData) → IsSound zones levels s (beside (head_contents head) (rules_contents rules)) t →
      IsSound zones (suc levels) s (node_contents (policy head rules)) t
  policy_sound s t head rules h = record {
    names = h.names;
    nodes = h.nodes;
    rules = omega (arith, h.rules);
    tests = h.tests;
    depth = omega arith;
    known = h.known;
    spelled = h.spelled;
    named = h.named;
    filled = h.filled;
    kept = h.kept;
  }

  set_sound : (s t : Seen) (head : Head) (nodes : Children) → IsSound zones levels s (beside (head_contents head) (children_contents nodes)) t →
      IsSound zones (suc levels) s (node_contents (set head nodes)) t
  set_sound s t head nodes h = record {
    names = h.names;
    nodes = omega (arith, h.nodes);
    rules = omega (arith, h.rules);
    tests = h.tests;
    depth = omega (arith, h.depth);
    known = h.known;
    spelled = h.spelled;
    named = h.named;
    filled = h.filled;
    kept = h.kept;
  }

  policy_at-sound : (path : List PathPart) (s : Seen) (d : Data) (r : NodeData × Seen) → policy_at zones path s d ≡ Ok r → IsSound zones (suc levels) s (node_contents r.0) r.1
  unfolding policy_at
  policy_at-sound path s d r told = bound (head_at zones policy_keys member_names.Policy member_names.Rules path s d) _ r told (λ h head a. bound _ _ r a (λ rules read end.
      let own = head_at-sound policy_keys member_names.Policy member_names.Rules path s d h head in
      let below = each_sound zones levels (rule_at zones) rule_contents rule_at-sound (at_key path member_names.Rules) 0 h.1.0 h.1.1 rules read in
      subst (λ q. IsSound zones (suc levels) s (node_contents q.0) q.1) (same_value _ r end)
      (policy_sound s rules.1 h.0 rules.0 (subst (λ c. IsSound zones levels s (beside (head_contents h.0) c) rules.1) (all_contents-rules rules.0)
      (then_sound zones levels s h.1.0 rules.1 (head_contents h.0) (all_contents rule_contents rules.0) own below)))))

  module _ (read : List PathPart → Seen → Data → Result (NodeData × Seen) TextFault)
      (reads : (path : List PathPart) (s : Seen) (d : Data) (r : NodeData × Seen) → read path s d ≡ Ok r → IsSound zones levels s (node_contents r.0) r.1) where
    set_at-sound : (path : List PathPart) (s : Seen) (d : Data) (r : NodeData × Seen) → set_at read zones path s d ≡ Ok r → IsSound zones (suc levels) s (node_contents r.0) r.1
    unfolding set_at
    set_at-sound path s d r told = bound (head_at zones set_keys member_names.Set member_names.Of path s d) _ r told (λ h head a. bound _ _ r a (λ nodes found end.
        let own = head_at-sound set_keys member_names.Set member_names.Of path s d h head in
        let below = each_sound zones levels read node_contents reads (at_key path member_names.Of) 0 h.1.0 h.1.1 nodes found in
        subst (λ q. IsSound zones (suc levels) s (node_contents q.0) q.1) (same_value _ r end)
        (set_sound s nodes.1 h.0 (children_of nodes.0) (subst (λ c. IsSound zones levels s (beside (head_contents h.0) c) nodes.1) (all_contents-nodes nodes.0)
        (then_sound zones levels s h.1.0 nodes.1 (head_contents h.0) (all_contents node_contents nodes.0) own below)))))

-- a set or a policy that was read is sound and no deeper than `levels`
pub node_at-sound : (zones : List Zone) (levels : ℕ) (path : List PathPart) (s : Seen) (d : Data) (r : NodeData × Seen) → node_at zones levels path s d ≡ Ok r →
    IsSound zones levels s (node_contents r.0) r.1
unfolding node_at
node_at-sound zones zero path s d r told = absurd cc
node_at-sound zones (suc levels) path s d r told =
    either (λ q. IsSound zones (suc levels) s (node_contents q.0) q.1) (has_key member_names.Set d) (set_at (node_at zones levels) zones path s d) (policy_at zones path s d) r
    (set_at-sound zones levels (node_at zones levels) (node_at-sound zones levels) path s d r) (policy_at-sound zones levels path s d r) told
