-- What sets and policies need to be read after what was seen.
use Rattle.std.proofs.Common.{◌≡◌, ℕ, suc, ◌+◌, ◌≤◌, Bool, IsTrue, List, [], ◌∷◌, ◌++◌, length, sym, ap, ◌∙◌, arith, append_assoc, length-append}
use Rattle.std.specs.List.{list_all}
use Rattle.std.proofs.lemmas.Bool.{and_parts}
use Rattle.std.proofs.lemmas.List.Folds.{list_all-append}
use Rattle.features.specs.Names as spelling
use Rattle.policy_documents.specs.Documents.{Head, NodeData, set, Children, child, depth_of, depth_of_all, node_count, node_count_of_all, rules_of, rules_of_all, test_count, test_count_of_all, names_of, names_of_all, targets_of, targets_of_all, matches_of, matches_of_all, target_matches, is_target, are_distinct}
use Rattle.policy_text.specs.Reading.{Seen}
use Rattle.policy_text.proofs.SeenAfter.{after_node}
use Rattle.policy_documents.specs.declared.zones.Zone.{Zone}
use Rattle.policy_text.proofs.PrintedSteps.{distinct_behind, distinct_front}
use Rattle.policy_text.proofs.PrintedMatches.{is_readable}
use Rattle.policy_text.proofs.PrintedHeads.{IsHeadHere, after_head}

pub record IsNodeHere (zones : List Zone) (levels : ℕ) (seen : Seen) (node : NodeData) : Type 0 where
  pub depth : depth_of node ≤ levels
  pub nodes : seen.nodes + node_count node ≤ 512
  pub rules : seen.rules + length (rules_of node) ≤ 512
  pub tests : seen.tests + test_count node ≤ 4096
  pub distinct : IsTrue (are_distinct (seen.names ++ names_of node))
  pub spelled : IsTrue (list_all spelling.is_name (names_of node))
  pub targets : IsTrue (list_all is_target (targets_of node))
  pub matches : IsTrue (list_all (is_readable zones) (matches_of node))

pub record AreNodesHere (zones : List Zone) (levels : ℕ) (seen : Seen) (children : Children) : Type 0 where
  pub depth : depth_of_all children ≤ levels
  pub nodes : seen.nodes + node_count_of_all children ≤ 512
  pub rules : seen.rules + length (rules_of_all children) ≤ 512
  pub tests : seen.tests + test_count_of_all children ≤ 4096
  pub distinct : IsTrue (are_distinct (seen.names ++ names_of_all children))
  pub spelled : IsTrue (list_all spelling.is_name (names_of_all children))
  pub targets : IsTrue (list_all is_target (targets_of_all children))
  pub matches : IsTrue (list_all (is_readable zones) (matches_of_all children))

-- both parts of a list pass a test
pub both_pass : {X : Type 0} (p : X → Bool) (xs ys : List X) → IsTrue (list_all p (xs ++ ys)) → IsTrue (list_all p xs) × IsTrue (list_all p ys)
both_pass p xs ys h = and_parts (list_all p xs) (list_all p ys) (sym (list_all-append p xs ys) ∙ h)

module _ (zones : List Zone) (levels : ℕ) (seen : Seen) where
  module _ (head : Head) (children : Children) where
    pub set_head : IsNodeHere zones (suc levels) seen (set head children) → IsHeadHere zones seen head
    set_head h = record {
      spelled = (and_parts (spelling.is_name head.name) (list_all spelling.is_name (names_of_all children)) h.spelled).0;
      target = (and_parts (is_target head.target) (list_all is_target (targets_of_all children)) h.targets).0;
      matches = (both_pass (is_readable zones) (target_matches head.target) (matches_of_all children) h.matches).0;
      fresh = distinct_behind seen.names head.name (names_of_all children) h.distinct;
      nodes = omega arith;
      tests = omega arith;
    }

    pub set_below : IsNodeHere zones (suc levels) seen (set head children) → AreNodesHere zones levels (after_head seen head) children
    set_below h = record {
      depth = omega arith;
      nodes = omega arith;
      rules = h.rules;
      tests = omega arith;
      distinct = ap are_distinct (append_assoc seen.names (head.name ∷ []) (names_of_all children)) ∙ h.distinct;
      spelled = (and_parts (spelling.is_name head.name) (list_all spelling.is_name (names_of_all children)) h.spelled).1;
      targets = (and_parts (is_target head.target) (list_all is_target (targets_of_all children)) h.targets).1;
      matches = (both_pass (is_readable zones) (target_matches head.target) (matches_of_all children) h.matches).1;
    }

  module _ (node : NodeData) (rest : Children) where
    pub first_here : AreNodesHere zones levels seen (child node rest) → IsNodeHere zones levels seen node
    first_here h =
        let same : (seen.names ++ names_of node) ++ names_of_all rest ≡ seen.names ++ (names_of node ++ names_of_all rest) = append_assoc seen.names (names_of node) (names_of_all rest) in
        record {
          depth = omega arith;
          nodes = omega arith;
          rules = omega (arith, length-append (rules_of node) (rules_of_all rest));
          tests = omega arith;
          distinct = distinct_front (seen.names ++ names_of node) (names_of_all rest) (ap are_distinct same ∙ h.distinct);
          spelled = (both_pass spelling.is_name (names_of node) (names_of_all rest) h.spelled).0;
          targets = (both_pass is_target (targets_of node) (targets_of_all rest) h.targets).0;
          matches = (both_pass (is_readable zones) (matches_of node) (matches_of_all rest) h.matches).0;
        }

    pub rest_here : AreNodesHere zones levels seen (child node rest) → AreNodesHere zones levels (after_node seen node) rest
    rest_here h = record {
      depth = omega arith;
      nodes = omega arith;
      rules = omega (arith, length-append (rules_of node) (rules_of_all rest));
      tests = omega arith;
      distinct = ap are_distinct (append_assoc seen.names (names_of node) (names_of_all rest)) ∙ h.distinct;
      spelled = (both_pass spelling.is_name (names_of node) (names_of_all rest) h.spelled).1;
      targets = (both_pass is_target (targets_of node) (targets_of_all rest) h.targets).1;
      matches = (both_pass (is_readable zones) (matches_of node) (matches_of_all rest) h.matches).1;
    }
