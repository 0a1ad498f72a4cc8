-- What is kept of the children of a set or a policy while they are evaluated. Of the public
-- contracts, those of `Gathered` and `rule_count` use it.
use Rattle.std.specs.Prelude.{ℕ, Bool, true, ◌&&◌, List, [], map, Option, None, if◌then◌else◌}
use Rattle.std.specs.List.{list_all, position_from}
use Rattle.std.specs.Option.{option_or}
use Rattle.policy_documents.specs.Documents.{NodeData}
use Rattle.policy_documents.specs.declared.algorithms.Algorithm.{Algorithm}
use Rattle.combining.specs.declared.questions.Question.{Question}
use Rattle.combining.specs.declared.decisions.Decision.{Decision}
use Rattle.combining.specs.declared.decisions.Decision.TheVariants.{Permit, Deny, NotApplicable}
use Rattle.combining.specs.declared.decisions.Verdict.{Verdict}
use Rattle.combining.specs.declared.gathering.Gathered.{Gathered}
use Rattle.combining.specs.Decisions.{is_permit, is_deny, is_not_applicable, decision_of}
use Rattle.combining.specs.Deciding.{Placed, is_first_applicable, is_deciding, placed_rules, placed_within}
use Rattle.combining.specs.Tallies.{tally_of, with_decision, settled}

-- the greatest number that a rule can have
abbrev pub last_number : ℕ
last_number = 4294967295

-- rules after a child with this decision still count
abbrev pub stays_open : Algorithm → Decision → Bool
stays_open a d = if is_first_applicable a then is_not_applicable d else true

abbrev pub nothing_gathered : Gathered
nothing_gathered = record { tally = tally_of []; counts = true; permitting = None; denying = None }

-- one more child
abbrev pub with_verdict : Algorithm → Gathered → Verdict → Gathered
with_verdict a g v = record {
  tally = with_decision g.tally v.decision;
  counts = g.counts && stays_open a v.decision;
  permitting = if g.counts && is_permit v.decision then option_or g.permitting v.rule
      else g.permitting;
  denying = if g.counts && is_deny v.decision then option_or g.denying v.rule else g.denying;
}

-- the first rule that made a decision
abbrev pub rule_for : Gathered → Decision → Option ℕ
rule_for g Permit = g.permitting
rule_for g Deny = g.denying
rule_for g NotApplicable = None

-- the verdict of an algorithm on what was gathered
abbrev pub settled_verdict : Algorithm → Gathered → Verdict
settled_verdict a g = record { decision = settled a g.tally; rule = rule_for g (settled a g.tally) }

module _ (q : Question) (met : List (List ℕ)) where
  -- a node as a part of a set
  abbrev pub node_part : NodeData → Decision × List Placed
  node_part node = (decision_of q met node, placed_rules q met node)

  -- the decision of a part and the first rule that made it, if the part's rules start at number `n`
  abbrev pub part_verdict : ℕ → Decision × List Placed → Verdict
  part_verdict n part = record {
    decision = part.0;
    rule = position_from (is_deciding q met part.0) n part.1;
  }

  -- the first rule of these parts that makes the decision d, in a node with that decision
  abbrev pub first_making : Algorithm → ℕ → List (Decision × List Placed) → Decision → Option ℕ
  first_making a n parts d = position_from (is_deciding q met d) n
      (placed_within q met a d [] parts)

  -- what is gathered of these parts, if their first rule has the number `n`
  abbrev pub gathered_of : Algorithm → ℕ → List (Decision × List Placed) → Gathered
  gathered_of a n parts = record {
    tally = tally_of (map (λ part. part.0) parts);
    counts = if is_first_applicable a then list_all is_not_applicable (map (λ part. part.0) parts)
        else true;
    permitting = first_making a n parts Permit;
    denying = first_making a n parts Deny;
  }
