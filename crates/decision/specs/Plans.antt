-- What a document is compiled to: its numbered rules, its sets and its policies, in one flat list.
-- A set or a policy has the number of steps below it, so that they can be skipped.
use Rattle.std.specs.Prelude.{◌≡◌, ℕ, ◌&&◌, List, [], ◌∷◌, ◌++◌, length, None, Some, if◌then◌else◌}
use Rattle.std.specs.List.{list_all}
use Rattle.policy_documents.specs.Documents.{NodeData}
use Rattle.policy_documents.specs.declared.algorithms.Algorithm.{Algorithm}
use Rattle.policy_documents.specs.declared.algorithms.Algorithm.TheVariants.{FirstApplicable}
use Rattle.policy_documents.specs.declared.algorithms.Effect.{Effect}
use Rattle.policy_documents.specs.declared.matches.Match.{Match}
use Rattle.policy_documents.specs.declared.matches.Atom.{Atom}
use Rattle.combining.specs.declared.questions.Question.{Question}
use Rattle.combining.specs.declared.decisions.Decision.TheVariants.{NotApplicable}
use Rattle.combining.specs.declared.decisions.Verdict.{Verdict}
use Rattle.combining.specs.declared.gathering.Gathered.{Gathered}
use Rattle.decision.specs.declared.plan_nodes.PlanNode.{PlanNode}
use Rattle.decision.specs.declared.plan_nodes.PlanNode.TheVariants as plan_nodes
use Rattle.combining.specs.Holding.{atom_holds, target_holds}
use Rattle.combining.specs.Decisions.{effect_decision}
use Rattle.combining.specs.Deciding.{verdict_of}
use Rattle.combining.specs.Gathering.{with_verdict, settled_verdict, nothing_gathered}

-- siblings: rules with their numbers, and sets and policies with what is below them
pub data Branches : Type 0 where
  no_branches : Branches
  leaf : ℕ → Effect → List (List (List Match)) → List Atom → Branches → Branches
  fork : Algorithm → List (List (List Match)) → Branches → Branches → Branches

-- siblings as one flat list
abbrev pub flat : (A : Type 0) → Branches → List (PlanNode A)
flat A no_branches = []
flat A (leaf number effect target when others) =
    plan_nodes.Rule number effect target when ∷ flat A others
flat A (fork combine target below others) =
    plan_nodes.Node combine target (length (flat A below)) ∷ (flat A below ++ flat A others)

abbrev pub IsFlat : (A : Type 0) → List (PlanNode A) → Type 0
IsFlat A list = (row : Branches) × (list ≡ flat A row)

-- how many steps are below a step
abbrev pub count_below : (A : Type 0) → PlanNode A → ℕ
count_below A (plan_nodes.Rule number effect target when) = 0
count_below A (plan_nodes.Node combine target below) = below

abbrev pub not_applicable : Verdict
not_applicable = record { decision = NotApplicable; rule = None }

module _ (q : Question) (met : List (List ℕ)) where
  abbrev pub leaf_verdict : ℕ → Effect → List (List (List Match)) → List Atom → Verdict
  leaf_verdict number effect target when =
      if target_holds q met target && list_all (atom_holds q met) when then
      record { decision = effect_decision effect; rule = Some number } else not_applicable

  -- what is gathered of siblings, starting from g
  abbrev pub gathered_from : Algorithm → Gathered → Branches → Gathered
  gathered_from a g no_branches = g
  gathered_from a g (leaf number effect target when others) =
      gathered_from a (with_verdict a g (leaf_verdict number effect target when)) others
  gathered_from a g (fork combine target below others) =
      gathered_from a (with_verdict a g
      (if target_holds q met target then
      settled_verdict combine (gathered_from combine nothing_gathered below)
      else not_applicable)) others

  abbrev pub branches_verdict : Algorithm → Branches → Verdict
  branches_verdict a row = settled_verdict a (gathered_from a nothing_gathered row)

  -- what a step decides, with these branches below it
  abbrev pub step_verdict : (A : Type 0) → PlanNode A → Branches → Verdict
  step_verdict A (plan_nodes.Rule number effect target when) below =
      leaf_verdict number effect target when
  step_verdict A (plan_nodes.Node combine target count) below =
      if target_holds q met target then branches_verdict combine below else not_applicable

-- the list decides this question as the tree with this root does. At the top there is at most one
-- branch, and any algorithm would give the same.
pub record Decides (A : Type 0) (list : List (PlanNode A)) (root : NodeData) (q : Question) : Type 0
  where
    pub row : Branches
    pub is : list ≡ flat A row
    pub decides : (met : List (List ℕ))
        → branches_verdict q met FirstApplicable row ≡ verdict_of q met root
