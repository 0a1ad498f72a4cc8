-- What is appended for the parts of a document while it is compiled. Only contracts of private
-- functions use it.
use Rattle.std.specs.Prelude.{◌≡◌, ◌==◌, ℕ, ◌-◌, Bool, true, false, ◌&&◌, List, [], ◌++◌, length, take, if◌then◌else◌}
use Rattle.std.specs.Prelude.{slice_set}
use Rattle.policy_documents.specs.declared.algorithms.Algorithm.{Algorithm}
use Rattle.policy_documents.specs.declared.algorithms.Algorithm.TheVariants.{DenyOverrides, PermitOverrides, DenyUnlessPermit, PermitUnlessDeny, FirstApplicable}
use Rattle.policy_documents.specs.declared.matches.Match.{Match}
use Rattle.combining.specs.declared.questions.Question.{Question}
use Rattle.combining.specs.declared.decisions.Decision.{Decision}
use Rattle.combining.specs.declared.gathering.Gathered.{Gathered}
use Rattle.decision.specs.declared.known.Known.{Known}
use Rattle.decision.specs.declared.plan_nodes.PlanNode.{PlanNode}
use Rattle.decision.specs.declared.plan_nodes.PlanNode.TheVariants as plan_nodes
use Rattle.combining.specs.Deciding.{Placed}
use Rattle.combining.specs.Gathering.{with_verdict, nothing_gathered, part_verdict, gathered_of}
use Rattle.decision.specs.Known.{Fits}
use Rattle.decision.specs.Plans.{Branches, flat, gathered_from}

-- the new list is the old one, then branches that mean this for each question that fits `known`
pub record Appends (A : Type 0) (known : Known) (means : Question → List (List ℕ) → Branches
    → Type 0) (old new : List (PlanNode A)) : Type 0 where
  pub row : Branches
  pub appended : new ≡ old ++ flat A row
  pub meant : (q : Question) (met : List (List ℕ)) → Fits known q → means q met row

module _ (q : Question) (met : List (List ℕ)) where
  -- these branches decide as a part of a node does, if the part's first rule has the number `n`
  abbrev pub StandsFor : ℕ → Decision × List Placed → Branches → Type 0
  StandsFor n part row = (a : Algorithm) (g : Gathered)
      → gathered_from q met a g row ≡ with_verdict a g (part_verdict q met n part)

  -- these branches decide as all these parts do, if the first rule of the parts has the number `n`
  abbrev pub AllStandFor : ℕ → List (Decision × List Placed) → Branches → Type 0
  AllStandFor n parts row = (a : Algorithm)
      → gathered_from q met a nothing_gathered row ≡ gathered_of q met a n parts

-- what holds a node's place until the steps below it are known
abbrev pub placeholder : (A : Type 0) → Algorithm → PlanNode A
placeholder A combine = plan_nodes.Node combine [] 0

-- an algorithm by which a set or a policy with nothing below it is not applicable
abbrev pub is_silent : Algorithm → Bool
is_silent DenyOverrides = true
is_silent PermitOverrides = true
is_silent DenyUnlessPermit = false
is_silent PermitUnlessDeny = false
is_silent FirstApplicable = true

-- the list with its placeholder replaced by a node that has all steps after it below it; without
-- the placeholder, where nothing is below it and the node would never be applicable
abbrev pub node_closed : (A : Type 0) → ℕ → Algorithm → List (List (List Match)) → List (PlanNode A)
    → List (PlanNode A)
node_closed A place combine target list =
    if is_silent combine && length list - place - 1 == 0 then take place list
    else slice_set list place (plan_nodes.Node combine target (length list - place - 1))
