-- What is left of a document once all but a feature's shape is known, and what contracts see of it.
use Rattle.std.specs.Prelude.{◌≡◌, ℕ, List}
use Rattle.std.proofs.Common.{ap}
use Rattle.policy_documents.specs.Documents.{DocumentData}
use Rattle.combining.specs.declared.questions.Question.{Question}
use Rattle.decision.specs.declared.known.Known.TheVariants.{Feature}
use Rattle.decision.specs.declared.known.Standpoint.{Standpoint}
use Rattle.decision.specs.declared.plan_nodes.PlanNode.{PlanNode}
use Rattle.decision.specs.Deciders as deciders
use Rattle.decision.specs.Deciders.{DeciderData}
use Rattle.decision.specs.Known.{Fits}
use Rattle.decision.specs.Plans.{Decides}

-- this list decides as the document does what is asked from this standpoint of features of this
-- office and class, whatever their shape
abbrev pub IsRest : {A : Type 0} → DocumentData → Standpoint → List ℕ → List ℕ → List (PlanNode A)
    → Type 0
IsRest {A} document at owner class list =
    (q : Question) → Fits (Feature at owner class) q → Decides A list document.root q

-- what contracts see of the rests of one standpoint
pub record RestsData : Type 0 where
  pub decider : DeciderData
  pub standpoint : Standpoint

-- codes by which proofs tell two of them apart
abbrev pub StoredRests : Type 0
StoredRests = deciders.Stored × Standpoint

abbrev pub stored_rests : RestsData → StoredRests
stored_rests r = (deciders.stored r.decider, r.standpoint)

abbrev pub restored_rests : StoredRests → RestsData
restored_rests s = record { decider = deciders.restored s.0; standpoint = s.1 }

abbrev pub restored_rests-stored_rests : (r : RestsData) → restored_rests (stored_rests r) ≡ r
restored_rests-stored_rests r =
    ap (λ (decider : DeciderData). let e : RestsData = record {
      decider = decider;
      standpoint = r.standpoint;
    } in e) (deciders.restored-stored r.decider)
