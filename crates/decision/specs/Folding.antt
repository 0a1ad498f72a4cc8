-- What contracts see of a folded decider: the decider, the subject and the action.
use Rattle.std.specs.Prelude.{◌≡◌, ℕ, List}
use Rattle.std.proofs.Common.{ap}
use Rattle.plane.specs.declared.point.Point.{Point}
use Rattle.features.specs.declared.actors.Action.{Action}
use Rattle.features.specs.declared.actors.Subject.{Subject}
use Rattle.combining.specs.declared.questions.Question.{Question}
use Rattle.decision.specs.Deciders as deciders
use Rattle.decision.specs.Deciders.{DeciderData}

pub record FoldedData : Type 0 where
  pub decider : DeciderData
  pub subject : Subject
  pub action : Action

-- the question that a folded decider is asked
abbrev pub asked : FoldedData → List ℕ → List ℕ → List Point → Question
asked f owner class shape = record {
  subject = f.subject;
  action = f.action;
  owner = owner;
  class = class;
  shape = shape;
}

-- codes by which proofs tell two of them apart
abbrev pub Stored : Type 0
Stored = deciders.Stored × (Subject × Action)

abbrev pub stored : FoldedData → Stored
stored f = (deciders.stored f.decider, (f.subject, f.action))

abbrev pub restored : Stored → FoldedData
restored s = record { decider = deciders.restored s.0; subject = s.1.0; action = s.1.1 }

abbrev pub restored-stored : (f : FoldedData) → restored (stored f) ≡ f
restored-stored f =
    ap (λ (decider : DeciderData). let e : FoldedData = record {
      decider = decider;
      subject = f.subject;
      action = f.action;
    } in e) (deciders.restored-stored f.decider)
