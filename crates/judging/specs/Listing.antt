-- The features that a search lists.
use Rattle.std.specs.Prelude.{◌≡◌, ◌⊎◌, List, [], ◌∷◌}
use Rattle.plane.specs.declared.point.Point.{Point}
use Rattle.plane.specs.Rows.{Meet}
use Rattle.features.specs.declared.actors.Action.{Action}
use Rattle.features.specs.declared.actors.Action.TheVariants.{Read}
use Rattle.features.specs.declared.actors.Subject.{Subject}
use Rattle.features.specs.declared.rows.Feature.{Feature}
use Rattle.policy_documents.specs.Documents.{DocumentData}
use Rattle.combining.specs.declared.questions.Question.{Question}
use Rattle.decision.specs.Rulings.{Permits}
use Rattle.judging.specs.States.{PlainState}

-- may the subject do this with the feature, at this shape?
abbrev pub question_on : Subject → Action → Feature → List Point → Question
question_on subject action feature shape =
    record {
      subject = subject;
      action = action;
      owner = feature.office;
      class = feature.class;
      shape = shape;
    }

-- a feature is shown if its shape meets the window and the document permits the subject to read it
abbrev pub IsShown : DocumentData → Subject → List Point → Feature → Type 0
IsShown document subject window feature =
    Meet feature.shape window × Permits document (question_on subject Read feature feature.shape)

-- the rows are the shown ones of the features, in their order
abbrev pub IsListed : DocumentData → Subject → List Point → List Feature → List Feature → Type 0
IsListed document subject window [] rows = rows ≡ []
IsListed document subject window (feature ∷ features) rows =
    (IsShown document subject window feature
    × ((others : List Feature) × (rows ≡ feature ∷ others)
    × IsListed document subject window features others))
    ⊎ (¬ IsShown document subject window feature × IsListed document subject window features rows)

-- the listing for a subject and a window at a state
abbrev pub Listed : PlainState → Subject → List Point → List Feature → Type 0
Listed state subject window rows =
    IsListed state.decider.document subject window state.features rows

-- each of the rows is shown
abbrev pub AreShown : DocumentData → Subject → List Point → List Feature → Type 0
AreShown document subject window [] = Unit {0}
AreShown document subject window (row ∷ rows) =
    IsShown document subject window row × AreShown document subject window rows
