-- Which change of a list fails first, and why.
use Rattle.std.specs.Prelude.{◌≡◌, ℕ, ◌+◌, ◌==◌, List, [], ◌∷◌, Option, None, Some, MatchOption, if◌then◌else◌}
use Rattle.std.specs.Option.{option_or}
use Rattle.plane.specs.declared.point.Point.{Point}
use Rattle.features.specs.declared.actors.Action.TheVariants as actions
use Rattle.features.specs.declared.actors.Subject.{Subject}
use Rattle.features.specs.declared.rows.Change.{Change}
use Rattle.features.specs.declared.rows.Change.TheVariants.{Add, Reshape, Delete}
use Rattle.features.specs.declared.rows.Feature.{Feature}
use Rattle.features.specs.Rows.{feature_with}
use Rattle.features.specs.Changes.{change_id, IsUnnamed}
use Rattle.policy_documents.specs.Documents.{DocumentData}
use Rattle.combining.specs.declared.questions.Question.{Question}
use Rattle.decision.specs.declared.rulings.Ruling.{Ruling}
use Rattle.decision.specs.declared.rulings.Ruling.TheVariants.{Permit, DeniedBy, NoneApplied}
use Rattle.decision.specs.Rulings.{Rules, Denies}
use Rattle.judging.specs.declared.causes.Cause.{Cause}
use Rattle.judging.specs.declared.causes.Cause.TheVariants.{Denied, Exists, Absent, Stale}
use Rattle.judging.specs.declared.causes.Objection.{Objection}
use Rattle.judging.specs.declared.causes.Judgement.{Judgement}
use Rattle.judging.specs.declared.causes.Judgement.TheVariants.{Accepted, Refused}
use Rattle.judging.specs.States.{PlainState}
use Rattle.judging.specs.Listing.{question_on}

-- may the subject add a feature of this class at this shape? The subject's office would own it.
abbrev pub question_on_new : Subject → List ℕ → List Point → Question
question_on_new subject class shape =
    record {
      subject = subject;
      action = actions.Add;
      owner = subject.office;
      class = class;
      shape = shape;
    }

-- the objection that follows from a ruling on a question
abbrev pub denial : Question → Ruling → Option Objection
denial question (Permit rule) = None
denial question (DeniedBy rule) =
    Some (record { cause = Denied (Some rule); question = Some question })
denial question NoneApplied = Some (record { cause = Denied None; question = Some question })

-- the objection that follows from the document's ruling on a question
abbrev pub DenialOf : DocumentData → Question → Option Objection → Type 0
DenialOf document question objection =
    (ruling : Ruling) × Rules document question ruling × (objection ≡ denial question ruling)

-- the objection to adding a feature whose id is in use
abbrev pub in_use : Option Feature → Option Objection
in_use None = None
in_use (Some feature) = Some (record { cause = Exists; question = None })

-- the objection that the editor has seen another version than the present one
abbrev pub stale : ℕ → Feature → Option Objection
stale seen feature = if seen == feature.version then None
    else Some (record { cause = Stale feature.version; question = None })

-- the objection that there is no such feature
abbrev pub absent : Option Objection
absent = Some (record { cause = Absent; question = None })

-- The first objection to a change, where `present` is the feature with its id, if there is one. A
-- new feature's owner is the subject's office, and its class is the change's. Otherwise owner and
-- class are the feature's.
abbrev pub Objects : DocumentData → Subject → Change → Option Feature → Option Objection → Type 0
Objects document subject (Add id class shape) present objection =
    (denied : Option Objection) × DenialOf document (question_on_new subject class shape) denied
    × (objection ≡ option_or denied (in_use present))
Objects document subject (Reshape id seen shape) None objection = objection ≡ absent
Objects document subject (Reshape id seen shape) (Some feature) objection =
    (denied denied_new : Option Objection)
    × DenialOf document (question_on subject actions.Reshape feature feature.shape) denied
    × DenialOf document (question_on subject actions.Reshape feature shape) denied_new
    × (objection ≡ option_or denied (option_or denied_new (stale seen feature)))
Objects document subject (Delete id seen) None objection = objection ≡ absent
Objects document subject (Delete id seen) (Some feature) objection =
    (denied : Option Objection)
    × DenialOf document (question_on subject actions.Delete feature feature.shape) denied
    × (objection ≡ option_or denied (stale seen feature))

-- the list is rejected for the objection to its change of this number
abbrev pub refused_for : ℕ → Objection → Judgement
refused_for number o = Refused (record { change = number; cause = o.cause }) o.question

-- the judgement for the first change with an objection; the changes are numbered from `number` on,
-- and all are judged on the same features
abbrev pub JudgedFrom : ℕ → DocumentData → List Feature → Subject → List Change → Judgement → Type 0
JudgedFrom number document features subject [] judgement = judgement ≡ Accepted
JudgedFrom number document features subject (change ∷ changes) judgement =
    (objection : Option Objection)
    × Objects document subject change (feature_with (change_id change) features) objection
    × MatchOption objection (JudgedFrom (number + 1) document features subject changes judgement)
    (λ o. judgement ≡ refused_for number o)

-- a list of changes is accepted, or rejected for its first failing change, counted from 1, with
-- that change's first cause
abbrev pub Judged : PlainState → Subject → List Change → Judgement → Type 0
Judged state subject changes judgement =
    JudgedFrom 1 state.decider.document state.features subject changes judgement

-- a denial comes with a question that the document denies, by that rule or without one; no other
-- cause has a question
abbrev pub IsFounded : DocumentData → Cause → Option Question → Type 0
IsFounded document (Denied rule) None = ⊥
IsFounded document (Denied rule) (Some question) = Denies document question rule
IsFounded document Exists question = question ≡ None
IsFounded document Absent question = question ≡ None
IsFounded document (Stale current) question = question ≡ None

-- the cause of a refusal is founded
abbrev pub IsFoundedJudgement : DocumentData → Judgement → Type 0
IsFoundedJudgement document Accepted = Unit {0}
IsFoundedJudgement document (Refused refusal question) = IsFounded document refusal.cause question

-- no two changes name one feature
abbrev pub AreDistinct : List Change → Type 0
AreDistinct [] = Unit {0}
AreDistinct (change ∷ changes) = IsUnnamed (change_id change) changes × AreDistinct changes
