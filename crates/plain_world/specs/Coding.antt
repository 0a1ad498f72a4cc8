-- The coding of worlds and answers, by which a proof tells two of them apart: each document in one
-- is stored as its zones and the list of its parts.
use Rattle.std.specs.Prelude.{◌≡◌, ℕ, List, Option, map}
use Rattle.std.proofs.Common.{ap}
use Rattle.plane.specs.declared.point.Point.{Point}
use Rattle.features.specs.declared.actors.Subject.{Subject}
use Rattle.features.specs.declared.rows.Feature.{Feature}
use Rattle.combining.specs.declared.questions.Question.{Question}
use Rattle.decision.specs.Deciders as deciders
use Rattle.decision.specs.Deciders.{DeciderData}
use Rattle.audit_trail.specs.Coding as trails
use Rattle.judging.specs.States.{PlainState}
use Rattle.plain_world.specs.declared.open_searches.Search.{Search}
use Rattle.plain_world.specs.declared.settings.Limits.{Limits}
use Rattle.plain_world.specs.declared.settings.Starts.{Starts}
use Rattle.plain_world.specs.Answers.{AnswerData, DenialData}
use Rattle.plain_world.specs.Rolls.{RolledData}
use Rattle.plain_world.specs.Staging.{TransactionData}
use Rattle.plain_world.specs.States.{WorldData}

abbrev pub StoredDenial : Type 0
StoredDenial = Question × (deciders.Stored × Option ℕ)

abbrev pub stored_denial : DenialData → StoredDenial
stored_denial d = (d.question, (deciders.stored d.decider, d.rule))

abbrev pub restored_denial : StoredDenial → DenialData
restored_denial s = record { question = s.0; decider = deciders.restored s.1.0; rule = s.1.1 }

abbrev pub restored_denial-stored_denial : (d : DenialData) → restored_denial (stored_denial d) ≡ d
restored_denial-stored_denial d =
    ap (λ (decider : DeciderData). let e : DenialData = record {
      question = d.question;
      decider = decider;
      rule = d.rule;
    } in e) (deciders.restored-stored d.decider)

abbrev pub StoredAnswer : Type 0
StoredAnswer = Subject × (List Point × (deciders.Stored × List Feature))

abbrev pub stored_answer : AnswerData → StoredAnswer
stored_answer a = (a.subject, (a.window, (deciders.stored a.decider, a.rows)))

abbrev pub restored_answer : StoredAnswer → AnswerData
restored_answer s = record {
  subject = s.0;
  window = s.1.0;
  decider = deciders.restored s.1.1.0;
  rows = s.1.1.1;
}

abbrev pub restored_answer-stored_answer : (a : AnswerData) → restored_answer (stored_answer a) ≡ a
restored_answer-stored_answer a =
    ap (λ (decider : DeciderData). let e : AnswerData = record {
      subject = a.subject;
      window = a.window;
      decider = decider;
      rows = a.rows;
    } in e)
    (deciders.restored-stored a.decider)

abbrev pub StoredState : Type 0
StoredState = List Feature × (ℕ × deciders.Stored)

abbrev pub stored_state : PlainState → StoredState
stored_state s = (s.features, (s.version, deciders.stored s.decider))

abbrev pub restored_state : StoredState → PlainState
restored_state s = record { features = s.0; version = s.1.0; decider = deciders.restored s.1.1 }

abbrev pub restored_state-stored_state : (s : PlainState) → restored_state (stored_state s) ≡ s
restored_state-stored_state s =
    ap (λ (decider : DeciderData). let e : PlainState = record {
      features = s.features;
      version = s.version;
      decider = decider;
    } in e) (deciders.restored-stored s.decider)

abbrev pub StoredRolled : Type 0
StoredRolled = StoredState × (ℕ × List trails.StoredRecord)

abbrev pub stored_rolled : RolledData → StoredRolled
stored_rolled r = (stored_state r.base, (r.first, map trails.stored r.records))

abbrev pub restored_rolled : StoredRolled → RolledData
restored_rolled s = record {
  base = restored_state s.0;
  first = s.1.0;
  records = map trails.restored s.1.1;
}

abbrev pub restored_rolled-stored_rolled : (r : RolledData) → restored_rolled (stored_rolled r) ≡ r
restored_rolled-stored_rolled r =
    let base = restored_state-stored_state r.base in
    let records = trails.restored_all-stored_all r.records in
    λ i. record { base = base i; first = r.first; records = records i }

-- the parts of a world that hold no document, and then those that do
abbrev pub StoredWorld : Type 0
StoredWorld =
    (List Subject × (Starts × (Limits
    × (List Subject × (ℕ × (List Search × (ℕ × (List TransactionData × ℕ))))))))
    × (deciders.Stored × (StoredState × (List trails.StoredRecord × StoredState)))

abbrev pub stored_world : WorldData → StoredWorld
stored_world w = (
  (
    w.subjects,
    (
      w.starts,
      (
        w.limits,
        (w.seats, (w.first, (w.searches, (w.next_search, (w.transactions, w.next_transaction))))),
      ),
    ),
  ),
  (
    deciders.stored w.opening,
    (
      stored_state w.base,
      (map trails.stored w.trail, stored_state w.state),
    ),
  ),
)

abbrev pub restored_world : StoredWorld → WorldData
restored_world s =
    record {
      subjects = s.0.0;
      opening = deciders.restored s.1.0;
      starts = s.0.1.0;
      limits = s.0.1.1.0;
      seats = s.0.1.1.1.0;
      base = restored_state s.1.1.0;
      first = s.0.1.1.1.1.0;
      trail = map trails.restored s.1.1.1.0;
      state = restored_state s.1.1.1.1;
      searches = s.0.1.1.1.1.1.0;
      next_search = s.0.1.1.1.1.1.1.0;
      transactions = s.0.1.1.1.1.1.1.1.0;
      next_transaction = s.0.1.1.1.1.1.1.1.1;
    }

abbrev pub restored_world-stored_world : (w : WorldData) → restored_world (stored_world w) ≡ w
restored_world-stored_world w =
    let opening = deciders.restored-stored w.opening in
    let base = restored_state-stored_state w.base in
    let trail = trails.restored_all-stored_all w.trail in
    let state = restored_state-stored_state w.state in
    λ i. record w { opening = opening i; base = base i; trail = trail i; state = state i }
