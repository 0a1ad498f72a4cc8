-- How records change a state, and which trails are legal.
use Rattle.std.specs.Prelude.{◌≡◌, ℕ, ◌+◌, ◌-◌, ◌==◌, IsTrue, List, [], ◌∷◌, map, slice_get, Option, None, Some, if◌then◌else◌}
use Rattle.features.specs.declared.actors.Subject.{Subject}
use Rattle.features.specs.declared.rows.Feature.{Feature}
use Rattle.features.specs.Changes.{after}
use Rattle.combining.specs.declared.questions.Question.{Question}
use Rattle.judging.specs.declared.causes.Judgement.TheVariants.{Accepted, Refused}
use Rattle.judging.specs.Judging.{Judged}
use Rattle.judging.specs.Listing.{Listed}
use Rattle.audit_trail.specs.Records.{DeedData, answered, applied, turned_away, governed, RecordData}
use Rattle.judging.specs.States.{PlainState}

-- the state after a deed: only applied lists and documents put in force change it
abbrev pub after_deed : DeedData → PlainState → PlainState
after_deed (answered subject window ids versions) state = state
after_deed (applied subject version changes) state =
    record state {
      features = after version subject.office changes state.features;
      version = version;
    }
after_deed (turned_away subject changes refusal) state = state
after_deed (governed edition decider) state =
    record state { decider = record { document = decider.document; edition = edition } }

-- the state that these records lead to from a base
abbrev pub replay : PlainState → List RecordData → PlainState
replay base [] = base
replay base (r ∷ rs) = replay (after_deed r.deed base) rs

-- the subject of a seat; seats are numbered from 1
abbrev pub subject_of : ℕ → List Subject → Option Subject
subject_of seat seats = if seat == 0 then None else slice_get seats (seat - 1)

-- the seat is this subject's
abbrev pub IsSeated : ℕ → List Subject → Subject → Type 0
IsSeated seat seats subject = subject_of seat seats ≡ Some subject

-- at this state, a legal trail may have this deed next, for this seat
abbrev pub IsLegalDeed : List Subject → PlainState → ℕ → DeedData → Type 0
IsLegalDeed seats state seat (answered subject window ids versions) =
    IsSeated seat seats subject
    × ((rows : List Feature) × Listed state subject window rows × (ids ≡ map (λ row. row.id) rows)
    × (versions ≡ map (λ row. row.version) rows))
IsLegalDeed seats state seat (applied subject version changes) =
    IsSeated seat seats subject × Judged state subject changes Accepted
    × (version ≡ state.version + 1)
IsLegalDeed seats state seat (turned_away subject changes refusal) =
    IsSeated seat seats subject
    × ((question : Option Question) × Judged state subject changes (Refused refusal question))
IsLegalDeed seats state seat (governed edition decider) =
    ((subject : Subject) × IsSeated seat seats subject × IsTrue subject.steward)
    × (edition ≡ state.decider.edition + 1) × (decider.edition ≡ edition)

-- each record is legal at the replay of the records before it
abbrev pub IsLegal : List Subject → PlainState → List RecordData → Type 0
IsLegal seats base [] = Unit {0}
IsLegal seats base (r ∷ rs) = IsLegalDeed seats base r.seat r.deed
    × IsLegal seats (after_deed r.deed base) rs
