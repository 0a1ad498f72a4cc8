-- Codes by which proofs tell records and trails apart: a document is stored as its zones and the
-- list of its parts.
use Rattle.std.specs.Prelude.{◌≡◌, ℕ, List, [], ◌∷◌, map, refl}
use Rattle.std.proofs.Common.{ap, ◌∙◌}
use Rattle.plane.specs.declared.point.Point.{Point}
use Rattle.features.specs.declared.actors.Subject.{Subject}
use Rattle.features.specs.declared.rows.Change.{Change}
use Rattle.decision.specs.Deciders as deciders
use Rattle.decision.specs.Deciders.{DeciderData}
use Rattle.judging.specs.declared.causes.Refusal.{Refusal}
use Rattle.audit_trail.specs.Records.{DeedData, answered, applied, turned_away, governed, RecordData, TrailData}

pub data StoredDeed : Type 0 where
  stored_answer : Subject → List Point → List ℕ → List ℕ → StoredDeed
  stored_list : Subject → ℕ → List Change → StoredDeed
  stored_refusal : Subject → List Change → Refusal → StoredDeed
  stored_document : ℕ → deciders.Stored → StoredDeed

abbrev pub StoredRecord : Type 0
StoredRecord = ℕ × StoredDeed

abbrev pub stored_deed : DeedData → StoredDeed
stored_deed (answered subject window ids versions) = stored_answer subject window ids versions
stored_deed (applied subject version changes) = stored_list subject version changes
stored_deed (turned_away subject changes refusal) = stored_refusal subject changes refusal
stored_deed (governed edition decider) = stored_document edition (deciders.stored decider)

abbrev pub restored_deed : StoredDeed → DeedData
restored_deed (stored_answer subject window ids versions) = answered subject window ids versions
restored_deed (stored_list subject version changes) = applied subject version changes
restored_deed (stored_refusal subject changes refusal) = turned_away subject changes refusal
restored_deed (stored_document edition decider) = governed edition (deciders.restored decider)

abbrev pub restored_deed-stored_deed : (deed : DeedData) → restored_deed (stored_deed deed) ≡ deed
restored_deed-stored_deed (answered subject window ids versions) = refl
restored_deed-stored_deed (applied subject version changes) = refl
restored_deed-stored_deed (turned_away subject changes refusal) = refl
restored_deed-stored_deed (governed edition decider) =
    ap (governed edition) (deciders.restored-stored decider)

abbrev pub stored : RecordData → StoredRecord
stored r = (r.seat, stored_deed r.deed)

abbrev pub restored : StoredRecord → RecordData
restored s = record { seat = s.0; deed = restored_deed s.1 }

abbrev pub restored-stored : (r : RecordData) → restored (stored r) ≡ r
restored-stored r = ap (λ (deed : DeedData). let e : RecordData = record {
  seat = r.seat;
  deed = deed;
} in e) (restored_deed-stored_deed r.deed)

-- the same of trails
abbrev pub StoredTrail : Type 0
StoredTrail = ℕ × List StoredRecord × ℕ

abbrev pub stored_trail : TrailData → StoredTrail
stored_trail t = (t.first, map stored t.records, t.room)

abbrev pub restored_trail : StoredTrail → TrailData
restored_trail s = record { first = s.0; records = map restored s.1; room = s.2 }

abbrev pub restored_all-stored_all : (records : List RecordData)
    → map restored (map stored records) ≡ records
restored_all-stored_all [] = refl
restored_all-stored_all (r ∷ rs) =
    ap (λ (first : RecordData). first ∷ map restored (map stored rs)) (restored-stored r) ∙ ap
    (λ (rest : List RecordData). r ∷ rest) (restored_all-stored_all rs)

abbrev pub restored_trail-stored_trail : (t : TrailData) → restored_trail (stored_trail t) ≡ t
restored_trail-stored_trail t =
    ap (λ (records : List RecordData). let e : TrailData = record {
      first = t.first;
      records = records;
      room = t.room;
    } in e) (restored_all-stored_all t.records)
