-- The coding of chronicles, by which proofs tell two of them apart.
use Rattle.std.specs.Prelude.{◌≡◌, List, map}
use Rattle.std.specs.Coded.{Coded, Coded-set, code_by, codes}
use Rattle.features.specs.declared.actors.Subject.{Subject}
use Rattle.audit_trail.specs.Coding as trails
use Rattle.plain_world.specs.Coding.{StoredState, stored_state, restored_state, restored_state-stored_state}
use Rattle.chronicle.specs.Chronicles.{ChronicleData, Opening}

abbrev pub StoredOpening : Type 0
StoredOpening = List Subject × StoredState

abbrev pub stored_opening : Opening → StoredOpening
stored_opening o = (o.subjects, stored_state o.base)

abbrev pub restored_opening : StoredOpening → Opening
restored_opening s = record { subjects = s.0; base = restored_state s.1 }

abbrev pub restored_opening-stored_opening : (o : Opening) → restored_opening (stored_opening o) ≡ o
restored_opening-stored_opening o =
    let base = restored_state-stored_state o.base in
    λ i. record { subjects = o.subjects; base = base i }

-- Two openings are equal in at most one way. A struct that keeps such an equation as a fact cites
-- this.
pub opening_set : (x y : Opening) → IsProp (x ≡ y)
opening_set x y =
    let opening_coded : Coded Opening =
    code_by StoredOpening (Prim.hlevel codes) stored_opening restored_opening
    restored_opening-stored_opening in
    Coded-set opening_coded x y

abbrev pub StoredChronicle : Type 0
StoredChronicle = StoredOpening × (List Subject × (List trails.StoredRecord × StoredState))

abbrev pub stored_chronicle : ChronicleData → StoredChronicle
stored_chronicle c = (
  stored_opening c.opening,
  (c.seats, (map trails.stored c.records, stored_state c.state)),
)

abbrev pub restored_chronicle : StoredChronicle → ChronicleData
restored_chronicle s =
    record {
      opening = restored_opening s.0;
      seats = s.1.0;
      records = map trails.restored s.1.1.0;
      state = restored_state s.1.1.1;
    }

abbrev pub restored_chronicle-stored_chronicle : (c : ChronicleData)
    → restored_chronicle (stored_chronicle c) ≡ c
restored_chronicle-stored_chronicle c =
    let opening = restored_opening-stored_opening c.opening in
    let records = trails.restored_all-stored_all c.records in
    let state = restored_state-stored_state c.state in
    λ i. record { opening = opening i; seats = c.seats; records = records i; state = state i }
