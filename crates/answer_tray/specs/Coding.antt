-- The coding of trays, by which proofs tell two of them apart.
use Rattle.std.specs.Prelude.{◌≡◌, List, [], ◌∷◌, map, refl}
use Rattle.audit_trail.specs.Coding as trails
use Rattle.chronicle.specs.Chronicles.{ChronicleData}
use Rattle.chronicle.specs.Coding.{StoredChronicle, stored_chronicle, restored_chronicle, restored_chronicle-stored_chronicle}
use Rattle.answer_tray.specs.Trays.{TrayData}

abbrev pub StoredTray : Type 0
StoredTray = List StoredChronicle × List trails.StoredRecord

abbrev pub stored_tray : TrayData → StoredTray
stored_tray t = (map stored_chronicle t.seen, map trails.stored t.answers)

abbrev pub restored_tray : StoredTray → TrayData
restored_tray s =
    record { seen = map restored_chronicle s.0; answers = map trails.restored s.1 }

abbrev pub restored_seen-stored_seen : (seen : List ChronicleData)
    → map restored_chronicle (map stored_chronicle seen) ≡ seen
restored_seen-stored_seen [] = refl
restored_seen-stored_seen (c ∷ later) =
    let first = restored_chronicle-stored_chronicle c in
    let rest = restored_seen-stored_seen later in
    λ i. first i ∷ rest i

abbrev pub restored_tray-stored_tray : (t : TrayData) → restored_tray (stored_tray t) ≡ t
restored_tray-stored_tray t =
    let seen = restored_seen-stored_seen t.seen in
    let answers = trails.restored_all-stored_all t.answers in
    λ i. record { seen = seen i; answers = answers i }
