-- A chronicle that goes with an empty tray: the policy in force, and how many records were told.
use Rattle.std.proofs.Common.{◌≡◌, ◌+◌, List, [], ◌∷◌, ◌++◌, length, Option, None, Some, ap, arith, sym, ◌∙◌, length-append}
use Rattle.std.specs.List.{last_or}
use Rattle.audit_trail.specs.Records.{RecordData}
use Rattle.chronicle.specs.Chronicles.{ChronicleData, Opening, opened_with}
use Rattle.answer_tray.specs.Trays.{TrayData, empty_at, records_of, told_in}
use Rattle.answer_tray.proofs.TrayLemmas.{last_push}
use Rattle.hall.specs.Present.{policy_of}

pub policy_at : (c : ChronicleData) (tray : TrayData) (seen : List ChronicleData) → tray ≡ empty_at seen → last_or None seen ≡ Some c → policy_of (last_or None tray.seen) ≡ Some c.state.decider
policy_at c tray seen level ends = ap (λ (t : TrayData). policy_of (last_or None t.seen)) level ∙ ap policy_of ends

-- as many records were told as the chronicle has
pub as_many : (tray : TrayData) (seen : List ChronicleData) (c : ChronicleData) (records : List RecordData) → tray ≡ empty_at seen → last_or None seen ≡ Some c → records ≡ c.records → length records ≡ told_in tray
as_many tray seen c records level ends same =
    let count : told_in tray ≡ length c.records + 0 = ap told_in level ∙ ap (λ (o : Option ChronicleData). records_of o + 0) ends in
    omega (arith, count, ap length same)

-- and with one record more it has one more
pub one_more : (tray : TrayData) (seen : List ChronicleData) (c : ChronicleData) (records : List RecordData) (r : RecordData) → tray ≡ empty_at seen → last_or None seen ≡ Some c → records ≡ c.records ++ r ∷ [] → length records ≡ told_in tray + 1
one_more tray seen c records r level ends more =
    let count : told_in tray ≡ length c.records + 0 = ap told_in level ∙ ap (λ (o : Option ChronicleData). records_of o + 0) ends in
    omega (arith, count, ap length more, length-append c.records (r ∷ []))

-- the list of chronicles of a world that was just opened
pub opened_last : (o : Opening) (c : ChronicleData) (nothing seen : List ChronicleData) → c ≡ opened_with o → seen ≡ nothing ++ c ∷ [] → last_or None seen ≡ Some (opened_with o)
opened_last o c nothing seen opened grown =
    ap (last_or None) grown ∙ last_push None nothing c ∙ ap (λ (d : ChronicleData). Some d) opened
