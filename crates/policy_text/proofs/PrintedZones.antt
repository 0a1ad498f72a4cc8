-- Printed zones are read as themselves.
use Rattle.std.proofs.Common.{◌≡◌, ℕ, ◌+◌, ◌<◌, ◌≤◌, false, IsTrue, List, [], ◌∷◌, ◌++◌, length, map, Ok, refl, sym, ap, ◌∙◌, arith, append_assoc, append-nil, length-append}
use Rattle.std.specs.List.{list_any, AllByRecursion}
use Rattle.std.proofs.lemmas.List.{map-append}
use Rattle.wkt.specs.Printing.{printed}
use Rattle.wkt.proofs.PrintedShapes.{printed_is_read}
use Rattle.features.specs.Equality.{same_name}
use Rattle.policy_documents.specs.Documents.{IsZone, are_distinct}
use Rattle.policy_text.specs.Reading.{at_item, with_zone, zone_at, zones_at, shape_in}
use Rattle.policy_text.specs.Printed.{zone_data, zones_items}
use Rattle.policy_text.specs.declared.paths.PathPart.{PathPart}
use Rattle.policy_documents.specs.declared.zones.Zone.{Zone}
use Rattle.policy_text.proofs.PrintedSteps.{name_read, within_room, distinct_behind}
use Rattle.policy_text.proofs.ZoneReadLemmas.{zones_place}

abbrev pub names_of_zones : List Zone → List (List ℕ)
names_of_zones zones = map (λ z. z.name) zones

-- looking for a zone by name is looking among the names
list_any-names : (name : List ℕ) (zones : List Zone) → list_any (λ z. same_name name z.name) zones ≡ list_any (same_name name) (names_of_zones zones)
list_any-names name [] = refl
list_any-names name (z ∷ zs) = rw (list_any-names name zs) refl

with_zone_read : (path : List PathPart) (z : Zone) (zones : List Zone) → list_any (same_name z.name) (names_of_zones zones) ≡ false → length zones < 64 → with_zone path z.name z.shape zones ≡ Ok (zones ++ z ∷ [])
unfolding with_zone
with_zone_read path z zones absent room = rw (list_any-names z.name zones, absent, within_room path 64 (length zones) room) refl

shape_read : (path : List PathPart) (z : Zone) → IsZone z → shape_in path z.name (printed z.shape) ≡ Ok z.shape
shape_read path z h = rw (printed_is_read z.shape h.shape) refl

zone_read : (path : List PathPart) (z : Zone) (zones : List Zone) → IsZone z → list_any (same_name z.name) (names_of_zones zones) ≡ false → length zones < 64 →
    zone_at path zones (zone_data z) ≡ Ok (zones ++ z ∷ [])
unfolding zone_at
zone_read path z zones h absent room = rw (name_read z.name h.name, shape_read path z h) (with_zone_read path z zones absent room)

-- zones are read after others
pub zones_read : (index : ℕ) (before zones : List Zone) → AllByRecursion IsZone zones → IsTrue (are_distinct (names_of_zones (before ++ zones))) → length (before ++ zones) ≤ 64 →
    zones_at index before (zones_items zones) ≡ Ok (before ++ zones)
unfolding zones_at
zones_read index before [] all distinct room = ap Ok (sym (append-nil before))
zones_read index before (z ∷ zs) all distinct room =
    let more = before ++ z ∷ [] in
    let same : more ++ zs ≡ before ++ z ∷ zs = append_assoc before (z ∷ []) zs in
    let absent = distinct_behind (names_of_zones before) z.name (names_of_zones zs) (ap are_distinct (sym (map-append (λ (y : Zone). y.name) before (z ∷ zs))) ∙ distinct) in
    let lt : length before < 64 = omega (arith, length-append before (z ∷ zs)) in
    let behind : zones_at (index + 1) more (zones_items zs) ≡ Ok (more ++ zs) =
    zones_read (index + 1) more zs all.1 (ap (λ ys. are_distinct (names_of_zones ys)) same ∙ distinct) (omega (arith, ap length same)) in
    rw (zone_read (at_item zones_place index) z before all.0 absent lt, behind) (ap Ok same)
