-- A map of zones with one more zone.
use Rattle.std.proofs.Common.{◌≡◌, ℕ, ◌<◌, ◌≤◌, true, false, List, length, map, Ok, Err, refl, sym, ap, ◌∙◌}
use Rattle.std.proofs.lemmas.Bool.{lt-ltb, le-ltb}
use Rattle.std.proofs.lemmas.List.{length-map}
use Rattle.std.specs.List.{list_any}
use Rattle.indexmap.specs.IndexMap.{IndexMap, insert_entry}
use Rattle.features.specs.Equality.{same_name}
use Rattle.plane.specs.declared.point.Point.{Point}
use Rattle.policy_documents.specs.Views.{zone_of}
use Rattle.policy_documents.specs.declared.zones.Zone.{Zone}
use Rattle.policy_documents.specs.declared.zones.ZoneName.{ZoneName}
use Rattle.policy_documents.proofs.ZoneLemmas.{same_key, zones-insert_entry}
use Rattle.policy_text.specs.Reading.{at_key, with_zone}
use Rattle.policy_text.specs.declared.paths.MemberName.TheVariants as member_names
use Rattle.policy_text.specs.declared.paths.PathPart.{PathPart}
use Rattle.policy_text.specs.declared.faults.TextFault.TheVariants as faults

pub with_zone-read : {S : Type 0} (path : List PathPart) (m : IndexMap ZoneName (List Point) S) (name : List ℕ) (shape : List Point) (es : List (ZoneName × List Point)) →
    false ≡ list_any (λ z. same_name name z.name) (map zone_of m.entries) → length m.entries < 64 → es ≡ insert_entry same_key m.entries (record { name = name }) shape →
    with_zone path name shape (map zone_of m.entries) ≡ Ok (map zone_of es)
unfolding with_zone
with_zone-read {S = S} path m name shape es absent room inserted =
    rw (← absent, length-map, lt-ltb _ _ room)
    (ap Ok (sym (ap (map zone_of) inserted ∙ zones-insert_entry S m (record { name = name }) shape absent)))

pub with_zone-twice : (path : List PathPart) (name : List ℕ) (shape : List Point) (zones : List Zone) → true ≡ list_any (λ z. same_name name z.name) zones → with_zone path name shape zones ≡ Err (faults.NameTwice (at_key path member_names.Zone) name)
unfolding with_zone
with_zone-twice path name shape zones twice = rw (← twice) refl

pub with_zone-many : (path : List PathPart) (name : List ℕ) (shape : List Point) (zones : List Zone) → false ≡ list_any (λ z. same_name name z.name) zones → 64 ≤ length zones → with_zone path name shape zones ≡ Err (faults.TooMany path)
unfolding with_zone
with_zone-many path name shape zones absent many = rw (← absent, le-ltb _ _ many) refl
