-- Zones that were read.
use Rattle.std.proofs.Common.{◌≡◌, ℕ, ◌+◌, ◌<◌, ◌≤◌, false, IsTrue, All, List, [], ◌∷◌, ◌++◌, length, map, refl, sym, subst, ◌∙◌, arith, length-append, Ok, Err, Result}
use Rattle.std.specs.List.{list_any}
use Rattle.std.proofs.lemmas.List.{map-append}
use Rattle.std.proofs.lemmas.List.Elements.{All-nil, All-push}
use Rattle.features.specs.Names as spelling
use Rattle.plane.specs.Canonical.{IsCanonical}
use Rattle.plane.specs.declared.point.Point.{Point}
use Rattle.wkt.specs.Reading.{shape_of}
use Rattle.wkt.specs.declared.fault.WktFault.{WktFault}
use Rattle.wkt.proofs.CanonicalShapes.{shape_canonical}
use Rattle.serde_json.specs.Data.{Data, Items, no_items, item}
use Rattle.policy_documents.specs.Documents.{IsZone, are_distinct}
use Rattle.features.specs.Equality.{same_name}
use Rattle.policy_text.specs.Reading.{◌>>=◌, at_item, at_key, object_in, zone_keys, name_in, text_in, shape_in, unseen, within, with_zone, zone_at, zones_at}
use Rattle.policy_documents.specs.declared.zones.Zone.{Zone}
use Rattle.policy_text.specs.declared.paths.MemberName.TheVariants as member_names
use Rattle.policy_text.specs.declared.paths.PathPart.{PathPart}
use Rattle.policy_text.specs.declared.paths.PathPart.TheVariants as path_parts
use Rattle.policy_text.proofs.ChainLemmas.{bound, same_value, passed, name_in-spelled, within-read}
use Rattle.policy_text.proofs.DistinctLemmas.{are_distinct-push, list_any-names}

abbrev name_of_zone : Zone → List ℕ
name_of_zone z = z.name

-- the zones are valid in a document
pub record AreZones (zones : List Zone) : Type 0 where
  pub count : length zones ≤ 64
  pub distinct : IsTrue (are_distinct (map (λ z. z.name) zones))
  pub sound : All IsZone zones

no_zones : AreZones []
no_zones = record { count = omega arith; distinct = refl; sound = All-nil IsZone }

one_more : (zones : List Zone) (z : Zone) → AreZones zones → list_any (λ y. same_name z.name y.name) zones ≡ false → length zones < 64 → IsZone z → AreZones (zones ++ z ∷ [])
one_more zones z h new room sound = record {
  count = omega (arith, length-append zones (z ∷ []));
  distinct = subst (λ names. IsTrue (are_distinct names)) (sym (map-append name_of_zone zones (z ∷ [])))
      (are_distinct-push (map name_of_zone zones) z.name h.distinct (sym (list_any-names (same_name z.name) name_of_zone zones) ∙ new));
  sound = All-push IsZone zones z h.sound sound;
}

-- a shape that was read for a zone is the shape of its text
shape_in-shape_of : (path : List PathPart) (name text : List ℕ) (corners : List Point) → shape_in path name text ≡ Ok corners → shape_of text ≡ Ok corners
shape_in-shape_of path name text corners told = by_shape (shape_of text) refl
  where
    by_shape : (r : Result (List Point) WktFault) → shape_of text ≡ r → shape_of text ≡ Ok corners
    by_shape (Ok found) e = let k : shape_in path name text ≡ Ok found = rw e refl in cc
    by_shape (Err fault) e = absurd (let k = rw e at told in cc)

with_zone-sound : (path : List PathPart) (name : List ℕ) (shape : List Point) (zones more : List Zone) → AreZones zones → IsTrue (spelling.is_name name) → IsCanonical shape →
    with_zone path name shape zones ≡ Ok more → AreZones more
unfolding with_zone
with_zone-sound path name shape zones more h spelled whole told = bound (unseen (at_key path member_names.Zone) name zones) _ more told (λ u new counted. bound (within path 64 (length zones)) _ more counted (λ n room end.
    subst AreZones (same_value (zones ++ record { name = name; shape = shape } ∷ []) more end)
    (one_more zones (record { name = name; shape = shape }) h (passed (list_any (λ z. same_name name z.name) zones) tt u _ new).0 (within-read path 64 (length zones) n room).0
    (record { name = spelled; shape = whole }))))

zone_at-sound : (path : List PathPart) (zones more : List Zone) (d : Data) → AreZones zones → zone_at path zones d ≡ Ok more → AreZones more
unfolding zone_at
zone_at-sound path zones more d h told = bound (object_in zone_keys path d) _ more told (λ _ _ a. bound (name_in member_names.Zone path d) _ more a (λ name named b.
    bound (text_in member_names.Shape path d) _ more b (λ text _ c. bound (shape_in path name text) _ more c (λ shape shaped end.
    with_zone-sound path name shape zones more h (name_in-spelled member_names.Zone path d name named) (shape_canonical text shape (shape_in-shape_of path name text shape shaped)) end))))

zones_at-none : (i : ℕ) (zones : List Zone) → zones_at i zones no_items ≡ Ok zones
unfolding zones_at
zones_at-none i zones = refl

zones_at-item : (i : ℕ) (zones : List Zone) (d : Data) (rest : Items) →
    zones_at i zones (item d rest) ≡ (zone_at (at_item (path_parts.Member member_names.Zones ∷ []) i) zones d >>= λ more. zones_at (i + 1) more rest)
unfolding zones_at
zones_at-item i zones d rest = refl

zones_at-sound : (i : ℕ) (zones more : List Zone) (items : Items) → AreZones zones → zones_at i zones items ≡ Ok more → AreZones more
zones_at-sound i zones more no_items h told = subst AreZones (same_value zones more (sym (zones_at-none i zones) ∙ told)) h
zones_at-sound i zones more (item d rest) h told =
    bound (zone_at (at_item (path_parts.Member member_names.Zones ∷ []) i) zones d) (λ found. zones_at (i + 1) found rest) more (sym (zones_at-item i zones d rest) ∙ told) (λ found one others.
    zones_at-sound (i + 1) found more rest (zone_at-sound _ zones found d h one) others)

-- the zones of a document are valid
pub zones_at-AreZones : (zones : List Zone) (items : Items) → zones_at 0 [] items ≡ Ok zones → AreZones zones
zones_at-AreZones zones items told = zones_at-sound 0 [] zones items no_zones told
