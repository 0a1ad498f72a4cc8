-- Zones in a map.
use Rattle.std.proofs.Common.{◌≡◌, Bool, true, false, List, [], ◌∷◌, ◌++◌, map, Option, Some, None, is_some, refl, sym, ap, ◌∙◌, rules}
use Rattle.std.proofs.lemmas.List.{map-append}
use Rattle.std.specs.Cmp.{IsEquivalence}
use Rattle.std.specs.Cmp.Rules.{comparing}
use Rattle.std.specs.List.{IsDistinct, list_any}
use Rattle.std.specs.Map.{keys_of, lookup}
use Rattle.indexmap.specs.IndexMap.{IndexMap, insert_entry}
use Rattle.indexmap.proofs.CallerLemmas.{insert_entry-new}
use Rattle.indexmap.proofs.MapLemmas.{absent_before}
use Rattle.features.specs.Equality.{same_name}
use Rattle.policy_documents.specs.Documents.{zone_shape}
use Rattle.policy_documents.specs.Views.{zone_of}
use Rattle.policy_documents.specs.declared.zones.ZoneName.{ZoneName}
use Rattle.plane.specs.declared.point.Point.{Point}

abbrev pub same_key : ZoneName → ZoneName → Bool
same_key a b = same_name a.name b.name

pub same_key-laws : IsEquivalence same_key
same_key-laws = search (comparing, rules)

found_or_behind : (b : Bool) (key : ZoneName) (e : ZoneName × List Point) (es : List (ZoneName × List Point)) → same_key key e.0 ≡ b →
    lookup (same_key key) es ≡ zone_shape key.name (map zone_of es) → lookup (same_key key) (e ∷ es) ≡ zone_shape key.name (map zone_of (e ∷ es))
found_or_behind true key e es test behind = rw test refl
found_or_behind false key e es test behind = rw test behind

-- the map finds what the list of zones has
pub lookup-zone_shape : (key : ZoneName) (es : List (ZoneName × List Point)) → lookup (same_key key) es ≡ zone_shape key.name (map zone_of es)
lookup-zone_shape key [] = refl
lookup-zone_shape key (e ∷ es) = found_or_behind (same_key key e.0) key e es refl (lookup-zone_shape key es)

known_or_behind : (b : Bool) (key : ZoneName) (e : ZoneName × List Point) (es : List (ZoneName × List Point)) → same_key key e.0 ≡ b →
    is_some (lookup (same_key key) es) ≡ list_any (λ z. same_name key.name z.name) (map zone_of es) →
    is_some (lookup (same_key key) (e ∷ es)) ≡ list_any (λ z. same_name key.name z.name) (map zone_of (e ∷ es))
known_or_behind true key e es test behind = rw test refl
known_or_behind false key e es test behind = rw test behind

-- the map has a zone that the list has
pub lookup-list_any : (key : ZoneName) (es : List (ZoneName × List Point)) → is_some (lookup (same_key key) es) ≡ list_any (λ z. same_name key.name z.name) (map zone_of es)
lookup-list_any key [] = refl
lookup-list_any key (e ∷ es) = known_or_behind (same_key key e.0) key e es refl (lookup-list_any key es)

-- with distinct names, inserting a zone that comes after others appends it
pub insert_entry-behind : (S : Type 0) (m : IndexMap ZoneName (List Point) S) (e : ZoneName × List Point) (fs : List (ZoneName × List Point)) →
    IsDistinct same_key (keys_of (m.entries ++ e ∷ fs)) → insert_entry same_key m.entries e.0 e.1 ≡ m.entries ++ e ∷ []
insert_entry-behind S m e fs distinct = insert_entry-new same_key m e.0 e.1 (absent_before same_key-laws m.entries fs e distinct)

none_from_is_some : {X : Type 0} (o : Option X) → is_some o ≡ false → o ≡ None
none_from_is_some None h = refl
none_from_is_some (Some x) h = cc

-- a zone whose name is new is appended
pub zones-insert_entry : (S : Type 0) (m : IndexMap ZoneName (List Point) S) (key : ZoneName) (shape : List Point) →
    false ≡ list_any (λ z. same_name key.name z.name) (map zone_of m.entries) →
    map zone_of (insert_entry same_key m.entries key shape) ≡ map zone_of m.entries ++ zone_of (key, shape) ∷ []
zones-insert_entry S m key shape absent =
    ap (map zone_of) (insert_entry-new same_key m key shape (none_from_is_some _ (lookup-list_any key m.entries ∙ sym absent))) ∙ map-append zone_of m.entries ((key, shape) ∷ [])
