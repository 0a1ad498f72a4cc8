-- A printed document is read as itself.
use Rattle.std.proofs.Common.{◌≡◌, IsTrue, List, [], Ok, refl, arith}
use Rattle.std.specs.List.{list_all}
use Rattle.std.proofs.lemmas.Bool.{and_from}
use Rattle.std.proofs.lemmas.List.Elements.{recursion_from_All}
use Rattle.serde_json.specs.Data.{Data, object, Items, no_items, item, no_members}
use Rattle.policy_documents.specs.Documents.{DocumentData, IsDocument, IsZone, is_zone_known, is_match_spelled, matches_of}
use Rattle.policy_text.specs.Reading.{at_key, object_in, optional_array_in, document_keys, document_in, nothing_seen}
use Rattle.policy_text.specs.Printed.{keyed, keyed_items, zones_items, node_data, document_data}
use Rattle.policy_text.specs.declared.paths.MemberName.TheVariants as member_names
use Rattle.policy_documents.specs.declared.zones.Zone.{Zone}
use Rattle.policy_documents.specs.declared.matches.Match.{Match}
use Rattle.policy_text.proofs.PrintedLists.{list_all_both}
use Rattle.policy_text.proofs.PrintedMatches.{is_readable}
use Rattle.policy_text.proofs.PrintedPremises.{IsNodeHere}
use Rattle.policy_text.proofs.PrintedNodes.{node_read}
use Rattle.policy_text.proofs.PrintedZones.{zones_read}

-- ---- the object of a document, with and without zones

abbrev document_object : Data → Items → Data
document_object root zones = object (keyed member_names.Root root (keyed_items member_names.Zones zones no_members))

module _ (root : Data) where
  object_read : (zones : Items) → object_in document_keys [] (document_object root zones) ≡ Ok tt
  object_read no_items = refl
  object_read (item d ds) = refl

  zones_found : (zones : Items) → optional_array_in member_names.Zones [] (document_object root zones) ≡ Ok zones
  unfolding optional_array_in
  zones_found no_items = refl
  zones_found (item d ds) = refl

-- ---- the whole document

all_readable : (zones : List Zone) (ms : List Match) → IsTrue (list_all (is_zone_known zones) ms) → IsTrue (list_all is_match_spelled ms) → IsTrue (list_all (is_readable zones) ms)
all_readable zones = list_all_both (is_zone_known zones) is_match_spelled (is_readable zones) (λ m h k. and_from (is_zone_known zones m) (is_match_spelled m) h k)

-- nothing was seen before the root of a document
root_here : (d : DocumentData) → IsDocument d → IsNodeHere d.zones 8 nothing_seen d.root
root_here d h = record {
  depth = h.depth;
  nodes = omega (arith, h.nodes);
  rules = omega (arith, h.rules);
  tests = omega (arith, h.tests);
  distinct = h.names;
  spelled = h.names_spelled;
  targets = h.targets_filled;
  matches = all_readable d.zones (matches_of d.root) h.zones_known h.matches_spelled;
}

pub printed_document_in : (d : DocumentData) → IsDocument d → document_in (document_data d) ≡ Ok d
unfolding document_in
printed_document_in d h =
    rw (
      object_read (node_data d.root) (zones_items d.zones),
      zones_found (node_data d.root) (zones_items d.zones),
      zones_read 0 [] d.zones (recursion_from_All IsZone d.zones h.zones_spelled) h.zone_names h.zones,
      node_read d.zones d.root 8 (at_key [] member_names.Root) nothing_seen (root_here d h),
    )
    refl
