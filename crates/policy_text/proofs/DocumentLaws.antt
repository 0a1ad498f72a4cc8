-- What was read is a valid document: its limits, names, zones and targets.
use Rattle.std.proofs.Common.{◌≡◌, IsTrue, List, [], refl, subst, arith, Ok}
use Rattle.serde_json.specs.Data.{Data}
use Rattle.policy_documents.specs.Documents.{DocumentData, NodeData, IsDocument, are_distinct}
use Rattle.policy_text.specs.Reading.{Seen, at_key, object_in, document_keys, optional_array_in, zones_at, node_at, nothing_seen, document_in}
use Rattle.policy_documents.specs.declared.zones.Zone.{Zone}
use Rattle.policy_text.specs.declared.paths.MemberName.TheVariants as member_names
use Rattle.policy_text.proofs.ChainLemmas.{bound, same_value}
use Rattle.policy_text.proofs.PartLaws.{IsSound, IsWithin}
use Rattle.policy_text.proofs.ContentLemmas.{node_contents}
use Rattle.policy_text.proofs.NodeLaws.{node_at-sound}
use Rattle.policy_text.proofs.ZoneLaws.{AreZones, zones_at-AreZones}

nothing_within : IsWithin nothing_seen
nothing_within = record { nodes = omega arith; rules = omega arith; tests = omega arith; names = refl }

-- zones, and a root that was read with them, make a document
both_sound : (zones : List Zone) (root : NodeData) (t : Seen) → AreZones zones → IsSound zones 8 nothing_seen (node_contents root) t → IsDocument (record { zones = zones; root = root })
both_sound zones root t z h = let w = h.kept nothing_within in record {
  depth = h.depth;
  rules = omega (arith, h.rules, w.rules);
  nodes = omega (arith, h.nodes, w.nodes);
  zones = z.count;
  tests = omega (arith, h.tests, w.tests);
  names = subst (λ names. IsTrue (are_distinct names)) h.names w.names;
  zone_names = z.distinct;
  zones_known = h.known;
  names_spelled = h.named;
  zones_spelled = z.sound;
  matches_spelled = h.spelled;
  targets_filled = h.filled;
}

-- a JSON value that was read gives a valid document
pub document_in-IsDocument : (d : Data) (r : DocumentData) → document_in d ≡ Ok r → IsDocument r
unfolding document_in
document_in-IsDocument d r told = bound (object_in document_keys [] d) _ r told (λ _ _ a. bound (optional_array_in member_names.Zones [] d) _ r a (λ items _ b.
    bound _ _ r b (λ value _ c. bound (zones_at 0 [] items) _ r c (λ zones found e. bound (node_at zones 8 (at_key [] member_names.Root) nothing_seen value) _ r e (λ n read end.
    subst IsDocument (same_value (record { zones = zones; root = n.0 }) r end)
    (both_sound zones n.0 n.1 (zones_at-AreZones zones items found) (node_at-sound zones 8 (at_key [] member_names.Root) nothing_seen value n read)))))))
