use Rattle.std.proofs.Common.{◌≡◌, ◌+◌, length}
use Rattle.wkt.specs.Tokens.{tokens}
use Rattle.wkt.specs.Reading.{ring_at}
use Rattle.wkt.specs.Kept.{kept}
use Rattle.wkt.proofs.RingLemmas.{kept_behind}
use Rattle.wkt.proofs.ring.ring.Given as goal

abbrev pub invariant-pairs : goal.invariant-pairs
invariant-pairs l =
    let end = l.initial.text.at + length l.initial.text.bytes.now in
    record {
      place : l.text.at + length l.text.bytes.now ≡ end;
      reading : kept_behind l.listed.items (ring_at end (tokens l.text.at l.text.bytes.now)) ≡ kept (ring_at end (tokens l.initial.text.at l.initial.text.bytes.now));
    }

abbrev pub decreases-pairs : goal.decreases-pairs
decreases-pairs l = length l.text.bytes.now
