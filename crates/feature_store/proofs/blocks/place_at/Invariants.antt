use Rattle.std.proofs.Common.{◌≡◌, drop}
use Rattle.std.specs.Prelude.{slice_get}
use Rattle.feature_store.specs.Blocks.{entries_of, places_in}
use Rattle.feature_store.proofs.blocks.place_at.Given as goal

abbrev pub invariant-loop-block : goal.invariant-loop-block
invariant-loop-block l = slice_get (places_in (entries_of (drop l.block-index l.blocks))) l.left ≡ slice_get (places_in (entries_of l.blocks)) l.at
