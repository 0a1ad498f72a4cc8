use Rattle.std.proofs.Common.{◌∙◌, ap, arith, vec_capacity}
use Rattle.std.specs.List.{remove}
use Rattle.std.proofs.lemmas.List.Edits.{length-remove}
use Rattle.feature_store.specs.Blocks.{block_at, entries_of}
use Rattle.feature_store.proofs.EntryLemmas.{removed_at_position}
use Rattle.feature_store.proofs.RoomLemmas.{room_left}
use Rattle.feature_store.proofs.blocks.remove.Goals as goal

pub returns-in-Some-clause-removed : goal.returns-in-Some-clause-removed
returns-in-Some-clause-removed g c =
    let present = rw c.deref.ensures.value at c.in-Some.ensures.present in
    let found = rw c.deref.ensures.value at c.in-Some.ensures.found in
    removed_at_position _ _ c.in-Some.position present found _ _ c.remove_at-place.ensures.place (c.tidy.ensures.items ∙ ap entries_of c.remove_at-place.ensures.items)

pub returns-in-Some-clause-room : goal.returns-in-Some-clause-room
returns-in-Some-clause-room g c =
    let blocks = c.args.blocks.now.items in
    let position = c.in-Some.position in
    let present = rw c.deref.ensures.value at c.in-Some.ensures.present in
    let fewer = length-remove (block_at blocks position.block) position.index present.index_in in
    let first = room_left blocks position.block (vec_capacity c.args.blocks.now) (record { items = remove (block_at blocks position.block) position.index }) c.remove_at-place.new.blocks.items (vec_capacity c.remove_at-place.new.blocks)
    c.remove_at-place.ensures.items c.remove_at-place.ensures.capacity present.block_in (omega (arith, fewer)) in
    omega (arith, first, c.tidy.ensures.room)
