use Rattle.std.proofs.Common.{◌∙◌, ap, arith}
use Rattle.std.specs.List.{insert}
use Rattle.std.proofs.lemmas.List.Edits.{length-insert}
use Rattle.feature_store.specs.Blocks.{block_at, entries_of}
use Rattle.feature_store.proofs.BlockLemmas.{filled_with_entry, items_with_entry}
use Rattle.feature_store.proofs.RoomLemmas.{fill_one_less, room_falls, spare_same}
use Rattle.feature_store.proofs.blocks.insert.Goals as goal

pub unreachable-requires : goal.unreachable-requires
unreachable-requires g c = c.requires.absent _ (rw (c.deref.ensures.value, c.begin.ensures.items) at c.in-Ok.ensures.found)

pub returns-clause-inserted : goal.returns-clause-inserted
returns-clause-inserted g c =
    let blocks = c.make_way-position.new.blocks.items in
    let position = c.make_way-position.result in
    let within = c.make_way-position.ensures.within in
    record {
      index = _;
      gap = rw (c.deref.ensures.value, c.begin.ensures.items) at c.in-Err.ensures.missing;
      told = ap entries_of c.insert_at.ensures.items ∙ items_with_entry blocks position within.block_in c.args.entry within.index_in
          ∙ (λ i. insert ((c.make_way-position.ensures.items ∙ c.begin.ensures.items) i) (c.make_way-position.ensures.index i) c.args.entry);
    }

pub returns-clause-filled : goal.returns-clause-filled
returns-clause-filled g c = rw c.insert_at.ensures.items (filled_with_entry _ _ _ c.make_way-position.ensures.within c.make_way-position.ensures.filled)

pub returns-clause-room : goal.returns-clause-room
returns-clause-room g c =
    let blocks = c.make_way-position.new.blocks.items in
    let position = c.make_way-position.result in
    let within = c.make_way-position.ensures.within in
    let more = length-insert (block_at blocks position.block) position.index c.args.entry within.index_in in
    rw (c.insert_at.ensures.items, c.insert_at.ensures.capacity)
    (room_falls _ _ _ _ _ _ _ c.begin.ensures.room c.make_way-position.ensures.spare c.make_way-position.ensures.fill
    (spare_same blocks position.block _ (record { items = insert (block_at blocks position.block) position.index c.args.entry }))
    (fill_one_less blocks position.block _ (record { items = insert (block_at blocks position.block) position.index c.args.entry }) within.block_in (omega (arith, more))))
