use Rattle.std.proofs.Common.{◌∙◌, sym, set, arith}
use Rattle.std.proofs.lemmas.List.{length-set}
use Rattle.feature_store.specs.Blocks.{block_at, entry_at}
use Rattle.feature_store.proofs.EntryLemmas.{ids_kept, places_changed, places_kept}
use Rattle.feature_store.proofs.RoomLemmas.{room_set}
use Rattle.feature_store.proofs.blocks.renumber.Goals as goal

pub returns-then-place_in-from-clause-ids : goal.returns-then-place_in-from-clause-ids
returns-then-place_in-from-clause-ids g c =
    let present = rw c.deref.ensures.value at c.in-Some.ensures.present in
    let found = rw c.deref.ensures.value at c.in-Some.ensures.found in
    let read = rw c.deref-in-Some.ensures.value at c.place_in.ensures in
    rw c.set_place.ensures.items (ids_kept _ _ c.in-Some.position present found c.args.from c.args.to c.requires.rising)

pub returns-then-place_in-from-clause-places : goal.returns-then-place_in-from-clause-places
returns-then-place_in-from-clause-places g c =
    let present = rw c.deref.ensures.value at c.in-Some.ensures.present in
    let found = rw c.deref.ensures.value at c.in-Some.ensures.found in
    let read = rw c.deref-in-Some.ensures.value at c.place_in.ensures in
    rw c.set_place.ensures.items (places_changed _ _ c.in-Some.position present found c.args.from c.args.to c.requires.rising (sym read ∙ c.if-place_in-from.true))

pub returns-then-place_in-from-clause-room : goal.returns-then-place_in-from-clause-room
returns-then-place_in-from-clause-room g c =
    let present = rw c.deref.ensures.value at c.in-Some.ensures.present in
    let found = rw c.deref.ensures.value at c.in-Some.ensures.found in
    let read = rw c.deref-in-Some.ensures.value at c.place_in.ensures in
    let blocks = c.args.blocks.now.items in
    let position = c.in-Some.position in
    let entries = block_at blocks position.block in
    rw (c.set_place.ensures.items, c.set_place.ensures.capacity)
    (room_set blocks position.block _ (record { items = set entries position.index (record (entry_at entries position.index) { place = c.args.to }) }) present.block_in
    (omega (arith, length-set entries position.index (record (entry_at entries position.index) { place = c.args.to }))))

pub returns-else-place_in-from-clause-places : goal.returns-else-place_in-from-clause-places
returns-else-place_in-from-clause-places g c =
    let present = rw c.deref.ensures.value at c.in-Some.ensures.present in
    let found = rw c.deref.ensures.value at c.in-Some.ensures.found in
    let read = rw c.deref-in-Some.ensures.value at c.place_in.ensures in
    places_kept _ _ c.in-Some.position present found c.args.from c.args.to c.requires.rising (λ there. c.if-place_in-from.false (read ∙ there))
