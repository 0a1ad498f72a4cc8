use Rattle.feature_store.proofs.BlockLemmas.{filled_joined, items_joined}
use Rattle.feature_store.proofs.RoomLemmas.{room_joined}
use Rattle.feature_store.proofs.blocks.join_small.Goals as goal

pub returns-then-can_join-clause-items : goal.returns-then-can_join-clause-items
returns-then-can_join-clause-items g c = let next = c.can_join.ensures.next c.if-can_join.true in rw c.join.ensures.items (items_joined _ _ (rw c.deref.ensures.value at next))

pub returns-then-can_join-clause-filled : goal.returns-then-can_join-clause-filled
returns-then-can_join-clause-filled g c = let next = c.can_join.ensures.next c.if-can_join.true in rw c.join.ensures.items (filled_joined _ _ c.requires (rw c.deref.ensures.value at next))

pub returns-then-can_join-clause-room : goal.returns-then-can_join-clause-room
returns-then-can_join-clause-room g c =
    let next = c.can_join.ensures.next c.if-can_join.true in
    let small = c.can_join.ensures.small c.if-can_join.true in
    rw (c.join.ensures.items, c.join.ensures.capacity) (room_joined _ _ _ (rw c.deref.ensures.value at next) (rw c.deref.ensures.value at small))
