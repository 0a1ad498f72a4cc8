use Rattle.feature_store.proofs.BlockLemmas.{items_emptied}
use Rattle.feature_store.proofs.RoomLemmas.{room_removed}
use Rattle.feature_store.proofs.blocks.tidy.Goals as goal

pub returns-then-is_vacant-clause-items : goal.returns-then-is_vacant-clause-items
returns-then-is_vacant-clause-items g c = let none = c.is_vacant.ensures.none c.if-is_vacant.true in rw c.remove.ensures.items (items_emptied _ _ c.requires.within (rw c.deref.ensures.value at none))

pub returns-then-is_vacant-clause-room : goal.returns-then-is_vacant-clause-room
returns-then-is_vacant-clause-room g c = rw (c.remove.ensures.items, c.remove.ensures.capacity) (room_removed _ _ _ c.requires.within)
