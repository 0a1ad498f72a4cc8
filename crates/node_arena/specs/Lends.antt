-- What becomes of an arena when a `&mut` to one of its values is returned.
use Rattle.std.specs.Prelude.{Option}
use Rattle.std.specs.Borrow.{Lends, LendsIf, Fml, RattleType, MutBor}
use Rattle.std.specs.declared.alloc.Allocator.{Ghosts}
use Rattle.node_arena.specs.declared.handle.Handle.{Handle}
use Rattle.node_arena.specs.Slots.{Slots, with_value}
use Rattle.node_arena.specs.contracts.Arena.{the_row}

module _ (T A : RattleType) (alloc : Ghosts A.Denot) (s : MutBor (Slots T.Denot)) (handle : Handle)
  where
    -- once the borrow r ends, the handle has the last value written through r
    abbrev pub lends_value : MutBor T.Denot → Fml
    lends_value r = Lends (the_row T A alloc) T s r (with_value s.now handle)

    -- the same where r may be `None`: then the arena is unchanged
    abbrev pub lends_get : Option (MutBor T.Denot) → Fml
    lends_get r = LendsIf (the_row T A alloc) T s r (with_value s.now handle) s.now
