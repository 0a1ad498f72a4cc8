-- Changes of the nodes' arena.
use Rattle.std.specs.Prelude.{◌≡◌, ◌≢◌, Some}
use Rattle.std.specs.Option.{option_map}
use Rattle.node_arena.specs.Slots.{Slots, SameCounts, value_at}
use Rattle.node_arena.specs.declared.handle.Handle.{Handle}

module _ {N : Type 0} where
  -- the node at this handle, if there is one, gets this change; no other node and no count changes
  pub record IsChanged (old new : Slots N) (at : Handle) (change : N → N) : Type 0 where
    pub here : value_at new at ≡ option_map change (value_at old at)
    pub others : (other : Handle) → other ≢ at → value_at new other ≡ value_at old other
    pub counts : SameCounts old new

  -- no node changes
  pub record AreSame (old new : Slots N) : Type 0 where
    pub each : (handle : Handle) → value_at new handle ≡ value_at old handle
    pub counts : SameCounts old new

  -- P holds of the node at this handle, if there is one
  abbrev pub Holds : Slots N → Handle → (N → Type 0) → Type 0
  Holds nodes at P = (node : N) → value_at nodes at ≡ Some node → P node
