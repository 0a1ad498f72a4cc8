-- What becomes of an owner of places when a `&mut` to one of its values is returned.
use Rattle.std.specs.Prelude.{ℕ, Some, slice_set}
use Rattle.std.specs.Borrow.{Lends, Fml, RattleType, MutBor}
use Rattle.std.specs.declared.alloc.Allocator.{Ghosts}
use Rattle.chunks.specs.Blocks.{Held, with_item}
use Rattle.chunks.specs.Tables.{Listed}
use Rattle.chunks.specs.Chunks.{Chunks}
use Rattle.chunks.specs.contracts.block.Block as Block
use Rattle.chunks.specs.contracts.table.Table as Table
use Rattle.chunks.specs.contracts.chunked.Chunked as Chunked

module _ (S A : RattleType) (alloc : Ghosts A.Denot) where
  -- once the loan r ends, the block has in the place what was written last
  abbrev pub lends_place : MutBor (Held S.Denot A.Denot) → ℕ → MutBor S.Denot → Fml
  lends_place block place r =
      Lends (Block.the_row S A alloc) S block r (λ value. with_item block.now place (Some value))

  -- the same of an element of a table
  abbrev pub lends_element : MutBor (Listed S.Denot A.Denot) → ℕ → MutBor S.Denot → Fml
  lends_element table i r =
      Lends (Table.the_row S A alloc) S table r (λ value. record {
        heap = table.now.heap;
        items = slice_set table.now.items i value;
        places = table.now.places;
        room = table.now.room;
      })

  -- the same of an element of a list in chunks
  abbrev pub lends_item : MutBor (Chunks S.Denot) → ℕ → MutBor S.Denot → Fml
  lends_item list i r =
      Lends (Chunked.the_row S A alloc) S list r
      (λ value. record { items = slice_set list.now.items i value; places = list.now.places })
