-- How the chunks of a list lie in its table. No public clause cites this module.
use Rattle.std.specs.Prelude.{◌≡◌, ℕ, zero, suc, ◌+◌, ◌*◌, ◌/◌, ◌%◌, ◌<◌, ◌≤◌, List, [], ◌++◌, length, Option, Some, None, IsSome, option_and_then, option_to_list, slice_index_or, refl}
use Rattle.std.specs.Coded.{Coded, code_by, coded×, coded_ℕ, coded_list}
use Rattle.chunks.specs.Blocks.{Held}

-- what a contract sees of a table: the handle that frees its blocks, the elements, for how many
-- elements its chunks have places, and for how many chunks it has
pub record Listed (S A : Type 0) : Type 0 where
  pub heap : A
  pub items : List S
  pub places : ℕ
  pub room : ℕ

abbrev pub listed_code : {S A : Type 0} → Coded S → Coded A → Coded (Listed S A)
listed_code {S} {A} values heaps =
    code_by
    (A × (List S × (ℕ × ℕ)))
    (coded× heaps (coded× (coded_list values) (coded× coded_ℕ coded_ℕ)))
    (λ t. (t.heap, (t.items, (t.places, t.room))))
    (λ p. record { heap = p.0; items = p.1.0; places = p.1.1.0; room = p.1.1.1 })
    (λ _. refl)

-- the first `count` values of a function that has them all
abbrev pub first_values : {S : Type 0} → (ℕ → Option S) → ℕ → List S
first_values value zero = []
first_values value (suc count) = first_values value count ++ option_to_list (value count)

module _ {S A : Type 0} where
  -- element i lies in chunk i / 256, at place i % 256
  abbrev pub value_at : List (Option (Held S A)) → ℕ → Option S
  value_at chunks i =
      option_and_then (λ chunk. slice_index_or chunk.items (i % 256) None)
      (slice_index_or chunks (i / 256) None)

  -- a chunk of this allocator, with 256 places
  abbrev pub IsChunk : A → Option (Held S A) → Type 0
  IsChunk heap item =
      (chunk : Held S A) × (item ≡ Some chunk) × (chunk.heap ≡ heap) × (length chunk.items ≡ 256)

  -- the first `count` of the table's `room` places hold chunks, and the first `len` of the chunks'
  -- places hold the elements
  pub record IsTable (table : Held (Held S A) A) (room count len : ℕ) : Type 0 where
    pub size : length table.items ≡ room
    pub counted : count ≤ room
    pub has_room : 0 < room
    pub limit : room ≤ 4096
    pub chunks : (k : ℕ) → k < count → IsChunk table.heap (slice_index_or table.items k None)
    pub no_more : (k : ℕ) → count ≤ k → slice_index_or table.items k None ≡ None
    pub full : (i : ℕ) → i < len → IsSome (value_at table.items i)
    pub empty : (i : ℕ) → len ≤ i → value_at table.items i ≡ None
    pub within : len ≤ count * 256
