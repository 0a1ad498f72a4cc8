-- Where an element lies, and how a table changes.
use Rattle.std.proofs.Common.{◌≡◌, ◌≢◌, ℕ, ◌+◌, ◌-◌, ◌*◌, ◌/◌, ◌%◌, ◌<◌, ◌≤◌, min, List, Option, Some, None, IsSome, length, get_or, set, replicate, refl, sym, ap, subst, ◌∙◌, inl, inr, arith, length-set}
use Rattle.std.specs.Prelude.{option_and_then}
use Rattle.std.proofs.lemmas.Bool.{cases_eq, cases_lt}
use Rattle.std.proofs.lemmas.List.{get_or-set_same, get_or-set_other, get_or_past}
use Rattle.std.proofs.lemmas.Nat.{div-add-mod', div_below, mod_below, div-mul-add, mod-mul-add}
use Rattle.std.proofs.lemmas.Option.{same_Some}
use Rattle.chunks.specs.Blocks.{Held, with_item, IsFull, IsFreeFrom, SameItems}
use Rattle.chunks.specs.Tables.{Listed, first_values, value_at, IsChunk, IsTable}
use Rattle.chunks.proofs.Emptied.{none-replicate}
use Rattle.chunks.proofs.Elements.{length-first_values}

-- two elements with the same chunk and the same place are one
same_place : (i j : ℕ) → j / 256 ≡ i / 256 → j % 256 ≡ i % 256 → j ≡ i
same_place i j chunk place = sym (div-add-mod' j 256) ∙ (λ t. chunk t * 256 + place t) ∙ div-add-mod' i 256

module _ {S A : Type 0} where
  pub value_at-found : (chunks : List (Option (Held S A))) (i : ℕ) (c : Held S A) → get_or chunks (i / 256) None ≡ Some c → value_at chunks i ≡ get_or c.items (i % 256) None
  value_at-found chunks i c found = ap (option_and_then (λ (x : Held S A). get_or x.items (i % 256) None)) found

  value_at-of : (chunks : List (Option (Held S A))) (k place : ℕ) (c : Held S A) → place < 256 → get_or chunks k None ≡ Some c → value_at chunks (k * 256 + place) ≡ get_or c.items place None
  value_at-of chunks k place c within found =
      let i = k * 256 + place in
      value_at-found chunks i c (ap (λ (j : ℕ). get_or chunks j None) (div-mul-add k 256 place within) ∙ found) ∙ ap (λ (j : ℕ). get_or c.items j None) (mod-mul-add k 256 place within)

  -- what is read once a chunk has another item in a place
  module _ (chunks : List (Option (Held S A))) (i : ℕ) (c new : Held S A) (item : Option S) (in_table : i / 256 < length chunks) (found : get_or chunks (i / 256) None ≡ Some c) (in_chunk : i % 256 < length c.items) (is : new.items ≡ set c.items (i % 256) item) where
    abbrev after : List (Option (Held S A))
    after = set chunks (i / 256) (Some new)

    pub value_at-here : value_at after i ≡ item
    value_at-here =
        value_at-found after i new (get_or-set_same chunks (i / 256) (Some new) None in_table) ∙ ap (λ (xs : List (Option S)). get_or xs (i % 256) None) is ∙ get_or-set_same c.items (i % 256) item None in_chunk

    pub value_at-other : (j : ℕ) → j ≢ i → value_at after j ≡ value_at chunks j
    value_at-other j differs = elim (cases_eq (j / 256) (i / 256)) [
      | inl same ↦
          value_at-found after j new (ap (λ (k : ℕ). get_or after k None) same ∙ get_or-set_same chunks (i / 256) (Some new) None in_table) ∙ ap (λ (xs : List (Option S)). get_or xs (j % 256) None) is
          ∙ get_or-set_other c.items (i % 256) (j % 256) item None (λ place. differs (same_place i j same place)) ∙ sym (value_at-found chunks j c (ap (λ (k : ℕ). get_or chunks k None) same ∙ found))
      | inr apart ↦ ap (option_and_then (λ (x : Held S A). get_or x.items (j % 256) None)) (get_or-set_other chunks (i / 256) (j / 256) (Some new) None apart)
    ]

  pub same_listed : (heap : A) (xs ys : List S) (places room : ℕ) → xs ≡ ys → ◌≡◌ {A = Listed S A} (record { heap = heap; items = xs; places = places; room = room }) (record { heap = heap; items = ys; places = places; room = room })
  same_listed heap xs ys places room same = λ t. record { heap = heap; items = same t; places = places; room = room }

  -- an empty chunk more changes no value
  pub value_at-chunk : (chunks : List (Option (Held S A))) (count : ℕ) (new : Held S A) → count < length chunks → get_or chunks count None ≡ None → new.items ≡ replicate 256 None → (j : ℕ) → value_at (set chunks count (Some new)) j ≡ value_at chunks j
  value_at-chunk chunks count new within none empty j = elim (cases_eq (j / 256) count) [
    | inl same ↦
        value_at-found _ j new (ap (λ (k : ℕ). get_or (set chunks count (Some new)) k None) same ∙ get_or-set_same chunks count (Some new) None within) ∙ ap (λ (xs : List (Option S)). get_or xs (j % 256) None) empty ∙ none-replicate 256 (j % 256)
        ∙ sym (ap (option_and_then (λ (x : Held S A). get_or x.items (j % 256) None)) (ap (λ (k : ℕ). get_or chunks k None) same ∙ none))
    | inr apart ↦ ap (option_and_then (λ (x : Held S A). get_or x.items (j % 256) None)) (get_or-set_other chunks count (j / 256) (Some new) None apart)
  ]

  module _ (table : Held (Held S A) A) (room count len : ℕ) (sound : IsTable table room count len) where
    -- the chunk of a place
    pub record IsFound (i : ℕ) (c : Held S A) : Type 0 where
      pub counted : i / 256 < count
      pub in_table : i / 256 < length table.items
      pub at : get_or table.items (i / 256) None ≡ Some c
      pub heap : c.heap ≡ table.heap
      pub size : length c.items ≡ 256
      pub in_chunk : i % 256 < length c.items

    pub is_filled : (i : ℕ) → i < count * 256 → IsSome (get_or table.items (i / 256) None)
    is_filled i below = let chunk = sound.chunks (i / 256) (div_below i 256 count (omega arith) below) in subst IsSome (sym chunk.1) refl

    pub is_in_table : (i : ℕ) → i < count * 256 → i / 256 < length table.items
    is_in_table i below = let k = div_below i 256 count (omega arith) below in omega (arith, k, sound.size, sound.counted)

    pub found : (i : ℕ) (c : Held S A) → i < count * 256 → get_or table.items (i / 256) None ≡ Some c → IsFound i c
    found i c below at =
        let k : i / 256 < count = div_below i 256 count (omega arith) below in
        let chunk = sound.chunks (i / 256) k in
        let same : chunk.0 ≡ c = same_Some chunk.0 c (sym chunk.1 ∙ at) in
        let place : i % 256 < 256 = mod_below i 256 (omega arith) in
        let size : length c.items ≡ 256 = ap (λ (x : Held S A). length x.items) (sym same) ∙ chunk.3 in
        record {
          counted = k;
          in_table = is_in_table i below;
          at = at;
          heap = ap (λ (x : Held S A). x.heap) (sym same) ∙ chunk.2;
          size = size;
          in_chunk = omega (arith, place, size);
        }

    -- an element is below the number of elements, and so of places
    pub is_element : (i : ℕ) → i < length (first_values (value_at table.items) len) → i < len
    is_element i lt = subst (λ (n : ℕ). i < n) (length-first_values (value_at table.items) len sound.full) lt

    pub has_place : (i : ℕ) → i < length (first_values (value_at table.items) len) → i < count * 256
    has_place i lt = let e = is_element i lt in omega (arith, e, sound.within)

    pub has_next : length (first_values (value_at table.items) len) < count * 256 → len < count * 256
    has_next lt = subst (λ (n : ℕ). n < count * 256) (length-first_values (value_at table.items) len sound.full) lt

    pub value_in : (i : ℕ) (c : Held S A) → get_or table.items (i / 256) None ≡ Some c → i < len → IsSome (get_or c.items (i % 256) None)
    value_in i c at below = subst IsSome (value_at-found table.items i c at) (sound.full i below)

    pub none_in : (i : ℕ) (c : Held S A) → get_or table.items (i / 256) None ≡ Some c → len ≤ i → get_or c.items (i % 256) None ≡ None
    none_in i c at from = sym (value_at-found table.items i c at) ∙ sound.empty i from

    -- one place of a chunk is written, of an element or of the next one
    pub IsTable-written : (i : ℕ) (c new : Held S A) (x : S) → IsFound i c → new.heap ≡ c.heap → new.items ≡ set c.items (i % 256) (Some x)
        → (more : ℕ) → len ≤ more → i < more → more ≤ count * 256 → ((j : ℕ) → j < more → j ≢ i → j < len)
        → IsTable (with_item table (i / 256) (Some new)) room count more
    IsTable-written i c new x where_it_is heap items more longer within fits others =
        let here = value_at-here table.items i c new (Some x) where_it_is.in_table where_it_is.at where_it_is.in_chunk items in
        let other = value_at-other table.items i c new (Some x) where_it_is.in_table where_it_is.at where_it_is.in_chunk items in
        record {
          size = length-set table.items (i / 256) (Some new) ∙ sound.size;
          counted = sound.counted;
          has_room = sound.has_room;
          limit = sound.limit;
          chunks = λ k below. elim (cases_eq k (i / 256)) [
            | inl same ↦ (
              new,
              ap (λ (j : ℕ). get_or (set table.items (i / 256) (Some new)) j None) same ∙ get_or-set_same table.items (i / 256) (Some new) None where_it_is.in_table,
              heap ∙ where_it_is.heap,
              ap length items ∙ length-set c.items (i % 256) (Some x) ∙ where_it_is.size,
            )
            | inr apart ↦ subst (IsChunk table.heap) (sym (get_or-set_other table.items (i / 256) k (Some new) None apart)) (sound.chunks k below)
          ];
          no_more = λ k from. get_or-set_other table.items (i / 256) k (Some new) None (λ same. omega (arith, where_it_is.counted)) ∙ sound.no_more k from;
          full = λ j below. elim (cases_eq j i) [
            | inl same ↦ subst IsSome (sym (ap (value_at (set table.items (i / 256) (Some new))) same ∙ here)) refl
            | inr differs ↦ subst IsSome (sym (other j differs)) (sound.full j (others j below differs))
          ];
          empty = λ j from. other j (λ same. omega arith) ∙ sound.empty j (omega arith);
          within = fits;
        }

    pub IsTable-chunk : (new : Held S A) → count < room → new.heap ≡ table.heap → new.items ≡ replicate 256 None → IsTable (with_item table count (Some new)) room (count + 1) len
    IsTable-chunk new below heap empty =
        let in_table : count < length table.items = omega (arith, sound.size) in
        let same = value_at-chunk table.items count new in_table (sound.no_more count (omega arith)) empty in
        record {
          size = length-set table.items count (Some new) ∙ sound.size;
          counted = omega arith;
          has_room = sound.has_room;
          limit = sound.limit;
          chunks = λ k lt. elim (cases_eq k count) [
            | inl is ↦ (
              new,
              ap (λ (j : ℕ). get_or (set table.items count (Some new)) j None) is ∙ get_or-set_same table.items count (Some new) None in_table,
              heap,
              ap length empty,
            )
            | inr apart ↦ subst (IsChunk table.heap) (sym (get_or-set_other table.items count k (Some new) None apart)) (sound.chunks k (omega arith))
          ];
          no_more = λ k from. get_or-set_other table.items count k (Some new) None (λ is. omega arith) ∙ sound.no_more k (omega arith);
          full = λ j lt. subst IsSome (sym (same j)) (sound.full j lt);
          empty = λ j from. same j ∙ sound.empty j from;
          within = omega (arith, sound.within);
        }

    pub value_at-wider : (new : Held (Held S A) A) → SameItems table.items new.items → (j : ℕ) → value_at new.items j ≡ value_at table.items j
    value_at-wider new same j = ap (option_and_then (λ (x : Held S A). get_or x.items (j % 256) None)) (same (j / 256))

    pub IsTable-wider : (new : Held (Held S A) A) (wider : ℕ) → new.heap ≡ table.heap → length new.items ≡ wider → count ≤ wider → 0 < wider → wider ≤ 4096 → SameItems table.items new.items → IsTable new wider count len
    IsTable-wider new wider heap size counted some limit same = record {
      size = size;
      counted = counted;
      has_room = some;
      limit = limit;
      chunks = λ k lt. let was = sound.chunks k lt in (was.0, same k ∙ was.1, was.2 ∙ sym heap, was.3);
      no_more = λ k from. same k ∙ sound.no_more k from;
      full = λ j lt. subst IsSome (sym (value_at-wider new same j)) (sound.full j lt);
      empty = λ j from. value_at-wider new same j ∙ sound.empty j from;
      within = sound.within;
    }

    pub chunks_full : IsFull table.items count
    chunks_full k below = let chunk = sound.chunks k below in subst IsSome (sym chunk.1) refl

    -- what one chunk holds, for the one who frees it
    pub record IsPart (k : ℕ) (c : Held S A) : Type 0 where
      pub heap : c.heap ≡ table.heap
      pub size : length c.items ≡ 256
      pub full : IsFull c.items (min (len - k * 256) 256)
      pub free : IsFreeFrom c.items (min (len - k * 256) 256)

    pub part : (k : ℕ) (c : Held S A) → k < count → get_or table.items k None ≡ Some c → IsPart k c
    part k c below at =
        let chunk = sound.chunks k below in
        let same : chunk.0 ≡ c = same_Some chunk.0 c (sym chunk.1 ∙ at) in
        let size : length c.items ≡ 256 = ap (λ (x : Held S A). length x.items) (sym same) ∙ chunk.3 in
        record {
          heap = ap (λ (x : Held S A). x.heap) (sym same) ∙ chunk.2;
          size = size;
          full = λ place lt. let fits : place < 256 = omega arith in subst IsSome (value_at-of table.items k place c fits at) (sound.full (k * 256 + place) (omega arith));
          free = λ place from. elim (cases_lt place 256) [
            | inl fits ↦ sym (value_at-of table.items k place c fits at) ∙ sound.empty (k * 256 + place) (omega arith)
            | inr past ↦ get_or_past c.items place None (omega (arith, size))
          ];
        }
