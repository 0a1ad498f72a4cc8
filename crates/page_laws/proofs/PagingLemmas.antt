-- Pages of rows that rise by id.
use Rattle.std.proofs.Common.{◌≡◌, ℕ, zero, suc, ◌+◌, ◌-◌, ◌<◌, ◌≤◌, Bool, true, false, cond, List, [], ◌∷◌, ◌++◌, length, take, drop, Option, None, Some, slice_get, nat_le, refl, sym, ap, ◌∙◌, subst, append_assoc, append-nil, take-append-drop, length-take-le, length-drop, option_map, arith}
use Rattle.std.specs.List.{filter, prefix_len}
use Rattle.std.specs.Option.{option_map_or}
use Rattle.std.proofs.lemmas.Bool.Decides.{nat_tests}
use Rattle.std.proofs.lemmas.List.{take_all}
use Rattle.features.specs.Rows.{IsBelowAll, IsSortedById}
use Rattle.features.specs.declared.rows.Feature.{Feature}
use Rattle.map_asks.specs.declared.asks.Layer.{Layer}
use Rattle.map_answers.specs.Rows.{behind, is_in, is_up_to, last_of, next_after, of_layer, page}
use Rattle.page_laws.specs.Following.{followed}

-- what is above an id does not stand up to it
above_none : (id : ℕ) (ys : List Feature) → IsBelowAll id ys → prefix_len (is_up_to id) ys ≡ 0
above_none id [] h = refl
above_none id (y ∷ ys) h =
    let above : id < y.id = h.0 in
    let no : nat_le y.id id ≡ false = grind (arith, nat_tests) in
    ap (λ b. cond b (1 + prefix_len (is_up_to id) ys) 0) no

-- a row further on has a greater id
below_in : (id : ℕ) (xs : List Feature) (r : Feature) (ys : List Feature) → IsBelowAll id (xs ++ r ∷ ys) → id < r.id
below_in id [] r ys h = h.0
below_in id (x ∷ xs) r ys h = below_in id xs r ys h.1

-- behind the id of a row stand the rows that follow it
behind_row : (xs : List Feature) (r : Feature) (ys : List Feature) → IsSortedById (xs ++ r ∷ ys) → behind (Some r.id) (xs ++ r ∷ ys) ≡ ys
behind_row [] r ys h =
    let yes : nat_le r.id r.id ≡ true = grind (arith, nat_tests) in
    let none : prefix_len (is_up_to r.id) ys ≡ 0 = above_none r.id ys h.0 in
    ap (λ (n : ℕ). drop n (r ∷ ys)) (ap (λ b. cond b (1 + prefix_len (is_up_to r.id) ys) 0) yes ∙ ap (λ (n : ℕ). 1 + n) none)
behind_row (x ∷ xs) r ys h =
    let below : x.id < r.id = below_in x.id xs r ys h.0 in
    let yes : nat_le x.id r.id ≡ true = grind (arith, nat_tests) in
    let more : 1 + prefix_len (is_up_to r.id) (xs ++ r ∷ ys) ≡ suc (prefix_len (is_up_to r.id) (xs ++ r ∷ ys)) = omega arith in
    ap (λ (n : ℕ). drop n (x ∷ (xs ++ r ∷ ys))) (ap (λ b. cond b (1 + prefix_len (is_up_to r.id) (xs ++ r ∷ ys)) 0) yes ∙ more)
    ∙ behind_row xs r ys h.1

-- a row, what stands before it, and what stands behind it
record Split (i : ℕ) (xs : List Feature) : Type 0 where
  row : Feature
  parts : xs ≡ take i xs ++ (row ∷ drop (suc i) xs)
  is : slice_get (take (suc i) xs) i ≡ Some row

split_at : (i : ℕ) (xs : List Feature) → i < length xs → Split i xs
split_at i [] h = absurd (omega arith)
split_at zero (x ∷ xs) h = record { row = x; parts = refl; is = refl }
split_at (suc i) (x ∷ xs) h =
    let rest : Split i xs = split_at i xs (omega arith) in
    record { row = rest.row; parts = ap (λ (ys : List Feature). x ∷ ys) rest.parts; is = rest.is }

-- all rows fit on the page: it is the last one
last_page : (n : ℕ) (after : Option ℕ) (limit : ℕ) (rows : List Feature) → length (behind after rows) ≤ limit → followed (suc n) after limit rows ≡ behind after rows
last_page n after limit rows fits =
    let yes : nat_le (length (behind after rows)) limit ≡ true = grind (arith, nat_tests) in
    let none : next_after after limit rows ≡ None = ap (λ b. cond b None (option_map (λ (row : Feature). row.id) (last_of (page after limit rows)))) yes in
    ap (λ (o : Option ℕ). page after limit rows ++ option_map_or (λ (id : ℕ). followed n (Some id) limit rows) o []) none
    ∙ append-nil (page after limit rows) ∙ take_all limit (behind after rows) fits

-- else the next page begins behind the last row of this one
more_pages : (n : ℕ) (after : Option ℕ) (i : ℕ) (rows : List Feature) (s : Split i (behind after rows)) → suc i < length (behind after rows)
    → followed (suc n) after (suc i) rows ≡ take (suc i) (behind after rows) ++ followed n (Some s.row.id) (suc i) rows
more_pages n after i rows s more =
    let no : nat_le (length (behind after rows)) (suc i) ≡ false = grind (arith, nat_tests) in
    let count : length (take (suc i) (behind after rows)) ≡ suc i = length-take-le (suc i) (behind after rows) (omega arith) in
    let place : length (take (suc i) (behind after rows)) - 1 ≡ i = omega (arith, count) in
    let last : last_of (take (suc i) (behind after rows)) ≡ Some s.row = ap (λ (k : ℕ). slice_get (take (suc i) (behind after rows)) k) place ∙ s.is in
    let next : next_after after (suc i) rows ≡ Some s.row.id =
    ap (λ b. cond b None (option_map (λ (row : Feature). row.id) (last_of (page after (suc i) rows)))) no ∙ ap (option_map (λ (row : Feature). row.id)) last in
    ap (λ (o : Option ℕ). page after (suc i) rows ++ option_map_or (λ (id : ℕ). followed n (Some id) (suc i) rows) o []) next

-- from behind an id on: what one sees is what stands behind it
all_behind : (n : ℕ) (front rows : List Feature) (after : Option ℕ) (i : ℕ) → IsSortedById rows → rows ≡ front ++ behind after rows → length (behind after rows) ≤ n
    → (fits : Bool) → nat_le (length (behind after rows)) (suc i) ≡ fits → followed (suc n) after (suc i) rows ≡ behind after rows
all_behind zero front rows after i sorted parts few fit fits = last_page zero after (suc i) rows (omega arith)
all_behind (suc n) front rows after i sorted parts few true fits =
    let within : length (behind after rows) ≤ suc i = grind (arith, nat_tests) in
    last_page (suc n) after (suc i) rows within
all_behind (suc n) front rows after i sorted parts few false fits =
    let more : suc i < length (behind after rows) = grind (arith, nat_tests) in
    let s : Split i (behind after rows) = split_at i (behind after rows) (omega arith) in
    let whole : rows ≡ (front ++ take i (behind after rows)) ++ (s.row ∷ drop (suc i) (behind after rows)) =
    parts ∙ ap (λ (t : List Feature). front ++ t) s.parts ∙ sym (append_assoc front (take i (behind after rows)) (s.row ∷ drop (suc i) (behind after rows))) in
    let next : behind (Some s.row.id) rows ≡ drop (suc i) (behind after rows) =
    subst (λ (t : List Feature). behind (Some s.row.id) t ≡ drop (suc i) (behind after rows)) (sym whole)
    (behind_row (front ++ take i (behind after rows)) s.row (drop (suc i) (behind after rows)) (subst IsSortedById whole sorted)) in
    let onward : rows ≡ (front ++ take (suc i) (behind after rows)) ++ behind (Some s.row.id) rows =
    parts ∙ ap (λ (t : List Feature). front ++ t) (sym (take-append-drop (suc i) (behind after rows)))
    ∙ sym (append_assoc front (take (suc i) (behind after rows)) (drop (suc i) (behind after rows)))
    ∙ ap (λ (t : List Feature). (front ++ take (suc i) (behind after rows)) ++ t) (sym next) in
    let fewer : length (behind (Some s.row.id) rows) ≤ n = omega (arith, ap length next, length-drop (suc i) (behind after rows)) in
    more_pages (suc n) after i rows s more
    ∙ ap (λ (t : List Feature). take (suc i) (behind after rows) ++ t) (all_behind n (front ++ take (suc i) (behind after rows)) rows (Some s.row.id) i sorted onward fewer (nat_le (length (behind (Some s.row.id) rows)) (suc i)) refl ∙ next)
    ∙ take-append-drop (suc i) (behind after rows)

-- from the first page on, one sees all rows
pub all_followed : (rows : List Feature) (limit : ℕ) → IsSortedById rows → 1 ≤ limit → followed (suc (length rows)) None limit rows ≡ rows
all_followed rows zero sorted some = absurd (omega arith)
all_followed rows (suc i) sorted some = all_behind (length rows) [] rows None i sorted refl (omega arith) (nat_le (length rows) (suc i)) refl

-- what is kept of rows above an id is above it
below_kept : (p : Feature → Bool) (id : ℕ) (rows : List Feature) → IsBelowAll id rows → IsBelowAll id (filter p rows)
below_kept p id [] h = tt
below_kept p id (x ∷ xs) h =
    elim (p x) as (λ b. IsBelowAll id (cond b (x ∷ filter p xs) (filter p xs))) [ true ↦ (h.0, below_kept p id xs h.1) | false ↦ below_kept p id xs h.1 ]

sorted_kept : (p : Feature → Bool) (rows : List Feature) → IsSortedById rows → IsSortedById (filter p rows)
sorted_kept p [] h = tt
sorted_kept p (x ∷ xs) h =
    elim (p x) as (λ b. IsSortedById (cond b (x ∷ filter p xs) (filter p xs))) [ true ↦ (below_kept p x.id xs h.0, sorted_kept p xs h.1) | false ↦ sorted_kept p xs h.1 ]

-- the rows of a collection rise by id, as those of all do
pub collection_sorted : (layer : Layer) (rows : List Feature) → IsSortedById rows → IsSortedById (of_layer layer rows)
collection_sorted layer rows h = sorted_kept (is_in layer) rows h
