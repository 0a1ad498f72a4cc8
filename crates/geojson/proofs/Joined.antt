-- Polygons read one by one.
use Rattle.std.proofs.Common.{◌≡◌, ℕ, suc, ◌+◌, ◌<◌, ◌≤◌, List, ◌++◌, length, drop, get_or, Some, Result, Ok, Err, refl, sym, ap, ◌∙◌, append_assoc, arith}
use Rattle.std.proofs.lemmas.List.{append-nil, drop_all}
use Rattle.std.specs.Bool.{MatchBool, ⊤}
use Rattle.json.specs.Json.{Json}
use Rattle.json.specs.Value.{value_view, items_view}
use Rattle.json.specs.declared.value.Value.{Value}
use Rattle.grid.specs.declared.grids.Grid.{Grid}
use Rattle.geojson.specs.declared.faults.CoordinatesFault.{CoordinatesFault}
use Rattle.geojson.specs.declared.geometries.Layout.TheVariants.{Rings}
use Rattle.geojson.specs.Faults.{is_memory, in_polygon, ◌>>=◌}
use Rattle.geojson.specs.Reading.{PathOf, list_from, with_front, with_all, paths_in}
use Rattle.geojson.specs.Given.{joined, polygon_at}
use Rattle.geojson.proofs.Lists.{items_at, go-told}

-- an index is told of a fault alone
behind : (xs : List PathOf) (n : ℕ) (r : Result (List PathOf) CoordinatesFault) → with_all xs (in_polygon n r) ≡ in_polygon n (with_all xs r)
behind xs n (Ok ys) = refl
behind xs n (Err fault) = refl

pub polygon_put : (grid : Grid) (xs zs : List PathOf) (n : ℕ) (j : Json) → with_all xs (paths_in grid Rings j) ≡ Ok zs → with_all xs (polygon_at grid n j) ≡ Ok zs
polygon_put grid xs zs n j e = behind xs n (paths_in grid Rings j) ∙ ap (in_polygon n) e

pub polygon_fault : (grid : Grid) (xs : List PathOf) (n : ℕ) (j : Json) (fault : CoordinatesFault) → MatchBool (is_memory fault.cause) ⊤ (with_all xs (paths_in grid Rings j) ≡ Err fault)
    → MatchBool (is_memory fault.cause) ⊤ (with_all xs (polygon_at grid n j) ≡ Err (record { cause = fault.cause; spot = record fault.spot { polygon = Some n } }))
polygon_fault grid xs n j fault told =
    go-told (is_memory fault.cause) (with_all xs (paths_in grid Rings j) ≡ Err fault) (with_all xs (polygon_at grid n j) ≡ Err (record { cause = fault.cause; spot = record fault.spot { polygon = Some n } }))
    (λ e. behind xs n (paths_in grid Rings j) ∙ ap (in_polygon n) e) told

joined_front : {T : Type 0} (ys : List T) (rest : Result (List (List T)) CoordinatesFault) → joined (with_front ys rest) ≡ with_all ys (joined rest)
joined_front ys (Ok lists) = refl
joined_front ys (Err fault) = refl

with_more : {T : Type 0} (xs ys : List T) (rest : Result (List T) CoordinatesFault) → with_all xs (with_all ys rest) ≡ with_all (xs ++ ys) rest
with_more xs ys (Ok zs) = ap Ok (sym (append_assoc xs ys zs))
with_more xs ys (Err fault) = refl

-- one more list, and those behind it
one_list : {T : Type 0} (xs : List T) (r : Result (List T) CoordinatesFault) (rest : Result (List (List T)) CoordinatesFault)
    → with_all xs (joined (r >>= λ y. with_front y rest)) ≡ (with_all xs r >>= λ zs. with_all zs (joined rest))
one_list xs (Ok ys) rest = ap (with_all xs) (joined_front ys rest) ∙ with_more xs ys (joined rest)
one_list xs (Err fault) rest = refl

next_list : {A T : Type 0} (read : ℕ → Json → Result (List T) CoordinatesFault) (vs : List (Value A)) (xs : List T) (whole : Result (List T) CoordinatesFault) (i : ℕ) (v : Value A)
    → i < length vs → v ≡ get_or vs i v → whole ≡ with_all xs (joined (list_from read i (items_view (drop i vs))))
    → whole ≡ (with_all xs (read i (value_view v)) >>= λ zs. with_all zs (joined (list_from read (suc i) (items_view (drop (suc i) vs)))))
unfolding list_from
next_list read vs xs whole i v lt is so_far =
    so_far
    ∙ ap (λ js. with_all xs (joined (list_from read i js))) (items_at vs i v lt)
    ∙ ap (λ w. with_all xs (joined (read i (value_view w) >>= λ y. with_front y (list_from read (suc i) (items_view (drop (suc i) vs)))))) (sym is)
    ∙ one_list xs (read i (value_view v)) (list_from read (suc i) (items_view (drop (suc i) vs)))

-- one more list was read
pub lists_more : {A T : Type 0} (read : ℕ → Json → Result (List T) CoordinatesFault) (vs : List (Value A)) (xs zs : List T) (whole : Result (List T) CoordinatesFault) (i : ℕ) (v : Value A)
    → i < length vs → v ≡ get_or vs i v → whole ≡ with_all xs (joined (list_from read i (items_view (drop i vs)))) → with_all xs (read i (value_view v)) ≡ Ok zs
    → whole ≡ with_all zs (joined (list_from read (i + 1) (items_view (drop (i + 1) vs))))
lists_more read vs xs zs whole i v lt is so_far e =
    let next : suc i ≡ i + 1 = omega arith in
    next_list read vs xs whole i v lt is so_far
    ∙ ap (λ r. r >>= λ ws. with_all ws (joined (list_from read (suc i) (items_view (drop (suc i) vs))))) e
    ∙ ap (λ (n : ℕ). with_all zs (joined (list_from read n (items_view (drop n vs))))) next

-- a list was at fault
pub lists_told : {A T : Type 0} (read : ℕ → Json → Result (List T) CoordinatesFault) (vs : List (Value A)) (xs : List T) (whole : Result (List T) CoordinatesFault) (i : ℕ) (v : Value A) (fault : CoordinatesFault)
    → i < length vs → v ≡ get_or vs i v → whole ≡ with_all xs (joined (list_from read i (items_view (drop i vs)))) → MatchBool (is_memory fault.cause) ⊤ (with_all xs (read i (value_view v)) ≡ Err fault)
    → MatchBool (is_memory fault.cause) ⊤ (whole ≡ Err fault)
lists_told read vs xs whole i v fault lt is so_far told =
    go-told (is_memory fault.cause) (with_all xs (read i (value_view v)) ≡ Err fault) (whole ≡ Err fault)
    (λ e. next_list read vs xs whole i v lt is so_far
    ∙ ap (λ r. r >>= λ ws. with_all ws (joined (list_from read (suc i) (items_view (drop (suc i) vs))))) e) told

-- all lists were read
pub lists_end : {A T : Type 0} (read : ℕ → Json → Result (List T) CoordinatesFault) (vs : List (Value A)) (xs : List T) (whole : Result (List T) CoordinatesFault) (i : ℕ)
    → length vs ≤ i → whole ≡ with_all xs (joined (list_from read i (items_view (drop i vs)))) → whole ≡ Ok xs
unfolding list_from
lists_end read vs xs whole i le so_far =
    so_far ∙ ap (λ ws. with_all xs (joined (list_from read i (items_view ws)))) (drop_all i vs le) ∙ ap Ok (append-nil xs)
