-- Lists read value by value.
use Rattle.std.proofs.Common.{◌≡◌, ℕ, suc, ◌+◌, ◌<◌, ◌≤◌, Bool, true, false, List, [], ◌∷◌, ◌++◌, length, drop, get_or, Some, Result, Ok, Err, refl, sym, ap, ◌∙◌, append_assoc, arith}
use Rattle.std.proofs.Math.Seq.{drop-cons}
use Rattle.std.proofs.lemmas.List.{append-nil, drop_all}
use Rattle.std.specs.Bool.{MatchBool, ⊤}
use Rattle.json.specs.Json.{Json, item}
use Rattle.json.specs.Value.{value_view, items_view}
use Rattle.json.specs.declared.value.Value.{Value}
use Rattle.geojson.specs.declared.faults.CoordinatesFault.{CoordinatesFault}
use Rattle.geojson.specs.Faults.{is_memory, in_path, ◌>>=◌}
use Rattle.grid.specs.declared.grids.Grid.{Grid}
use Rattle.geojson.specs.declared.geometries.Layout.{Layout}
use Rattle.geojson.specs.Reading.{list_from, with_all, with_front, with_role, role_at, points_in, path_at}

pub with_none : {T F : Type 0} (r : Result (List T) F) → r ≡ with_all [] r
with_none (Ok ys) = refl
with_none (Err fault) = refl

with_one_more : {T F : Type 0} (xs : List T) (x : T) (r : Result (List T) F) → with_all xs (with_front x r) ≡ with_all (xs ++ x ∷ []) r
with_one_more xs x (Ok ys) = ap Ok (sym (append_assoc xs (x ∷ []) ys))
with_one_more xs x (Err fault) = refl

-- the value at an index, and those behind it
pub items_at : {A : Type 0} (vs : List (Value A)) (i : ℕ) (d : Value A) → i < length vs
    → items_view (drop i vs) ≡ item (value_view (get_or vs i d)) (items_view (drop (suc i) vs))
items_at vs i d lt = ap items_view (drop-cons vs i d lt)

-- one more value was read
pub list_more : {A T F : Type 0} (read : ℕ → Json → Result T F) (vs : List (Value A)) (xs : List T) (whole : Result (List T) F) (i : ℕ) (v : Value A) (x : T)
    → i < length vs → v ≡ get_or vs i v → whole ≡ with_all xs (list_from read i (items_view (drop i vs))) → read i (value_view v) ≡ Ok x
    → whole ≡ with_all (xs ++ x ∷ []) (list_from read (i + 1) (items_view (drop (i + 1) vs)))
unfolding list_from
list_more read vs xs whole i v x lt is so_far e =
    let next : suc i ≡ i + 1 = omega arith in
    so_far
    ∙ ap (λ js. with_all xs (list_from read i js)) (items_at vs i v lt)
    ∙ ap (λ w. with_all xs (read i (value_view w) >>= λ y. with_front y (list_from read (suc i) (items_view (drop (suc i) vs))))) (sym is)
    ∙ ap (λ r. with_all xs (r >>= λ y. with_front y (list_from read (suc i) (items_view (drop (suc i) vs))))) e
    ∙ with_one_more xs x (list_from read (suc i) (items_view (drop (suc i) vs)))
    ∙ ap (λ (n : ℕ). with_all (xs ++ x ∷ []) (list_from read n (items_view (drop n vs)))) next

-- a value was at fault
list_fault : {A T F : Type 0} (read : ℕ → Json → Result T F) (vs : List (Value A)) (xs : List T) (whole : Result (List T) F) (i : ℕ) (v : Value A) (fault : F)
    → i < length vs → v ≡ get_or vs i v → whole ≡ with_all xs (list_from read i (items_view (drop i vs))) → read i (value_view v) ≡ Err fault
    → whole ≡ Err fault
unfolding list_from
list_fault read vs xs whole i v fault lt is so_far e =
    so_far
    ∙ ap (λ js. with_all xs (list_from read i js)) (items_at vs i v lt)
    ∙ ap (λ w. with_all xs (read i (value_view w) >>= λ y. with_front y (list_from read (suc i) (items_view (drop (suc i) vs))))) (sym is)
    ∙ ap (λ r. with_all xs (r >>= λ y. with_front y (list_from read (suc i) (items_view (drop (suc i) vs))))) e

-- all values were read
pub list_end : {A T F : Type 0} (read : ℕ → Json → Result T F) (vs : List (Value A)) (xs : List T) (whole : Result (List T) F) (i : ℕ)
    → length vs ≤ i → whole ≡ with_all xs (list_from read i (items_view (drop i vs))) → whole ≡ Ok xs
unfolding list_from
list_end read vs xs whole i le so_far =
    so_far ∙ ap (λ ws. with_all xs (list_from read i (items_view ws))) (drop_all i vs le) ∙ ap Ok (append-nil xs)

-- what is told of a fault holds of what follows from it
pub go-told : (b : Bool) (P Q : Type 0) → (P → Q) → MatchBool b ⊤ P → MatchBool b ⊤ Q
go-told true P Q f p = tt
go-told false P Q f p = f p

go-fault : (b : Bool) (P : Type 0) → P → MatchBool b ⊤ P
go-fault true P p = tt
go-fault false P p = p

-- a value was at fault, or wanted memory
pub list_told : {A T F : Type 0} (refused : Bool) (read : ℕ → Json → Result T F) (vs : List (Value A)) (xs : List T) (whole : Result (List T) F) (i : ℕ) (v : Value A) (fault : F)
    → i < length vs → v ≡ get_or vs i v → whole ≡ with_all xs (list_from read i (items_view (drop i vs))) → MatchBool refused ⊤ (read i (value_view v) ≡ Err fault)
    → MatchBool refused ⊤ (whole ≡ Err fault)
list_told refused read vs xs whole i v fault lt is so_far told =
    go-told refused (read i (value_view v) ≡ Err fault) (whole ≡ Err fault) (λ e. list_fault read vs xs whole i v fault lt is so_far e) told

pub list_told_plain : {A T : Type 0} (read : ℕ → Json → Result T CoordinatesFault) (vs : List (Value A)) (xs : List T) (whole : Result (List T) CoordinatesFault) (i : ℕ) (v : Value A) (fault : CoordinatesFault)
    → i < length vs → v ≡ get_or vs i v → whole ≡ with_all xs (list_from read i (items_view (drop i vs))) → read i (value_view v) ≡ Err fault
    → MatchBool (is_memory fault.cause) ⊤ (whole ≡ Err fault)
list_told_plain read vs xs whole i v fault lt is so_far e =
    go-fault (is_memory fault.cause) (whole ≡ Err fault) (list_fault read vs xs whole i v fault lt is so_far e)

-- a fault of a path's points
pub path_fault : (grid : Grid) (layout : Layout) (n : ℕ) (j : Json) (fault : CoordinatesFault) → MatchBool (is_memory fault.cause) ⊤ (points_in grid j ≡ Err fault)
    → MatchBool (is_memory fault.cause) ⊤ (path_at grid layout n j ≡ Err (record { cause = fault.cause; spot = record fault.spot { path = Some n } }))
path_fault grid layout n j fault told =
    go-told (is_memory fault.cause) (points_in grid j ≡ Err fault) (path_at grid layout n j ≡ Err (record { cause = fault.cause; spot = record fault.spot { path = Some n } }))
    (λ e. ap (λ r. in_path n (with_role (role_at layout n) r)) e) told

-- a fault behind no values
pub none_told : {T : Type 0} (r : Result (List T) CoordinatesFault) (fault : CoordinatesFault) → MatchBool (is_memory fault.cause) ⊤ (with_all [] r ≡ Err fault)
    → MatchBool (is_memory fault.cause) ⊤ (r ≡ Err fault)
none_told r fault told =
    go-told (is_memory fault.cause) (with_all [] r ≡ Err fault) (r ≡ Err fault) (λ e. with_none r ∙ e) told
