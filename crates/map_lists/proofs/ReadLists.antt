-- Lists that were read may be committed.
use Rattle.std.proofs.Common.{◌≡◌, ℕ, suc, ◌==◌, ◌≤◌, Bool, true, false, nat_le, List, [], ◌∷◌, length, Option, None, Some, Result, Ok, Err, if◌then◌else◌, refl, sym, ap, subst, arith}
use Rattle.std.proofs.lemmas.Bool.Decides.{nat_tests}
use Rattle.json.specs.Json.{Json, Items, no_items, item}
use Rattle.json.specs.Value.{items_view}
use Rattle.json.specs.declared.value.Value.{Value}
use Rattle.features.specs.declared.rows.Change.{Change}
use Rattle.grid.specs.declared.grids.Grid.{Grid}
use Rattle.geojson.specs.Documents.{json_in}
use Rattle.geojson.specs.Faults.{◌>>=◌}
use Rattle.geojson.specs.Reading.{list_from, with_front}
use Rattle.judging.specs.Judging.{AreDistinct}
use Rattle.map_asks.specs.Queries.{is_empty_query}
use Rattle.map_changes.specs.Media.{is_json}
use Rattle.plain_world.specs.declared.settings.TheConstants.{CHANGE_LIMIT}
use Rattle.map_lists.specs.Reading.{again_from, apart, as_read, body_list, change_at, count, counted, list_in, list_read, listed, unless_again}
use Rattle.map_lists.specs.Requests.{ListData}
use Rattle.map_lists.specs.declared.faults.ListFault.TheVariants as faults
use Rattle.map_lists.proofs.Again.{stays_apart}

-- what follows from a value that was read
bound : {A B F : Type 0} (r : Result A F) (f : A → Result B F) (y : B) → (r >>= f) ≡ Ok y → (x : A) × (r ≡ Ok x) × (f x ≡ Ok y)
bound (Ok x) f y e = (x, refl, e)
bound (Err fault) f y e = absurd cc

-- one value and those behind it
fronted : {T F : Type 0} (x : T) (r : Result (List T) F) (xs : List T) → with_front x r ≡ Ok xs → (ys : List T) × (r ≡ Ok ys) × (xs ≡ x ∷ ys)
fronted x (Ok ys) xs e = (ys, refl, cc)
fronted x (Err fault) xs e = absurd cc

-- as many values are read as there are
read_len : {T F : Type 0} (read : ℕ → Json → Result T F) (n : ℕ) (items : Items) (xs : List T) → list_from read n items ≡ Ok xs → length xs ≡ count items
unfolding list_from
read_len read n no_items xs e = let none : xs ≡ [] = cc in rw none refl
read_len read n (item j js) xs e =
    let first = bound (read n j) (λ x. with_front x (list_from read (suc n) js)) xs e in
    let rest = fronted first.0 (list_from read (suc n) js) xs first.2 in
    rw rest.2 (ap suc (read_len read (suc n) js rest.0 rest.1))

-- there are as many values as are seen
pub count_seen : {A : Type 0} (vs : List (Value A)) → count (items_view vs) ≡ length vs
count_seen [] = refl
count_seen (v ∷ vs) = ap suc (count_seen vs)

counted_is : (items kept : Items) → counted items ≡ Ok kept → (kept ≡ items) × (count items ≤ CHANGE_LIMIT)
counted_is items kept e = by_none (count items == 0) e
  where
    by_few : (few : Bool) → nat_le (count items) CHANGE_LIMIT ≡ few → (if few then Ok items else Err faults.TooMany) ≡ Ok kept → (kept ≡ items) × (count items ≤ CHANGE_LIMIT)
    by_few true is told = (cc, grind (arith, nat_tests, is))
    by_few false is told = absurd cc

    by_none : (none : Bool) → (if none then Err faults.Empty else if nat_le (count items) CHANGE_LIMIT then Ok items else Err faults.TooMany) ≡ Ok kept → (kept ≡ items) × (count items ≤ CHANGE_LIMIT)
    by_none true told = absurd cc
    by_none false told = by_few (nat_le (count items) CHANGE_LIMIT) refl told

apart_is : (read changes : List Change) → apart read ≡ Ok changes → (changes ≡ read) × (again_from [] 0 read ≡ None)
unfolding apart
apart_is read changes e = go (again_from [] 0 read) refl e
  where
    go : (again : Option ℕ) → again_from [] 0 read ≡ again → unless_again read again ≡ Ok changes → (changes ≡ read) × (again_from [] 0 read ≡ None)
    go None is told = (cc, is)
    go (Some n) is told = absurd cc

-- what is known of a list that was read
abbrev MayCommit : List Change → Type 0
MayCommit changes = AreDistinct changes × (length changes ≤ CHANGE_LIMIT)

listed_may : (grid : Grid) (j : Json) (changes : List Change) → list_in grid j ≡ Ok changes → MayCommit changes
unfolding list_in
listed_may grid j changes e =
    let last = bound (listed j >>= counted >>= list_from (change_at grid) 0) apart changes e in
    let known = apart_is last.0 changes last.2 in
    let each = bound (listed j >>= counted) (list_from (change_at grid) 0) last.0 last.1 in
    let few = bound (listed j) counted each.0 each.1 in
    let fits = counted_is few.0 each.0 few.2 in
    let len : length last.0 ≤ CHANGE_LIMIT =
    rw (read_len (change_at grid) 0 each.0 last.0 each.2, fits.0) fits.1 in
    subst MayCommit (sym known.0) (stays_apart [] last.0 0 tt known.1, len)

body_may : (grid : Grid) (body : List ℕ) (changes : List Change) → body_list grid body ≡ Ok changes → MayCommit changes
unfolding body_list
body_may grid body changes e =
    let read = bound (as_read (json_in body)) (list_in grid) changes e in
    listed_may grid read.0 changes read.2

read_may : (grid : Grid) (request : ListData) (changes : List Change) → list_read grid request ≡ Ok changes → MayCommit changes
unfolding list_read
read_may grid request changes e = by_query (is_empty_query request.query) e
  where
    by_media : (json : Bool) → (if json then body_list grid request.body else Err faults.Media) ≡ Ok changes → MayCommit changes
    by_media true told = body_may grid request.body changes told
    by_media false told = absurd cc

    by_query : (empty : Bool) → (if empty then (if is_json request.media then body_list grid request.body else Err faults.Media) else Err faults.Parameter) ≡ Ok changes → MayCommit changes
    by_query true told = by_media (is_json request.media) told
    by_query false told = absurd cc

-- its changes are each of another feature
pub read_is_distinct : (grid : Grid) (request : ListData) (changes : List Change) → list_read grid request ≡ Ok changes → AreDistinct changes
read_is_distinct grid request changes e = (read_may grid request changes e).0

-- it has no more than may be committed
pub read_is_few : (grid : Grid) (request : ListData) (changes : List Change) → list_read grid request ≡ Ok changes → length changes ≤ CHANGE_LIMIT
read_is_few grid request changes e = (read_may grid request changes e).1
