-- Records by their places, and those of one seat.
use Rattle.std.proofs.Common.{◌≡◌, ◌≢◌, ◌<◌, ◌≤◌, ℕ, zero, suc, ◌+◌, ◌-◌, ◌==◌, Bool, true, false, nat_lt, List, [], ◌∷◌, ◌++◌, length, map, take, drop, get_or, slice_get, Option, None, Some, option_map, refl, sym, ap, subst, ◌∙◌, append_assoc, append-nil, length-append, if◌then◌else◌, arith}
use Rattle.std.specs.List.{last_or}
use Rattle.std.proofs.lemmas.Bool.Decides.{Decides-eqb}
use Rattle.std.proofs.lemmas.Grind.{common_steps}
use Rattle.std.proofs.lemmas.List.Elements.{filter-append}
use Rattle.std.proofs.lemmas.List.{length-map, map-append, take-append-le}
use Rattle.std.proofs.lemmas.Option.{slice_get_read, slice_get-map}
use Rattle.audit_trail.specs.Calls.{calls_of}
use Rattle.audit_trail.specs.Records.{RecordData, TrailData, record_at}
use Rattle.chronicle.specs.Comparing.{AreTold, PartsAt}
use Rattle.chronicle.proofs.ListLemmas.{one_more_told, parts_here, filter_passes, filter_keeps, filter_around, last_at, take_one_more}

at_least : (a b : ℕ) → b ≤ a → nat_lt a b ≡ false
at_least a b h = grind (arith, common_steps)

-- a record by its place
pub numbered : (t : TrailData) (number index : ℕ) (found : Option RecordData) → number ≡ t.first + index → found ≡ record_at number t → slice_get t.records index ≡ found
numbered t number index found e is =
    let place : number - t.first ≡ index = omega arith in
    let test : nat_lt number t.first ≡ false = at_least number t.first (omega arith) in
    let here : (if nat_lt number t.first then None else slice_get t.records (number - t.first)) ≡ slice_get t.records index = rw (test, place) refl in
    sym here ∙ sym is

-- an item of a list, seen as its plain data
pub item_seen : {X Y : Type 0} (f : X → Y) (xs : List X) (i : ℕ) (x : X) → i < length xs → x ≡ get_or xs i x → slice_get (map f xs) i ≡ Some (f x)
item_seen f xs i x h e = slice_get-map f xs i ∙ ap (option_map f) (slice_get_read xs (length xs) i x refl h e)

of_seat : (a b : ℕ) → a ≡ b → (a == b) ≡ true
of_seat a b e = (Decides-eqb a b).1 e

of_another : (a b : ℕ) → a ≢ b → (a == b) ≡ false
of_another a b h = go (a == b) (Decides-eqb a b).0
  where
    go : (v : Bool) → (v ≡ true → a ≡ b) → v ≡ false
    go true f = absurd (h (f refl))
    go false f = refl

-- a record of another seat changes nothing
pub record_passed : (records : List RecordData) (index told seat : ℕ) (before receipts : List RecordData) (r : RecordData) → slice_get records index ≡ Some r → r.seat ≢ seat
    → AreTold told (before ++ calls_of seat (take index records)) receipts → AreTold told (before ++ calls_of seat (take (index + 1) records)) receipts
record_passed records index told seat before receipts r e other h =
    subst (λ (calls : List RecordData). AreTold told (before ++ calls) receipts) (sym (filter_passes (λ (r : RecordData). r.seat == seat) records index r e (of_another r.seat seat other))) h

-- a record of the seat that is the next receipt
pub record_told : (records : List RecordData) (index told seat : ℕ) (before receipts : List RecordData) (r : RecordData) → slice_get records index ≡ Some r → r.seat ≡ seat
    → AreTold told (before ++ calls_of seat (take index records)) receipts → slice_get receipts told ≡ Some r
    → AreTold (told + 1) (before ++ calls_of seat (take (index + 1) records)) receipts
record_told records index told seat before receipts r e own h next =
    let calls = calls_of seat (take index records) in
    let longer : before ++ calls_of seat (take (index + 1) records) ≡ (before ++ calls) ++ r ∷ [] =
    ap (λ (more : List RecordData). before ++ more) (filter_keeps (λ (r : RecordData). r.seat == seat) records index r e (of_seat r.seat seat own))
    ∙ sym (append_assoc before calls (r ∷ [])) in
    subst (λ (seen : List RecordData). AreTold (told + 1) seen receipts) (sym longer) (one_more_told receipts (before ++ calls) told r h next)

-- a record of the seat that is not the next receipt
pub record_parts : (records : List RecordData) (index told seat : ℕ) (before receipts : List RecordData) (r : RecordData) → slice_get records index ≡ Some r → r.seat ≡ seat
    → AreTold told (before ++ calls_of seat (take index records)) receipts → slice_get receipts told ≢ Some r
    → PartsAt told (before ++ calls_of seat records) receipts
record_parts records index told seat before receipts r e own h other =
    let calls = calls_of seat (take index records) in
    let later = calls_of seat (drop (suc index) records) in
    let whole : before ++ calls_of seat records ≡ (before ++ calls) ++ r ∷ later =
    ap (λ (more : List RecordData). before ++ more) (filter_around (λ (r : RecordData). r.seat == seat) records index r e (of_seat r.seat seat own))
    ∙ sym (append_assoc before calls (r ∷ later)) in
    subst (λ (seen : List RecordData). PartsAt told seen receipts) (sym whole) (parts_here receipts (before ++ calls) later told r h other)

-- the records of one more owner
pub one_appended : {P : Type 0} (f : P → RecordData) (before old : List P) (a : P) (records : List RecordData) (i : ℕ) (r : RecordData)
    → map f old ≡ map f before ++ take i records → slice_get records i ≡ Some r → f a ≡ r → map f (old ++ a ∷ []) ≡ map f before ++ take (i + 1) records
one_appended f before old a records i r h there same =
    map-append f old (a ∷ []) ∙ ap (λ (xs : List RecordData). xs ++ f a ∷ []) h ∙ append_assoc (map f before) (take i records) (f a ∷ [])
    ∙ ap (λ (xs : List RecordData). map f before ++ xs) (ap (λ (x : RecordData). take i records ++ x ∷ []) same ∙ sym (take_one_more records i r there))

-- the front stays where one more owner is appended
pub same_front : {P : Type 0} (f : P → RecordData) (before old : List P) (a : P) (told : List RecordData)
    → map f old ≡ map f before ++ told → take (length before) old ≡ before → take (length before) (old ++ a ∷ []) ≡ before
same_front f before old a told h front =
    let one : length (map f old) ≡ length old = simp length-map in
    let two : length (map f before) ≡ length before = simp length-map in
    let longer : length before ≤ length old = omega (arith, ap length h, one, two, length-append (map f before) told) in
    take-append-le (length before) old (a ∷ []) longer ∙ front

-- the last record by its place
pub last_placed : (records : List RecordData) → 0 < length records → last_or None records ≡ slice_get records (length records - 1)
last_placed [] h = absurd (omega (arith, h))
last_placed (r ∷ rs) h = last_at None r rs ∙ ap (slice_get (r ∷ rs)) (omega arith)

pub none_last : (records : List RecordData) → length records ≡ 0 → last_or None records ≡ None
none_last [] e = refl
none_last (r ∷ rs) e = absurd (omega (arith, e))
