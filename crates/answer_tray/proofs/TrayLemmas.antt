-- The records in a tray, and those of the chronicle that it is a tray of.
use Rattle.std.proofs.Common.{◌≡◌, ◌<◌, ◌+◌, ℕ, zero, suc, List, [], ◌∷◌, ◌++◌, length, map, take, drop, get_or, slice_get, Option, None, Some, refl, sym, ap, subst, ◌∙◌, arith, append_assoc, length-append}
use Rattle.std.specs.Prelude.{All}
use Rattle.std.specs.List.{last_or}
use Rattle.std.proofs.lemmas.List.{take-append-drop}
use Rattle.std.proofs.lemmas.List.Elements.{All-head, All-tail, All-nil, All-drop}
use Rattle.features.specs.declared.actors.Subject.{Subject}
use Rattle.judging.specs.States.{PlainState}
use Rattle.audit_trail.specs.Legal.{IsLegal, after_deed, replay}
use Rattle.audit_trail.specs.Records.{DeedData, answered, applied, turned_away, governed, RecordData}
use Rattle.audit_trail.proofs.LegalLemmas.{legal-append, replay-append}
use Rattle.plain_world.specs.Answering.{IsAnswered, IsLegalAnswer}
use Rattle.chronicle.specs.Chronicles.{ChronicleData, IsSoundChronicle}
use Rattle.chronicle.proofs.ListLemmas.{take_one_more}
use Rattle.answer_tray.specs.Trays.{AreAnswersAt, TrayData, records_of, told_in, with_records}

-- an answer changes no state
still : (deed : DeedData) (state : PlainState) → IsAnswered deed → after_deed deed state ≡ state
still (answered subject window ids versions) state a = refl
still (applied subject version changes) state a = absurd a
still (turned_away subject changes refusal) state a = absurd a
still (governed edition decider) state a = absurd a

-- answers at one state are legal behind one another, and lead to no other state
answers_legal : (seats : List Subject) (state : PlainState) (answers : List RecordData) → All (IsLegalAnswer seats state) answers → IsLegal seats state answers × (replay state answers ≡ state)
answers_legal seats state [] h = (tt, refl)
answers_legal seats state (r ∷ rs) h =
    let first = All-head (IsLegalAnswer seats state) r rs h in
    let same = still r.deed state first.0 in
    let rest = answers_legal seats state rs (All-tail (IsLegalAnswer seats state) r rs h) in
    ((first.1, subst (λ (s : PlainState). IsLegal seats s rs) (sym same) rest.0), ap (λ (s : PlainState). replay s rs) same ∙ rest.1)

-- a sound chronicle stays sound with such answers behind its records
pub sound_with : (c : ChronicleData) (answers : List RecordData) → IsSoundChronicle c → All (IsLegalAnswer c.seats c.state) answers → IsSoundChronicle (with_records c answers)
sound_with c answers sound h =
    let more = answers_legal c.seats c.state answers h in
    record {
      legal = legal-append c.seats c.opening.base c.records answers sound.legal (subst (λ (s : PlainState). IsLegal c.seats s answers) (sym sound.replayed) more.0);
      replayed = replay-append c.opening.base c.records answers ∙ (ap (λ (s : PlainState). replay s answers) sound.replayed ∙ more.1);
      sorted = sound.sorted;
      few = sound.few;
    }

-- what lies in the tray is of this chronicle, if what was seen ends with it
pub answers_of : (c : ChronicleData) (seen : List ChronicleData) (answers : List RecordData) → last_or None seen ≡ Some c → AreAnswersAt (last_or None seen) answers → All (IsLegalAnswer c.seats c.state) answers
answers_of c seen answers ends h = subst (λ (o : Option ChronicleData). AreAnswersAt o answers) ends h

-- a list ends with what was added to it
pub last_push : {X : Type 0} (o : Option X) (xs : List X) (x : X) → last_or o (xs ++ x ∷ []) ≡ Some x
last_push o [] x = refl
last_push o (y ∷ ys) x = last_push (Some y) ys x

pub last_grown : (seen grown : List ChronicleData) (c : ChronicleData) → grown ≡ seen ++ c ∷ [] → last_or None grown ≡ Some c
last_grown seen grown c e = ap (last_or None) e ∙ last_push None seen c

-- an empty tray goes with each chronicle
pub grown_empty : (seen grown : List ChronicleData) (c : ChronicleData) (answers : List RecordData) → grown ≡ seen ++ c ∷ [] → answers ≡ []
    → AreAnswersAt (last_or None grown) answers × (told_in (record { seen = grown; answers = answers }) ≡ length c.records)
grown_empty seen grown c answers e empty =
    let ends = last_grown seen grown c e in
    let none : All (IsLegalAnswer c.seats c.state) answers = subst (All (IsLegalAnswer c.seats c.state)) (sym empty) (All-nil (IsLegalAnswer c.seats c.state)) in
    let count : records_of (last_or None grown) ≡ length c.records = ap records_of ends in
    (subst (λ (o : Option ChronicleData). AreAnswersAt o answers) (sym ends) none, omega (arith, count, ap length empty))

-- a chronicle that has taken the first of the answers in goes with those that are left
pub taken_in : (old new : ChronicleData) (n : ℕ) (answers left : List RecordData) → new ≡ with_records old (take n answers) → left ≡ drop n answers → All (IsLegalAnswer old.seats old.state) answers
    → All (IsLegalAnswer new.seats new.state) left × (new.records ++ left ≡ old.records ++ answers)
taken_in old new n answers left e l h =
    let fewer = subst (All (IsLegalAnswer old.seats old.state)) (sym l) (All-drop (IsLegalAnswer old.seats old.state) n answers h) in
    let all = ap (λ (d : ChronicleData). d.records ++ left) e ∙ ap (λ (xs : List RecordData). (old.records ++ take n answers) ++ xs) l
    ∙ append_assoc old.records (take n answers) (drop n answers) ∙ ap (λ (xs : List RecordData). old.records ++ xs) (take-append-drop n answers) in
    (subst (λ (d : ChronicleData). All (IsLegalAnswer d.seats d.state) left) (sym e) fewer, all)

-- the same, where what was seen has grown
pub grown_taken : (seen grown : List ChronicleData) (old new : ChronicleData) (told : ℕ) (answers left : List RecordData) → last_or None seen ≡ Some old → grown ≡ seen ++ new ∷ []
    → told ≡ told_in (record { seen = seen; answers = answers }) → All (IsLegalAnswer new.seats new.state) left × (new.records ++ left ≡ old.records ++ answers)
    → AreAnswersAt (last_or None grown) left × (told ≡ told_in (record { seen = grown; answers = left }))
grown_taken seen grown old new told answers left ends e count h =
    let last = last_grown seen grown new e in
    let before : records_of (last_or None seen) ≡ length old.records = ap records_of ends in
    let behind : records_of (last_or None grown) ≡ length new.records = ap records_of last in
    let as_long : length new.records + length left ≡ length old.records + length answers =
    sym (length-append new.records left) ∙ ap length h.1 ∙ length-append old.records answers in
    (subst (λ (o : Option ChronicleData). AreAnswersAt o left) (sym last) h.0, omega (arith, count, before, behind, as_long))

-- what is behind the first so many
pub map_drop : {X Y : Type 0} (f : X → Y) (n : ℕ) (xs : List X) → map f (drop n xs) ≡ drop n (map f xs)
map_drop f zero xs = refl
map_drop f (suc n) [] = refl
map_drop f (suc n) (x ∷ xs) = map_drop f n xs

-- a fact of all records is one of the record at a place
pub here : {X Y : Type 0} (f : X → Y) (P : Y → Type 0) (xs : List X) (i : ℕ) (x : X) → i < length xs → x ≡ get_or xs i x → All P (map f xs) → P (f x)
here f P [] i x lt e h = absurd (omega arith)
here f P (y ∷ xs) zero x lt e h = subst (λ z. P (f z)) (sym e) (All-head P (f y) (map f xs) h)
here f P (y ∷ xs) (suc i) x lt e h = here f P xs i x (omega arith) e (All-tail P (f y) (map f xs) h)

-- one more record is taken in
pub one_taken : (old now new : ChronicleData) (xs : List RecordData) (i : ℕ) (x : RecordData) → now ≡ with_records old (take i xs)
    → new ≡ record now { records = now.records ++ x ∷ [] } → slice_get xs i ≡ Some x → new ≡ with_records old (take (i + 1) xs)
one_taken old now new xs i x e more at =
    more ∙ ap (λ (d : ChronicleData). let r : ChronicleData = record d { records = d.records ++ x ∷ [] } in r) e
    ∙ ap (with_records_of old) (append_assoc old.records (take i xs) (x ∷ []) ∙ ap (λ (ys : List RecordData). old.records ++ ys) (sym (take_one_more xs i x at)))
  where
    with_records_of : ChronicleData → List RecordData → ChronicleData
    with_records_of c records = record c { records = records }
