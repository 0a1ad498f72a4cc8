-- Rows as they are read, from the first one on.
use Rattle.std.proofs.Common.{◌≡◌, ℕ, suc, ◌^◌, ◌<◌, nat_lt, true, false, List, [], ◌∷◌, ◌++◌, length, map, filter, Some, refl, sym, ap, ap₂, subst, ◌∙◌, ◌+◌, arith, append-nil, append_assoc, length-append}
use Rattle.std.proofs.lemmas.List.{map-append}
use Rattle.std.specs.List.{AllByRecursion}
use Rattle.std.proofs.lemmas.List.Elements.{filter-append}
use Rattle.features.specs.declared.rows.Feature.{Feature}
use Rattle.features.specs.Rows.{IsBelowAll, IsSortedById}
use Rattle.feature_store.specs.Tables.{feature_at}
use Rattle.volumes.specs.Rows.{is_high, as_stored, row_of_feature, row_of_line, rows_from, feature_rows}
use Rattle.sqlite_value.specs.declared.keys.Order.{Order}
use Rattle.sqlite_value.specs.Order.{Row, column, bytes}
use Rattle.sqlite_trees.specs.declared.store.Direction.TheVariants.{Forward}
use Rattle.judging.specs.States.{PlainState}
use Rattle.sqlite_trees.specs.Tree.{Trees, from_key, sought}
use Rattle.sqlite_trees.specs.View.{View, IsClean, with_cursor}
use Rattle.volumes.specs.declared.tables.Tables.{Tables}
use Rattle.volumes.specs.Volumes.{HoldsState, HoldsAt, IsAtRest}
use Rattle.volumes.specs.Edits.{IsReading, IsRead, Gives, AreHigh, AreLow, AreIds}

-- no key is below none
all_from : (o : Order) (rows : List Row) → from_key o [] rows ≡ rows
all_from o [] = refl
all_from o (r ∷ rows) = refl

pub reading_begun : (old new : View) (o : Order) (key : Row) (rows : List Row) → new ≡ with_cursor old 0 (sought o Forward key rows) → key ≡ [] → IsReading old new rows
reading_begun old new o key rows is none = record {
  same = is ∙ sym (ap (λ (v : View). let w : View = record old { cursors = v.cursors } in w) is);
  left = ap (λ (v : View). v.cursors 0) is ∙ ap Some (ap (λ k. from_key o k rows) none ∙ all_from o rows);
}

-- ---- features in two lists

pub all_more : {X : Type 0} (P : X → Type 0) (xs : List X) (x : X) → AllByRecursion P xs → P x → AllByRecursion P (xs ++ x ∷ [])
all_more P [] x all here = (here, tt)
all_more P (y ∷ xs) x all here = (all.0, all_more P xs x all.1 here)

high_highs : (fs : List Feature) → AreHigh fs → filter is_high fs ≡ fs
high_highs [] all = refl
high_highs (f ∷ fs) all = rw all.0 (ap (λ gs. f ∷ gs) (high_highs fs all.1))

low_highs : (fs : List Feature) → AreHigh fs → filter (λ f. nat_lt f.id (2 ^ 63)) fs ≡ []
low_highs [] all = refl
low_highs (f ∷ fs) all = rw all.0 (low_highs fs all.1)

high_lows : (fs : List Feature) → AreLow fs → filter is_high fs ≡ []
high_lows [] all = refl
high_lows (f ∷ fs) all = rw all.0 (high_lows fs all.1)

low_lows : (fs : List Feature) → AreLow fs → filter (λ f. nat_lt f.id (2 ^ 63)) fs ≡ fs
low_lows [] all = refl
low_lows (f ∷ fs) all = rw all.0 (ap (λ gs. f ∷ gs) (low_lows fs all.1))

pub joined_as_stored : (highs lows : List Feature) → AreHigh highs → AreLow lows → as_stored (lows ++ highs) ≡ highs ++ lows
joined_as_stored highs lows high low =
    ap₂ (λ (a b : List Feature). a ++ b)
    (filter-append is_high lows highs ∙ ap₂ (λ (a b : List Feature). a ++ b) (high_lows lows low) (high_highs highs high))
    (filter-append (λ f. nat_lt f.id (2 ^ 63)) lows highs ∙ ap₂ (λ (a b : List Feature). a ++ b) (low_lows lows low) (low_highs highs high) ∙ append-nil lows)

-- ---- ids that rise from one to the next

abbrev pub Rises : List Feature → ℕ → Type 0
Rises fs k = (feature_at fs k).id < (feature_at fs (suc k)).id

below_chain : (a : ℕ) (fs : List Feature) → (0 < length fs → a < (feature_at fs 0).id) → ((k : ℕ) → suc k < length fs → Rises fs k) → IsBelowAll a fs
below_chain a [] first chain = tt
below_chain a (f ∷ fs) first chain =
    let here : a < f.id = first (omega arith) in
    (here, below_chain a fs (λ some. let next : f.id < (feature_at fs 0).id = chain 0 (omega (arith, some)) in omega (arith, here, next)) (λ k p. chain (suc k) (omega (arith, p))))

pub sorted_chain : (fs : List Feature) → ((k : ℕ) → suc k < length fs → Rises fs k) → IsSortedById fs
sorted_chain [] chain = tt
sorted_chain (f ∷ fs) chain =
    (below_chain f.id fs (λ some. chain 0 (omega (arith, some))) (λ k p. chain (suc k) (omega (arith, p))), sorted_chain fs (λ k p. chain (suc k) (omega (arith, p))))

-- ---- the rows of a table, one after another

-- these features were read, and the cursor has the other rows to give
pub record ReadSoFar (old now : View) (table : ℕ) (read : List Feature) : Type 0 where
  sound : old.is_broken ≡ false
  same : IsRead old now
  left : (rows : List Row) × (now.cursors 0 ≡ Some rows) × (old.trees table ≡ map row_of_feature read ++ rows)

pub read_none : (old now : View) (table : ℕ) (read : List Feature) → old.is_broken ≡ false → IsReading old now (old.trees table) → read ≡ [] → ReadSoFar old now table read
read_none old now table read sound r none = record { sound = sound; same = r.same; left = (old.trees table, r.left, ap (λ fs. map row_of_feature fs ++ old.trees table) (sym none)) }

read_again : (a b c : View) → IsRead a b → IsRead b c → IsRead a c
read_again a b c p q = q ∙ ap (λ (v : View). let w : View = record v { cursors = c.cursors } in w) p

pub read_more : (old mid new : View) (table : ℕ) (read more : List Feature) (feature : Feature) (row : Row) → ReadSoFar old mid table read
    → ((rows : List Row) → mid.cursors 0 ≡ Some rows → (left : List Row) × IsReading mid new left × Gives rows row true left)
    → row ≡ row_of_feature feature → more ≡ read ++ feature ∷ [] → ReadSoFar old new table more
read_more old mid new table read more feature row so step is told =
    let rows = so.left.0 in
    let r = step rows so.left.1 in
    let left = r.0 in
    let joined : map row_of_feature more ≡ map row_of_feature read ++ row_of_feature feature ∷ [] = ap (map row_of_feature) told ∙ map-append row_of_feature read (feature ∷ []) in
    let here : rows ≡ row_of_feature feature ∷ left = r.2 ∙ ap (λ x. x ∷ left) is in
    record {
      sound = so.sound;
      same = read_again old mid new so.same r.1.same;
      left = (left, r.1.left, so.left.2 ∙ ap (λ rs. map row_of_feature read ++ rs) here ∙ sym (ap (λ rs. rs ++ left) joined ∙ append_assoc (map row_of_feature read) (row_of_feature feature ∷ []) left));
    }

pub read_end : (old mid new : View) (table : ℕ) (highs lows fs : List Feature) (row : Row) → ReadSoFar old mid table (highs ++ lows)
    → ((rows : List Row) → mid.cursors 0 ≡ Some rows → (left : List Row) × IsReading mid new left × Gives rows row false left)
    → AreHigh highs → AreLow lows → fs ≡ lows ++ highs → old.trees table ≡ feature_rows fs
read_end old mid new table highs lows fs row so step high low is =
    let r = step so.left.0 so.left.1 in
    so.left.2 ∙ ap (λ rs. map row_of_feature (highs ++ lows) ++ rs) r.2 ∙ append-nil _
    ∙ ap (map row_of_feature) (sym (ap as_stored is ∙ joined_as_stored highs lows high low))

pub read_end_same : (old mid new : View) (table : ℕ) (read : List Feature) (row : Row) → ReadSoFar old mid table read
    → ((rows : List Row) → mid.cursors 0 ≡ Some rows → (left : List Row) × IsReading mid new left × Gives rows row false left) → IsRead old new
read_end_same old mid new table read row so step = let r = step so.left.0 so.left.1 in read_again old mid new so.same r.1.same

-- ---- the lines of records, one after another

rows_from-more : (first : ℕ) (lines : List (List ℕ)) (line : List ℕ) → rows_from first (lines ++ line ∷ []) ≡ rows_from first lines ++ row_of_line (first + length lines) line ∷ []
rows_from-more first [] line = ap (λ n. row_of_line n line ∷ []) (let e : first ≡ first + 0 = omega arith in e)
rows_from-more first (other ∷ lines) line =
    let count : (first + 1) + length lines ≡ first + suc (length lines) = omega arith in
    ap (λ rs. row_of_line first other ∷ rs) (rows_from-more (first + 1) lines line ∙ ap (λ n. rows_from (first + 1) lines ++ row_of_line n line ∷ []) count)

-- so many lines were read, and the cursor has the other rows to give
pub record LinesSoFar (old now : View) (table first number : ℕ) : Type 0 where
  same : IsRead old now
  left : (lines : List (List ℕ)) × (rows : List Row) × (now.cursors 0 ≡ Some rows) × (old.trees table ≡ rows_from first lines ++ rows) × (number ≡ first + length lines)

pub lines_none : (old now : View) (table first : ℕ) → IsReading old now (old.trees table) → LinesSoFar old now table first first
lines_none old now table first r = record { same = r.same; left = ([], old.trees table, r.left, refl, omega arith) }

pub lines_more : (old mid new : View) (table first number : ℕ) (row : Row) → LinesSoFar old mid table first number
    → ((rows : List Row) → mid.cursors 0 ≡ Some rows → (left : List Row) × IsReading mid new left × Gives rows row true left)
    → row ≡ row_of_line number (bytes (column row 2)) → LinesSoFar old new table first (number + 1)
lines_more old mid new table first number row so step is =
    let lines = so.left.0 in
    let rows = so.left.1 in
    let r = step rows so.left.2 in
    let line = bytes (column row 2) in
    let at : number ≡ first + length lines = so.left.4 in
    let here : rows ≡ row_of_line (first + length lines) line ∷ r.0 = r.2 ∙ ap (λ x. x ∷ r.0) (is ∙ ap (λ n. row_of_line n line) at) in
    record {
      same = read_again old mid new so.same r.1.same;
      left = (
        lines ++ line ∷ [],
        r.0,
        r.1.left,
        so.left.3 ∙ ap (λ rs. rows_from first lines ++ rs) here
            ∙ sym (ap (λ rs. rs ++ r.0) (rows_from-more first lines line) ∙ append_assoc (rows_from first lines) (row_of_line (first + length lines) line ∷ []) r.0),
        omega (arith, at, length-append lines (line ∷ [])),
      );
    }

pub lines_end : (old mid new : View) (table first number : ℕ) (row : Row) → LinesSoFar old mid table first number
    → ((rows : List Row) → mid.cursors 0 ≡ Some rows → (left : List Row) × IsReading mid new left × Gives rows row false left)
    → (lines : List (List ℕ)) × (old.trees table ≡ rows_from first lines) × (number ≡ first + length lines)
lines_end old mid new table first number row so step =
    let r = step so.left.1 so.left.2 in
    (so.left.0, so.left.3 ∙ ap (λ rs. rows_from first so.left.0 ++ rs) r.2 ∙ append-nil _, so.left.4)

-- ---- ids in two lists

all_front : {X : Type 0} (P : X → Type 0) (xs ys : List X) → AllByRecursion P (xs ++ ys) → AllByRecursion P xs × AllByRecursion P ys
all_front P [] ys all = (tt, all)
all_front P (x ∷ xs) ys all = let rest = all_front P xs ys all.1 in ((all.0, rest.0), rest.1)

all_both : {X : Type 0} (P : X → Type 0) (xs ys : List X) → AllByRecursion P xs → AllByRecursion P ys → AllByRecursion P (xs ++ ys)
all_both P [] ys a b = b
all_both P (x ∷ xs) ys a b = (a.0, all_both P xs ys a.1 b)

pub ids_joined : (highs lows fs : List Feature) → AreIds (highs ++ lows) → fs ≡ lows ++ highs → AreIds fs
ids_joined highs lows fs ids is =
    let parts = all_front (λ (f : Feature). f.id < 2 ^ 64) highs lows ids in
    subst AreIds (sym is) (all_both (λ (f : Feature). f.id < 2 ^ 64) lows highs parts.1 parts.0)

pub ids_more : (fs more : List Feature) (f : Feature) → AreIds fs → f.id < 2 ^ 64 → more ≡ fs ++ f ∷ [] → AreIds more
ids_more fs more f ids fits is = subst AreIds (sym is) (all_more (λ (g : Feature). g.id < 2 ^ 64) fs f ids fits)

pub read_lines_same : (old mid new : View) (table first number : ℕ) (row : Row) → LinesSoFar old mid table first number
    → ((rows : List Row) → mid.cursors 0 ≡ Some rows → (left : List Row) × IsReading mid new left × Gives rows row false left) → IsRead old new
read_lines_same old mid new table first number row so step = let r = step so.left.1 so.left.2 in read_again old mid new so.same r.1.same

-- ---- all that the tables keep

pub held_all : (old mid : View) (t : Tables) (first next : ℕ) (s : PlainState) → IsRead old mid → HoldsState t old.trees s → IsSortedById s.features → AreIds s.features
    → (lines : List (List ℕ)) × (mid.trees t.records ≡ rows_from first lines) × (next ≡ first + length lines)
    → (lines : List (List ℕ)) × HoldsAt t old.trees next (record { state = s; first = first; lines = lines })
held_all old mid t first next s same held sorted ids read =
    let there : old.trees t.records ≡ rows_from first read.0 = sym (ap (λ (v : View). v.trees t.records) same) ∙ read.1 in
    (read.0, (record { state = held; records = there; kept = record { sorted = sorted; ids = ids } }, read.2))

pub restored : (old new : View) (t : Tables) (next first : ℕ) (s : PlainState) → IsAtRest old t → IsClean old → old.is_broken ≡ false → IsRead old new
    → (lines : List (List ℕ)) × HoldsAt t old.trees next (record { state = s; first = first; lines = lines })
    → (lines : List (List ℕ)) × HoldsAt t new.committed next (record { state = s; first = first; lines = lines })
restored old new t next first s rest clean sound same held =
    let here : old.trees ≡ new.committed = rest.settled clean sound ∙ sym (ap (λ (v : View). v.committed) same) in
    (held.0, subst (λ (db : Trees). HoldsAt t db next (record { state = s; first = first; lines = held.0 })) here held.1)
