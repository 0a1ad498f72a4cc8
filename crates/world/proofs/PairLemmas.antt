-- Lists that contain certain pairs: those of the features, and those that are placed.
use Rattle.std.proofs.Common.{◌≡◌, ℕ, ◌≤◌, ◌+◌, ◌==◌, nat_lt, not, zero, suc, Bool, true, false, List, [], ◌∷◌, ◌++◌, length, take, Option, Some, if◌then◌else◌, refl, sym, ap, subst, ◌∙◌, arith}
use Rattle.std.specs.List.{Contains, slice_get}
use Rattle.std.proofs.lemmas.Bool.Decides.{nat_tests}
use Rattle.std.proofs.lemmas.List.{take-append-le}
use Rattle.plane.specs.declared.point.Point.{Point}
use Rattle.features.specs.declared.rows.Change.{Change}
use Rattle.features.specs.declared.rows.Change.TheVariants.{Add, Reshape, Delete}
use Rattle.features.specs.declared.rows.Feature.{Feature}
use Rattle.features.specs.Changes.{after}
use Rattle.features.specs.Rows.{with_row, with_shape, without}
use Rattle.plain_world.specs.Laws.{AreWithin}
use Rattle.plain_world.specs.Staging.{TransactionData, transaction_with, placements, next_placement, with_step, one_placed, staged, ended}
use Rattle.plain_world.proofs.TransactionLemmas.{brought_append}
use Rattle.world.specs.Index.{AreAmong, HasFeatures, HasPlacements}

-- pairs that are in a list are in a longer one
module _ (xs ys : List (ℕ × List Point)) (more : (pair : ℕ × List Point) → Contains xs pair → Contains ys pair) where
  pub among_more : (pairs : List (ℕ × List Point)) → AreAmong xs pairs → AreAmong ys pairs
  among_more [] h = tt
  among_more (pair ∷ pairs) h = (more pair h.0, among_more pairs h.1)

  pub features_more : (features : List Feature) → HasFeatures xs features → HasFeatures ys features
  features_more [] h = tt
  features_more (feature ∷ features) h = (more (feature.id, feature.shape) h.0, features_more features h.1)

  pub placements_more : (ts : List TransactionData) → HasPlacements xs ts → HasPlacements ys ts
  placements_more [] h = tt
  placements_more (t ∷ ts) h = (among_more (take t.placed (placements t.changes)) h.0, placements_more ts h.1)

module _ (all : List (ℕ × List Point)) where
  -- ---- features

  row_in : (new : Feature) (rows : List Feature) → Contains all (new.id, new.shape) → HasFeatures all rows → HasFeatures all (with_row new rows)
  row_in new [] is h = (is, tt)
  row_in new (row ∷ rows) is h = go (nat_lt new.id row.id) (row_in new rows is h.1)
    where
      go : (b : Bool) → HasFeatures all (with_row new rows) → HasFeatures all (if b then new ∷ row ∷ rows else row ∷ with_row new rows)
      go true behind = (is, h)
      go false behind = (h.0, behind)

  shape_in : (id version : ℕ) (shape : List Point) (rows : List Feature) → Contains all (id, shape) → HasFeatures all rows → HasFeatures all (with_shape id version shape rows)
  shape_in id version shape [] is h = tt
  shape_in id version shape (row ∷ rows) is h = go (row.id == id) refl (shape_in id version shape rows is h.1)
    where
      go : (b : Bool) → (row.id == id) ≡ b → HasFeatures all (with_shape id version shape rows) → HasFeatures all (if b then record row { version = version; shape = shape } ∷ rows else row ∷ with_shape id version shape rows)
      go true e behind = let same : row.id ≡ id = grind (arith, nat_tests, e) in (subst (λ (n : ℕ). Contains all (n, shape)) (sym same) is, h.1)
      go false e behind = (h.0, behind)

  row_out : (id : ℕ) (rows : List Feature) → HasFeatures all rows → HasFeatures all (without id rows)
  row_out id [] h = tt
  row_out id (row ∷ rows) h = go (row.id == id) (row_out id rows h.1)
    where
      go : (b : Bool) → HasFeatures all (without id rows) → HasFeatures all (if b then rows else row ∷ without id rows)
      go true behind = h.1
      go false behind = (h.0, behind)

  -- the features after a list of changes are those before it, or those that it brings
  pub features_after : (version : ℕ) (office : List ℕ) (changes : List Change) (rows : List Feature) → AreAmong all (placements changes) → HasFeatures all rows → HasFeatures all (after version office changes rows)
  features_after version office [] rows among h = h
  features_after version office (Add id class shape ∷ changes) rows among h = features_after version office changes (with_row (record { id = id; version = version; office = office; class = class; shape = shape }) rows) among.1 (row_in _ rows among.0 h)
  features_after version office (Reshape id known shape ∷ changes) rows among h = features_after version office changes (with_shape id version shape rows) among.1 (shape_in id version shape rows among.0 h)
  features_after version office (Delete id known ∷ changes) rows among h = features_after version office changes (without id rows) among (row_out id rows h)

  -- ---- placed pairs

  take_one_more : (pairs : List (ℕ × List Point)) (n : ℕ) (pair : ℕ × List Point) → slice_get pairs n ≡ Some pair → Contains all pair → AreAmong all (take n pairs) → AreAmong all (take (suc n) pairs)
  take_one_more [] n pair e is h = absurd cc
  take_one_more (first ∷ rest) zero pair e is h = (subst (λ (p : ℕ × List Point). Contains all p) (sym (some_same first pair e)) is, tt)
    where
      some_same : (a b : ℕ × List Point) → ◌≡◌ {A = Option (ℕ × List Point)} (Some a) (Some b) → a ≡ b
      some_same a b e = cc
  take_one_more (first ∷ rest) (suc n) pair e is h = (h.0, take_one_more rest n pair e is h.1)

  -- the next shape of a transaction is placed
  pub placed_more : (number : ℕ) (ts : List TransactionData) → ((t : TransactionData) → transaction_with number ts ≡ Some t → (pair : ℕ × List Point) × (next_placement t ≡ Some pair) × Contains all pair)
      → HasPlacements all ts → HasPlacements all (with_step one_placed number ts)
  placed_more number [] next h = tt
  placed_more number (t ∷ ts) next h = go (t.number == number) refl (λ skip. placed_more number ts skip h.1)
    where
      go : (b : Bool) → (t.number == number) ≡ b
          → (((u : TransactionData) → transaction_with number ts ≡ Some u → (pair : ℕ × List Point) × (next_placement u ≡ Some pair) × Contains all pair) → HasPlacements all (with_step one_placed number ts)) → HasPlacements all (if b then one_placed t ∷ ts else t ∷ with_step one_placed number ts)
      go true e behind =
          let there = next t (ap (λ (b : Bool). if b then Some t else transaction_with number ts) e) in
          let one : suc t.placed ≡ t.placed + 1 = omega arith in
          (subst (λ (n : ℕ). AreAmong all (take n (placements t.changes))) one (take_one_more (placements t.changes) t.placed there.0 there.1 there.2 h.0), h.1)
      go false e behind = (h.0, behind (λ u is. next u (ap (λ (b : Bool). if b then Some t else transaction_with number ts) e ∙ is)))

  -- one more change is staged
  pub staged_more : (number : ℕ) (change : Change) (ts : List TransactionData) → AreWithin ts → HasPlacements all ts → HasPlacements all (with_step (staged change) number ts)
  staged_more number change [] within h = tt
  staged_more number change (t ∷ ts) within h = go (t.number == number) (staged_more number change ts within.1 h.1)
    where
      same : take t.placed (placements (t.changes ++ change ∷ [])) ≡ take t.placed (placements t.changes)
      same = ap (λ (ps : List (ℕ × List Point)). take t.placed ps) (brought_append t.changes change) ∙ take-append-le t.placed (placements t.changes) (placements (change ∷ [])) within.0.1

      go : (b : Bool) → HasPlacements all (with_step (staged change) number ts) → HasPlacements all (if b then staged change t ∷ ts else t ∷ with_step (staged change) number ts)
      go true behind = (subst (λ (ps : List (ℕ × List Point)). AreAmong all ps) (sym same) h.0, h.1)
      go false behind = (h.0, behind)

  -- a transaction begins
  pub begun_more : (number seat : ℕ) (ts : List TransactionData) → HasPlacements all ts → HasPlacements all (ts ++ record { number = number; seat = seat; changes = []; placed = 0 } ∷ [])
  begun_more number seat [] h = (tt, tt)
  begun_more number seat (t ∷ ts) h = (h.0, begun_more number seat ts h.1)

  -- a transaction ends
  pub ended_less : (number : ℕ) (ts : List TransactionData) → HasPlacements all ts → HasPlacements all (ended number ts)
  ended_less number [] h = tt
  ended_less number (t ∷ ts) h = go (not (t.number == number)) (ended_less number ts h.1)
    where
      go : (b : Bool) → HasPlacements all (ended number ts) → HasPlacements all (if b then t ∷ ended number ts else ended number ts)
      go true behind = (h.0, behind)
      go false behind = behind

  take_all : (pairs : List (ℕ × List Point)) (n : ℕ) → length pairs ≤ n → take n pairs ≡ pairs
  take_all [] zero le = refl
  take_all [] (suc n) le = refl
  take_all (p ∷ pairs) zero le = absurd (omega (arith, le))
  take_all (p ∷ pairs) (suc n) le = ap (λ (ps : List (ℕ × List Point)). p ∷ ps) (take_all pairs n (omega (arith, le)))

  -- if a transaction has placed all, all that its list brings is there
  pub all_there : (number : ℕ) (ts : List TransactionData) (t : TransactionData) → transaction_with number ts ≡ Some t → length (placements t.changes) ≤ t.placed → HasPlacements all ts → AreAmong all (placements t.changes)
  all_there number [] t e most h = absurd cc
  all_there number (first ∷ ts) t e most h = go (first.number == number) (λ e. all_there number ts t e most h.1) e
    where
      go : (b : Bool) → (transaction_with number ts ≡ Some t → AreAmong all (placements t.changes)) → (if b then Some first else transaction_with number ts) ≡ Some t → AreAmong all (placements t.changes)
      go true behind e =
          let same : first ≡ t = cc (e) in
          subst (λ (ps : List (ℕ × List Point)). AreAmong all ps) (take_all (placements t.changes) t.placed most) (subst (λ (x : TransactionData). AreAmong all (take x.placed (placements x.changes))) same h.0)
      go false behind e = behind e
