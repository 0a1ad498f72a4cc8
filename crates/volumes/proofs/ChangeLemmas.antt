-- What the edits of rows make of the features that a table holds.
use Rattle.std.proofs.Common.{◌≡◌, ◌≢◌, ℕ, ℤ, ◌^◌, ◌<◌, nat_lt, eqb, Bool, true, false, List, [], ◌∷◌, filter, Option, Some, None, refl, sym, ap, subst, ◌∙◌, if◌then◌else◌}
use Rattle.std.specs.List.{AllByRecursion}
use Rattle.plane.specs.declared.point.Point.{Point}
use Rattle.wkt.specs.Printing.{printed}
use Rattle.features.specs.declared.rows.Feature.{Feature}
use Rattle.features.specs.declared.rows.Change.{Change}
use Rattle.features.specs.Changes.{after_change, after}
use Rattle.features.specs.Rows.{feature_with, with_row, with_shape, without}
use Rattle.feature_store.proofs.RowLemmas.{sorted_with_row, sorted_with_shape, sorted_without}
use Rattle.sqlite_value.specs.declared.value.Value.TheVariants.{Null, Int, Text}
use Rattle.sqlite_value.specs.Order.{Row, column}
use Rattle.sqlite_trees.specs.Tree.{rowid, has_rowid, put_row, without_rowid}
use Rattle.sqlite_trees.specs.View.{View, OnlyWrites, Finds}
use Rattle.volumes.specs.Rows.{signed, row_of_feature, feature_rows}
use Rattle.volumes.specs.Edits.{Writes, AreKept, Turns}
use Rattle.volumes.proofs.FeatureLemmas.{AreIds, row_found, found_id, put_added, put_reshaped, put_out, found_stored}

keyed : (f : Feature) → rowid (row_of_feature f) ≡ Int (signed f.id)
keyed f = refl

ids_with_row : (new : Feature) (fs : List Feature) → new.id < 2 ^ 64 → AreIds fs → AreIds (with_row new fs)
ids_with_row new [] p ids = (p, tt)
ids_with_row new (g ∷ gs) p ids = go (nat_lt new.id g.id) (ids_with_row new gs p ids.1)
  where
    go : (v : Bool) → AreIds (with_row new gs) → AreIds (if v then new ∷ g ∷ gs else g ∷ with_row new gs)
    go true rest = (p, ids)
    go false rest = (ids.0, rest)

ids_with_shape : (id version : ℕ) (shape : List Point) (fs : List Feature) → AreIds fs → AreIds (with_shape id version shape fs)
ids_with_shape id version shape [] ids = tt
ids_with_shape id version shape (g ∷ gs) ids = go (eqb g.id id) (ids_with_shape id version shape gs ids.1)
  where
    go : (v : Bool) → AreIds (with_shape id version shape gs) → AreIds (if v then record g { version = version; shape = shape } ∷ gs else g ∷ with_shape id version shape gs)
    go true rest = (ids.0, ids.1)
    go false rest = (ids.0, rest)

ids_without : (id : ℕ) (fs : List Feature) → AreIds fs → AreIds (without id fs)
ids_without id [] ids = tt
ids_without id (g ∷ gs) ids = go (eqb g.id id) (ids_without id gs ids.1)
  where
    go : (v : Bool) → AreIds (without id gs) → AreIds (if v then gs else g ∷ without id gs)
    go true rest = ids.1
    go false rest = (ids.0, rest)

nothing_there : (o : Option Feature) → row_found row_of_feature o ≡ [] → o ≡ None
nothing_there None e = refl
nothing_there (Some f) e = absurd cc

pub added : (old new : View) (table : ℕ) (f : Feature) → f.id < 2 ^ 64 → filter (has_rowid (signed f.id)) (old.trees table) ≡ []
    → Writes old new table (put_row (row_of_feature f) (old.trees table)) → Turns old new table (with_row f)
added old new table f p none w = record {
  frame = w.frame;
  features = λ fs kept held.
      let told = found_stored row_of_feature keyed f.id fs p kept.ids kept.sorted in
      let absent = nothing_there (feature_with f.id fs) (sym told ∙ ap (filter (has_rowid (signed f.id))) (sym held) ∙ none) in (
        w.here ∙ ap (put_row (row_of_feature f)) held ∙ put_added row_of_feature keyed f fs p kept.ids kept.sorted absent,
        record { sorted = sorted_with_row f fs kept.sorted absent; ids = ids_with_row f fs p kept.ids },
      );
  others = w.others;
}

-- the row of a feature that is reshaped
abbrev pub reshaped_row : ℕ → ℕ → List Point → Row → Row
reshaped_row id version shape found = Int (signed id) ∷ Null ∷ Int (signed version) ∷ column found 3 ∷ column found 4 ∷ Text (printed shape) ∷ []

same_row : (id version : ℕ) (shape : List Point) (fs : List Feature) (found : Row) (o : Option Feature) → feature_with id fs ≡ o → row_found row_of_feature o ≡ found ∷ []
    → (f : Feature) × (feature_with id fs ≡ Some f) × (reshaped_row id version shape found ≡ row_of_feature (record f { version = version; shape = shape }))
same_row id version shape fs found None is e = absurd cc
same_row id version shape fs found (Some f) is e =
    let one : row_of_feature f ≡ found = cc in
    let there : f.id ≡ id = found_id id fs f is in
    (f, is, ap (reshaped_row id version shape) (sym one) ∙ ap (λ n. reshaped_row n version shape (row_of_feature f)) (sym there))

pub reshaped : (old new : View) (table id version : ℕ) (shape : List Point) (found : Row) → id < 2 ^ 64 → filter (has_rowid (signed id)) (old.trees table) ≡ found ∷ []
    → Writes old new table (put_row (reshaped_row id version shape found) (old.trees table)) → Turns old new table (with_shape id version shape)
reshaped old new table id version shape found p there w = record {
  frame = w.frame;
  features = λ fs kept held.
      let told = found_stored row_of_feature keyed id fs p kept.ids kept.sorted in
      let s = same_row id version shape fs found (feature_with id fs) refl (sym told ∙ ap (filter (has_rowid (signed id))) (sym held) ∙ there) in
      let f = s.0 in
      let g : Feature = record f { version = version; shape = shape } in
      let one : f.id ≡ id = found_id id fs f s.1 in
      let rest = reshape_one fs f g one s.1 kept in (
        w.here ∙ ap (λ r. put_row r (old.trees table)) s.2 ∙ ap (put_row (row_of_feature g)) held ∙ rest,
        record { sorted = sorted_with_shape id version shape fs kept.sorted; ids = ids_with_shape id version shape fs kept.ids },
      );
  others = w.others;
}
  where
    reshape_one : (fs : List Feature) (f g : Feature) → f.id ≡ id → feature_with id fs ≡ Some f → AreKept fs → put_row (row_of_feature (record f { version = version; shape = shape })) (feature_rows fs) ≡ feature_rows (with_shape id version shape fs)
    reshape_one fs f g one is kept =
        let h : Feature = record f { version = version; shape = shape } in
        let small : h.id < 2 ^ 64 = subst (λ n. n < 2 ^ 64) (sym one) p in
        let found : feature_with h.id fs ≡ Some f = ap (λ n. feature_with n fs) one ∙ is in
        put_reshaped row_of_feature keyed f h version shape fs small kept.ids kept.sorted refl found ∙ ap (λ n. feature_rows (with_shape n version shape fs)) one

pub deleted : (old new : View) (table id : ℕ) → id < 2 ^ 64 → Writes old new table (without_rowid (signed id) (old.trees table)) → Turns old new table (without id)
deleted old new table id p w = record {
  frame = w.frame;
  features = λ fs kept held. (
    w.here ∙ ap (without_rowid (signed id)) held ∙ put_out row_of_feature keyed id fs p kept.ids kept.sorted,
    record { sorted = sorted_without id fs kept.sorted; ids = ids_without id fs kept.ids },
  );
  others = w.others;
}

-- some changes of a list were made, and these are left
pub record IsUnderWay (old now : View) (table version : ℕ) (office : List ℕ) (left all : List Change) : Type 0 where
  frame : OnlyWrites old now
  features : (fs : List Feature) → AreKept fs → old.trees table ≡ feature_rows fs
      → (gs : List Feature) × AreKept gs × (now.trees table ≡ feature_rows gs) × (after version office left gs ≡ after version office all fs)
  others : (other : ℕ) → other ≢ table → now.trees other ≡ old.trees other

pub begun : (old : View) (table version : ℕ) (office : List ℕ) (all : List Change) → IsUnderWay old old table version office all all
begun old table version office all = record { frame = refl; features = λ fs kept held. (fs, kept, held, refl); others = λ other apart. refl }

pub stepped : (old mid new : View) (table version : ℕ) (office : List ℕ) (change : Change) (left all : List Change)
    → IsUnderWay old mid table version office (change ∷ left) all → Turns mid new table (after_change version office change) → IsUnderWay old new table version office left all
stepped old mid new table version office change left all way turn = record {
  frame = turn.frame ∙ ap (λ (v : View). let w : View = record v { trees = new.trees; cursors = new.cursors } in w) way.frame;
  features = λ fs kept held.
      let so = way.features fs kept held in
      let turned = turn.features so.0 so.1 so.2 in
      (after_change version office change so.0, turned.1, turned.0, so.3);
  others = λ other apart. turn.others other apart ∙ way.others other apart;
}

pub ended : (old new : View) (table version : ℕ) (office : List ℕ) (all : List Change) → IsUnderWay old new table version office [] all → Turns old new table (after version office all)
ended old new table version office all way = record {
  frame = way.frame;
  features = λ fs kept held.
      let so = way.features fs kept held in
      (so.2 ∙ ap feature_rows so.3, AreKept_along so.0 (after version office all fs) so.3 so.1);
  others = way.others;
}
  where
    AreKept_along : (a b : List Feature) → a ≡ b → AreKept a → AreKept b
    AreKept_along a b e kept = subst AreKept e kept

-- ---- the same, as the calls tell it: `mid` is the store after the row was looked for

pub added_by : (old mid new : View) (table : ℕ) (f : Feature) (found row : Row) → f.id < 2 ^ 64 → Finds (old.trees table) (signed f.id) found false
    → mid ≡ old → row ≡ row_of_feature f → Writes mid new table (put_row row (mid.trees table)) → Turns old new table (with_row f)
added_by old mid new table f found row p none same made w =
    let from : Writes old new table (put_row row (old.trees table)) = subst (λ (v : View). Writes v new table (put_row row (v.trees table))) same w in
    added old new table f p none (subst (λ r. Writes old new table (put_row r (old.trees table))) made from)

pub reshaped_by : (old mid new : View) (table id version : ℕ) (shape : List Point) (found row : Row) → id < 2 ^ 64 → Finds (old.trees table) (signed id) found true
    → mid ≡ old → row ≡ reshaped_row id version shape found → Writes mid new table (put_row row (mid.trees table)) → Turns old new table (with_shape id version shape)
reshaped_by old mid new table id version shape found row p there same made w =
    let from : Writes old new table (put_row row (old.trees table)) = subst (λ (v : View). Writes v new table (put_row row (v.trees table))) same w in
    reshaped old new table id version shape found p there (subst (λ r. Writes old new table (put_row r (old.trees table))) made from)

pub deleted_by : (old mid new : View) (table id : ℕ) → id < 2 ^ 64 → mid ≡ old → Writes mid new table (without_rowid (signed id) (mid.trees table)) → Turns old new table (without id)
deleted_by old mid new table id p same w =
    deleted old new table id p (subst (λ (v : View). Writes v new table (without_rowid (signed id) (v.trees table))) same w)
