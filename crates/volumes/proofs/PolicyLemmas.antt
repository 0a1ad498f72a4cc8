-- What is made of the one row of a policy.
use Rattle.std.proofs.Common.{◌≡◌, ◌≢◌, ℕ, ℤ, pos, true, List, [], ◌∷◌, filter, Equal, refl, sym, ap, subst, ◌∙◌, is_eq, int_cmp}
use Rattle.policy_documents.specs.Documents.{DocumentData}
use Rattle.policy_text.specs.Printed.{document_text}
use Rattle.decision.specs.Deciders.{DeciderData}
use Rattle.sqlite_value.specs.declared.value.Value.TheVariants.{Null, Int, Text}
use Rattle.sqlite_value.specs.Order.{Row, column, value_cmp}
use Rattle.sqlite_value.proofs.OrderLemmas.{value_cmp-Int}
use Rattle.sqlite_trees.specs.Tree.{rowid, has_rowid, put_row}
use Rattle.sqlite_trees.specs.View.{View, OnlyWrites, Finds}
use Rattle.volumes.specs.Rows.{signed, row_of_policy}
use Rattle.volumes.specs.Edits.{Writes, Governs}

one_is_one : value_cmp (Int (pos 1)) (Int (pos 1)) ≡ Equal
one_is_one = value_cmp-Int (pos 1) (pos 1)

same_policy : (version : ℕ) (decider : DeciderData) (found : Row) → Finds (row_of_policy version decider ∷ []) (signed 1) found true → row_of_policy version decider ≡ found
same_policy version decider found is =
    let there : has_rowid (signed 1) (row_of_policy version decider) ≡ true = ap is_eq one_is_one in
    let one = rw there at is in
    cc

put_one : (row : Row) (version : ℕ) (decider : DeciderData) → rowid row ≡ Int (pos 1) → put_row row (row_of_policy version decider ∷ []) ≡ row ∷ []
put_one row version decider keyed = rw (keyed, one_is_one) refl

pub governed_by : (old mid new : View) (table : ℕ) (edit : ℕ → DeciderData → Row) (found row : Row) → rowid row ≡ Int (pos 1)
    → ((version : ℕ) (decider : DeciderData) → row_of_policy version decider ≡ found → row ≡ edit version decider)
    → Finds (old.trees table) (signed 1) found true → mid ≡ old → Writes mid new table (put_row row (mid.trees table)) → Governs old new table edit
governed_by old mid new table edit found row keyed made is same w =
    let from : Writes old new table (put_row row (old.trees table)) = subst (λ (v : View). Writes v new table (put_row row (v.trees table))) same w in
    record {
      frame = from.frame;
      policy = λ version decider held.
          let there = same_policy version decider found (subst (λ rows. Finds rows (signed 1) found true) held is) in
          from.here ∙ ap (put_row row) held ∙ put_one row version decider keyed ∙ ap (λ r. r ∷ []) (made version decider there);
      others = from.others;
    }

pub versioned_by : (old mid new : View) (table version : ℕ) (found row : Row) → row ≡ Int (pos 1) ∷ Null ∷ Int (signed version) ∷ column found 3 ∷ column found 4 ∷ []
    → Finds (old.trees table) (signed 1) found true → mid ≡ old → Writes mid new table (put_row row (mid.trees table)) → Governs old new table (λ _ decider. row_of_policy version decider)
versioned_by old mid new table version found row made is same w =
    let edited : ℕ → DeciderData → Row = λ _ decider. row_of_policy version decider in
    let keyed : rowid row ≡ Int (pos 1) = ap rowid made in
    governed_by old mid new table edited found row keyed
    (λ v decider one. made ∙ ap (λ (r : Row). Int (pos 1) ∷ Null ∷ Int (signed version) ∷ column r 3 ∷ column r 4 ∷ []) (sym one)) is same w

pub documented_by : (old mid new : View) (table edition : ℕ) (document : DocumentData) (found row : Row) → row ≡ Int (pos 1) ∷ Null ∷ column found 2 ∷ Int (signed edition) ∷ Text (document_text document) ∷ []
    → Finds (old.trees table) (signed 1) found true → mid ≡ old → Writes mid new table (put_row row (mid.trees table))
    → Governs old new table (λ version _. row_of_policy version (record { document = document; edition = edition }))
documented_by old mid new table edition document found row made is same w =
    let edited : ℕ → DeciderData → Row = λ version _. row_of_policy version (record { document = document; edition = edition }) in
    let keyed : rowid row ≡ Int (pos 1) = ap rowid made in
    governed_by old mid new table edited found row keyed
    (λ v decider one. made ∙ ap (λ (r : Row). Int (pos 1) ∷ Null ∷ column r 2 ∷ Int (signed edition) ∷ Text (document_text document) ∷ []) (sym one)) is same w
