-- Reading a printed array item by item.
use Rattle.std.proofs.Common.{◌≡◌, ℕ, ◌+◌, ◌≤◌, Bool, ◌&&◌, IsTrue, List, [], ◌∷◌, length, map, flat_map, Result, Ok, refl, ap, ◌∙◌, arith, length-append}
use Rattle.std.specs.List.{list_all}
use Rattle.std.proofs.lemmas.Bool.{and_parts, and_from}
use Rattle.std.proofs.lemmas.List.Folds.{list_all-append}
use Rattle.serde_json.specs.Data.{Data, array, Items, no_items, item}
use Rattle.serde_json.specs.View.{items_of}
use Rattle.policy_documents.specs.Documents.{is_filled, atom_size, atom_sizes}
use Rattle.policy_text.specs.Reading.{at_item, each_at, items_in}
use Rattle.policy_documents.specs.declared.matches.Atom.{Atom}
use Rattle.policy_text.specs.declared.paths.PathPart.{PathPart}
use Rattle.policy_text.specs.declared.faults.TextFault.{TextFault}

-- ---- lists

-- the sizes of the items, added up
abbrev pub sizes : {X : Type 0} → (X → ℕ) → List X → ℕ
sizes size [] = 0
sizes size (x ∷ xs) = size x + sizes size xs

pub sizes-ones : {X : Type 0} (xs : List X) → length xs ≡ sizes (λ _. 1) xs
sizes-ones [] = refl
sizes-ones (x ∷ xs) = omega (arith, sizes-ones xs)

pub sizes-flat_map : {X Y : Type 0} (f : X → List Y) (xs : List X) → length (flat_map f xs) ≡ sizes (λ x. length (f x)) xs
sizes-flat_map f [] = refl
sizes-flat_map f (x ∷ xs) = length-append (f x) (flat_map f xs) ∙ ap (λ n. length (f x) + n) (sizes-flat_map f xs)

pub sizes-atoms : (atoms : List Atom) → atom_sizes atoms ≡ sizes atom_size atoms
sizes-atoms [] = refl
sizes-atoms (a ∷ rest) = ap (λ n. atom_size a + n) (sizes-atoms rest)

pub list_all-flat_map : {X Y : Type 0} (p : Y → Bool) (f : X → List Y) (xs : List X) → list_all p (flat_map f xs) ≡ list_all (λ x. list_all p (f x)) xs
list_all-flat_map p f [] = refl
list_all-flat_map p f (x ∷ xs) = list_all-append p (f x) (flat_map f xs) ∙ ap (λ b. list_all p (f x) && b) (list_all-flat_map p f xs)

-- two facts on each item imply a third
pub list_all_both : {X : Type 0} (p q r : X → Bool) → ((x : X) → IsTrue (p x) → IsTrue (q x) → IsTrue (r x)) → (xs : List X) →
    IsTrue (list_all p xs) → IsTrue (list_all q xs) → IsTrue (list_all r xs)
list_all_both p q r both [] h k = refl
list_all_both p q r both (x ∷ xs) h k =
    let here = and_parts (p x) (list_all p xs) h in
    let there = and_parts (q x) (list_all q xs) k in
    and_from (r x) (list_all r xs) (both x here.0 there.0) (list_all_both p q r both xs here.1 there.1)

-- ---- arrays

pub items_read : {X : Type 0} (data_of : X → Data) (path : List PathPart) (xs : List X) → IsTrue (is_filled xs) → items_in path (array (items_of (map data_of xs))) ≡ Ok (items_of (map data_of xs))
items_read data_of path [] h = absurd cc
items_read data_of path (x ∷ xs) h = refl

module _ {X : Type 0} (read : List PathPart → ℕ → Data → Result (X × ℕ) TextFault) (data_of : X → Data) (size : X → ℕ) (fits : X → Bool) where
  -- each item that fits is read as itself, if the limit allows it
  abbrev pub ReadsAgain : Type 0
  ReadsAgain = (path : List PathPart) (tests : ℕ) (x : X) → IsTrue (fits x) → tests + size x ≤ 4096 → read path tests (data_of x) ≡ Ok (x, tests + size x)

  pub each_read : ReadsAgain → (path : List PathPart) (index tests : ℕ) (xs : List X) → IsTrue (list_all fits xs) → tests + sizes size xs ≤ 4096 →
      each_at read path index tests (items_of (map data_of xs)) ≡ Ok (xs, tests + sizes size xs)
  unfolding each_at
  each_read again path index tests [] h room = let e : tests ≡ tests + 0 = omega arith in ap (λ n. Ok ([], n)) e
  each_read again path index tests (x ∷ xs) h room =
      let parts = and_parts (fits x) (list_all fits xs) h in
      let e : tests + size x + sizes size xs ≡ tests + (size x + sizes size xs) = omega arith in
      rw (again (at_item path index) tests x parts.0 (omega arith), each_read again path (index + 1) (tests + size x) xs parts.1 (omega arith))
      (ap (λ n. Ok (x ∷ xs, n)) e)

-- one more item in front of those that are read
pub each_more : {X S : Type 0} (read : List PathPart → S → Data → Result (X × S) TextFault) (path : List PathPart) (index : ℕ) (seen next last : S) (d : Data) (rest : Items) (x : X) (xs : List X) →
    read (at_item path index) seen d ≡ Ok (x, next) → each_at read path (index + 1) next rest ≡ Ok (xs, last) → each_at read path index seen (item d rest) ≡ Ok (x ∷ xs, last)
unfolding each_at
each_more read path index seen next last d rest x xs here behind = rw (here, behind) refl

pub each_none : {X S : Type 0} (read : List PathPart → S → Data → Result (X × S) TextFault) (path : List PathPart) (index : ℕ) (seen : S) → each_at read path index seen no_items ≡ Ok ([], seen)
unfolding each_at
each_none read path index seen = refl
