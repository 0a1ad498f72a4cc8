-- Writing one element after another.
use Rattle.std.proofs.Common.{◌≡◌, ℕ, ◌+◌, ◌<◌, List, [], ◌∷◌, ◌++◌, length, get_or, Option, Result, Ok, Err, sym, ap, ◌∙◌, append_assoc, append-nil, subst, take, drop, take-append-drop}
use Rattle.std.specs.List.{flat_map}
use Rattle.std.proofs.lemmas.List.{take_more}
use Rattle.std.proofs.lemmas.Grind.{flat_map-append}
use Rattle.std.specs.Io.KnownBytes.{Appends}
use Rattle.std.specs.Result.{IsErr}
use Rattle.byte_streams.specs.Written.{Took}
use Rattle.byte_streams.proofs.WrittenLemmas.{appends_then}

-- ---- what a writer took

-- a write that was taken whole, and the next one
pub took_then : {E : Type 0} (r : Result (Unit {0}) E) (a b c : Option (List ℕ)) (xs ys : List ℕ) → Appends a b xs → Took r b c ys → Took r a c (xs ++ ys)
took_then (Ok u) a b c xs ys first second = appends_then a b c xs ys first second
took_then (Err e) a b c xs ys first second =
    (xs ++ second.0, second.1, ap (λ (zs : List ℕ). xs ++ zs) second.2 ∙ sym (append_assoc xs second.0 second.1), appends_then a b c xs second.0 first second.3)

-- a write that failed, so the next one was not made
pub failed_before : (a b : Option (List ℕ)) (xs ys : List ℕ) → ((front : List ℕ) × (left : List ℕ) × (xs ≡ front ++ left) × Appends a b front)
    → ((front : List ℕ) × (left : List ℕ) × (xs ++ ys ≡ front ++ left) × Appends a b front)
failed_before a b xs ys failed = (failed.0, failed.1 ++ ys, ap (λ (zs : List ℕ). zs ++ ys) failed.2 ∙ append_assoc failed.0 failed.1 ys, failed.3)

-- the same, where the result of the failed call is that of both
pub took_first : {E : Type 0} (r : Result (Unit {0}) E) → IsErr r → (a b : Option (List ℕ)) (xs ys : List ℕ) → ((front : List ℕ) × (left : List ℕ) × (xs ≡ front ++ left) × Appends a b front) → Took r a b (xs ++ ys)
took_first (Ok u) failed a b xs ys first = absurd cc
took_first (Err e) failed a b xs ys first = failed_before a b xs ys first

-- the elements that a loop has written, and one that was not written in full
pub items_broken : {E : Type 0} (r : Result (Unit {0}) E) → IsErr r → (front one behind all : List ℕ) (a b c : Option (List ℕ)) → all ≡ front ++ (one ++ behind) → Appends a b front
    → ((fore : List ℕ) × (left : List ℕ) × (one ≡ fore ++ left) × Appends b c fore) → Took r a c all
items_broken (Ok u) failed front one behind all a b c parts first second = absurd cc
items_broken (Err e) failed front one behind all a b c parts first second =
    let more = failed_before b c one behind second in
    (front ++ more.0, more.1, parts ∙ ap (λ (zs : List ℕ). front ++ zs) more.2 ∙ sym (append_assoc front more.0 more.1), appends_then a b c front more.0 first more.3)

-- ---- one item of a list after another

module _ {T : Type 0} (f : T → List ℕ) where
  so_far_at : (xs : List T) (i : ℕ) (x d : T) → i < length xs → x ≡ get_or xs i d → flat_map f (take (i + 1) xs) ≡ flat_map f (take i xs) ++ f x
  so_far_at xs i x d lt is =
      ap (flat_map f) (take_more xs i d lt ∙ ap (λ (y : T). take i xs ++ y ∷ []) (sym is)) ∙ flat_map-append f (take i xs) (x ∷ [])
      ∙ ap (λ (t : List ℕ). flat_map f (take i xs) ++ t) (append-nil (f x))

  parts_at : (xs : List T) (i : ℕ) (x d : T) → i < length xs → x ≡ get_or xs i d → flat_map f xs ≡ flat_map f (take i xs) ++ (f x ++ flat_map f (drop (i + 1) xs))
  parts_at xs i x d lt is =
      ap (flat_map f) (sym (take-append-drop (i + 1) xs)) ∙ flat_map-append f (take (i + 1) xs) (drop (i + 1) xs)
      ∙ ap (λ (t : List ℕ). t ++ flat_map f (drop (i + 1) xs)) (so_far_at xs i x d lt is) ∙ append_assoc (flat_map f (take i xs)) (f x) (flat_map f (drop (i + 1) xs))

  pub items_more : (xs : List T) (i : ℕ) (x d : T) (a b c : Option (List ℕ)) → i < length xs → x ≡ get_or xs i d → Appends a b (flat_map f (take i xs)) → Appends b c (f x) → Appends a c (flat_map f (take (i + 1) xs))
  items_more xs i x d a b c lt is first second = subst (λ (t : List ℕ). Appends a c t) (sym (so_far_at xs i x d lt is)) (appends_then a b c (flat_map f (take i xs)) (f x) first second)

  pub items_failed : {E : Type 0} (r : Result (Unit {0}) E) → IsErr r → (xs : List T) (i : ℕ) (x d : T) (a b c : Option (List ℕ)) → i < length xs → x ≡ get_or xs i d → Appends a b (flat_map f (take i xs))
      → ((fore : List ℕ) × (left : List ℕ) × (f x ≡ fore ++ left) × Appends b c fore) → Took r a c (flat_map f xs)
  items_failed r failed xs i x d a b c lt is first second =
      items_broken r failed (flat_map f (take i xs)) (f x) (flat_map f (drop (i + 1) xs)) (flat_map f xs) a b c (parts_at xs i x d lt is) first second
