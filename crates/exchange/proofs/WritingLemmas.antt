-- Two writes, one after the other.
use Rattle.std.proofs.Common.{◌≡◌, ℕ, List, ◌++◌, Option, Result, Ok, Err, sym, ap, ◌∙◌, append_assoc}
use Rattle.std.specs.Io.KnownBytes.{Appends}
use Rattle.std.specs.Result.{IsErr}
use Rattle.byte_streams.specs.Written.{Took}
use Rattle.byte_streams.proofs.WrittenLemmas.{appends_then}

-- a write that was taken whole, and the next one
pub took_then : {E : Type 0} (r : Result (Unit {0}) E) (a b c : Option (List ℕ)) (xs ys : List ℕ) → Appends a b xs → Took r b c ys → Took r a c (xs ++ ys)
took_then (Ok u) a b c xs ys first second = appends_then a b c xs ys first second
took_then (Err e) a b c xs ys first second =
    (xs ++ second.0, second.1, ap (λ (zs : List ℕ). xs ++ zs) second.2 ∙ sym (append_assoc xs second.0 second.1), appends_then a b c xs second.0 first second.3)

-- a write that failed, so the next one was not made
pub took_first : {E : Type 0} (r : Result (Unit {0}) E) → IsErr r → (a b : Option (List ℕ)) (xs ys : List ℕ) → ((front : List ℕ) × (left : List ℕ) × (xs ≡ front ++ left) × Appends a b front) → Took r a b (xs ++ ys)
took_first (Ok u) failed a b xs ys first = absurd cc
took_first (Err e) failed a b xs ys first = (first.0, first.1 ++ ys, ap (λ (zs : List ℕ). zs ++ ys) first.2 ∙ append_assoc first.0 first.1 ys, first.3)
