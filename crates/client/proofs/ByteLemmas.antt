-- Bytes that are read and written, one part after another.
use Rattle.std.proofs.Common.{◌∙◌, ℕ, List, [], ◌++◌, Option, None, Some, refl, sym, ap, append_assoc, append-nil}
use Rattle.std.specs.Io.KnownBytes.{Appends, Consumes, Keeps}
use Rattle.client.specs.Turns.{Moves}

pub consumes_none : (a : Option (List ℕ)) → Consumes a a []
consumes_none None = tt
consumes_none (Some xs) = refl

pub consumes_then : (a b c : Option (List ℕ)) (xs ys : List ℕ) → Consumes a b xs → Consumes b c ys → Consumes a c (xs ++ ys)
consumes_then None b c xs ys first second = tt
consumes_then (Some a) None c xs ys first second = absurd first
consumes_then (Some a) (Some b) None xs ys first second = absurd second
consumes_then (Some a) (Some b) (Some c) xs ys first second = first ∙ ap (λ (zs : List ℕ). xs ++ zs) second ∙ sym (append_assoc xs ys c)

pub appends_none : (a : Option (List ℕ)) → Appends a a []
appends_none None = tt
appends_none (Some xs) = sym (append-nil xs)

pub appends_kept : (a b c : Option (List ℕ)) (xs : List ℕ) → Appends a b xs → Keeps b c → Appends a c xs
appends_kept None b c xs written kept = tt
appends_kept (Some a) None c xs written kept = absurd written
appends_kept (Some a) (Some b) None xs written kept = absurd kept
appends_kept (Some a) (Some b) (Some c) xs written kept = kept ∙ written

-- nothing is used
pub moves_none : (held : List ℕ) (a : Option (List ℕ)) → Moves held held a a []
moves_none held a = ([], consumes_none a, append-nil held)

-- more is used
pub moves_then : (one two three : List ℕ) (a b c : Option (List ℕ)) (xs ys : List ℕ) → Moves one two a b xs → Moves two three b c ys → Moves one three a c (xs ++ ys)
moves_then one two three a b c xs ys first second = (
  first.0 ++ second.0,
  consumes_then a b c first.0 second.0 first.1 second.1,
  sym (append_assoc one first.0 second.0) ∙ ap (λ (t : List ℕ). t ++ second.0) first.2 ∙ append_assoc xs two second.0
      ∙ ap (λ (t : List ℕ). xs ++ t) second.2 ∙ sym (append_assoc xs ys three),
)
