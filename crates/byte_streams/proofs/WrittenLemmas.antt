-- Writes one after another.
use Rattle.std.proofs.Common.{◌≡◌, ℕ, List, ◌++◌, take, drop, Option, Some, None, sym, ap, ◌∙◌, append_assoc, take-append-drop}
use Rattle.std.specs.Io.KnownBytes.{Appends}

-- two writes append their bytes one after the other
pub appends_then : (a b c : Option (List ℕ)) (xs ys : List ℕ) → Appends a b xs → Appends b c ys → Appends a c (xs ++ ys)
appends_then None b c xs ys first second = tt
appends_then (Some a) None c xs ys first second = absurd first
appends_then (Some a) (Some b) None xs ys first second = absurd second
appends_then (Some a) (Some b) (Some c) xs ys first second = second ∙ ap (λ (zs : List ℕ). zs ++ ys) first ∙ append_assoc a xs ys

-- one more call of the writer took some of what was left
pub wrote_more : (all rest rest_then : List ℕ) (n : ℕ) (a b c : Option (List ℕ)) → ((f : List ℕ) × (all ≡ f ++ rest) × Appends a b f) → Appends b c (take n rest) → rest_then ≡ drop n rest
    → ((f : List ℕ) × (all ≡ f ++ rest_then) × Appends a c f)
wrote_more all rest rest_then n a b c so_far taken left = (
  so_far.0 ++ take n rest,
  so_far.1 ∙ ap (λ (t : List ℕ). so_far.0 ++ t) (sym (take-append-drop n rest) ∙ ap (λ (t : List ℕ). take n rest ++ t) (sym left)) ∙ sym (append_assoc so_far.0 (take n rest) rest_then),
  appends_then a b c so_far.0 (take n rest) so_far.2 taken,
)
