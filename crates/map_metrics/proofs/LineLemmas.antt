-- Lines for which no count is left.
use Rattle.std.proofs.Common.{◌≡◌, ◌<◌, ℕ, List, [], ◌∷◌, ◌++◌, length, sym, ◌∙◌, append-nil, arith}
use Rattle.map_answers.specs.declared.statuses.Status.{Status}
use Rattle.map_metrics.specs.Requests.{status_lines}
use Rattle.map_metrics.specs.Times.{bucket_lines}
use Rattle.map_metrics.specs.declared.bounds.Bound.{Bound}

-- statuses
pub no_status_left : (a b : List ℕ) (statuses : List Status) (counts : List ℕ) → length counts < 1
    → a ++ status_lines statuses counts ≡ b → a ≡ b
no_status_left a b [] counts none is = sym (append-nil a) ∙ is
no_status_left a b (status ∷ rest) [] none is = sym (append-nil a) ∙ is
no_status_left a b (status ∷ rest) (count ∷ counts) none is = absurd (omega arith)

-- bounds
pub no_bound_left : (a b : List ℕ) (before : ℕ) (bounds : List Bound) (counts : List ℕ)
    → length counts < 1 → a ++ bucket_lines before bounds counts ≡ b → a ≡ b
no_bound_left a b before [] counts none is = sym (append-nil a) ∙ is
no_bound_left a b before (bound ∷ rest) [] none is = sym (append-nil a) ∙ is
no_bound_left a b before (bound ∷ rest) (count ∷ counts) none is = absurd (omega arith)
