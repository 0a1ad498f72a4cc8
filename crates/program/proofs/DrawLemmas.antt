-- A drawing of files whose bytes are known.
use Rattle.std.proofs.Common.{◌≡◌, ℕ, List, Option, subst}
use Rattle.drawing.specs.Drawings.{DrawsAll}

pub drawn_at : (s known_s s_then r known_r r_then before after : Option (List ℕ)) → s ≡ known_s → r ≡ known_r → DrawsAll s s_then r r_then before after
    → (script_then : Option (List ℕ)) × (replies_then : Option (List ℕ)) × DrawsAll known_s script_then known_r replies_then before after
drawn_at s known_s s_then r known_r r_then before after e f h =
    (s_then, r_then, subst (λ x. DrawsAll x s_then known_r r_then before after) e (subst (λ x. DrawsAll s s_then x r_then before after) f h))
