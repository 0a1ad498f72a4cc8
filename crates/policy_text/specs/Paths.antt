-- How a path stores its parts: at the front of an array of `PART_LIMIT` cells, then fillers.
use Rattle.std.specs.Prelude.{◌≡◌, ℕ, ◌-◌, ◌≤◌, List, ◌++◌, length, take, drop, replicate}
use Rattle.std.proofs.Common.{arith, ◌∙◌, ap, sym, take-append-drop, length-take-le}
use Rattle.policy_text.specs.declared.paths.TheConstants.{PART_LIMIT}
use Rattle.policy_text.specs.declared.paths.PathPart.{PathPart}
use Rattle.policy_text.specs.declared.paths.PathPart.TheVariants.{Item}

abbrev pub fillers : ℕ → List PathPart
fillers len = replicate (PART_LIMIT - len) (Item 0)

abbrev pub padded : List PathPart → List PathPart
padded parts = parts ++ fillers (length parts)

pub record HoldsParts (parts : List PathPart) (len : ℕ) : Type 0 where
  pub whole : length parts ≡ PART_LIMIT
  pub within : len ≤ PART_LIMIT
  pub filled : drop len parts ≡ fillers len

pub length_again : (parts : List PathPart) (len : ℕ) → HoldsParts parts len
    → length (take len parts) ≡ len
length_again parts len h = length-take-le len parts (omega (arith, h.whole, h.within))

pub padded_again : (parts : List PathPart) (len : ℕ) → HoldsParts parts len
    → padded (take len parts) ≡ parts
padded_again parts len h =
    ap (λ n. take len parts ++ fillers n) (length_again parts len h) ∙ ap
    (λ xs. take len parts ++ xs) (sym h.filled) ∙ take-append-drop len parts
