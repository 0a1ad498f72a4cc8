-- Digits that lie in two places, and what is left of their number when it is divided.
use Rattle.std.specs.Prelude.{◌≡◌, ℕ, ◌+◌, ◌*◌, ◌/◌, ◌%◌, ◌^◌, ◌==◌, min, Bool, false, List, [], ◌∷◌, ◌++◌, Option, Some, None, if◌then◌else◌, nat_le}
use Rattle.grid.specs.declared.grids.Between.{Between}
use Rattle.grid.specs.declared.grids.Between.TheVariants.{Refuse, Nearest}
use Rattle.grid.specs.declared.parts.Digits.{Digits}
use Rattle.grid.specs.declared.steps.Quotient.{Quotient}

abbrev pub shown : Digits → List ℕ
shown d = d.first.now ++ d.second.now

-- the first digit is 5 or more
abbrev pub begins_with_five : List ℕ → Bool
begins_with_five [] = false
begins_with_five (c ∷ cs) = nat_le 53 c

-- The number of steps, from what is left of their parts when these are divided: the quotient, which
-- is capped, whether nothing remains, and whether at least half a step does.
abbrev pub rounded_up : ℕ → ℕ → Bool → ℕ
rounded_up cap value is_half = if is_half then min (value + 1) cap else value

abbrev pub rounded_steps : ℕ → Between → ℕ → Bool → Option ℕ
rounded_steps cap Refuse value is_half = None
rounded_steps cap Nearest value is_half = Some (rounded_up cap value is_half)

abbrev pub quotient_steps : ℕ → Between → Quotient → Option ℕ
quotient_steps cap between q =
    if q.is_whole then Some q.value else rounded_steps cap between q.value q.is_half

-- a number of digits divided by a power of ten
pub record Divides (cap value count : ℕ) (q : Quotient) : Type 0 where
  pub value_is : q.value ≡ min (value / 10 ^ count) cap
  pub whole_is : q.is_whole ≡ (value % 10 ^ count == 0)
  pub half_is : q.is_half ≡ nat_le (10 ^ count) (2 * (value % 10 ^ count))
