-- Steps from 0 that are capped on their way: beyond the cap no coordinate and no origin lies.
use Rattle.std.specs.Prelude.{ℕ, min, ℤ, pos, ◌-ℤ◌, ◌≤ℤ◌, List, Option, Some, None, option_map, Result, Err}
use Rattle.grid.specs.declared.faults.NumberFault.{NumberFault}
use Rattle.grid.specs.declared.faults.NumberFault.TheVariants.{NotANumber}
use Rattle.grid.specs.declared.grids.Between.{Between}
use Rattle.grid.specs.Grids.{signed_steps}
use Rattle.grid.specs.Numbers.{Number, number_of}
use Rattle.grid.specs.Steps.{steps_of}

pub record IsCapped (cap : ℕ) (steps : ℤ) : Type 0 where
  pub low : (pos 0 -ℤ pos cap) ≤ℤ steps
  pub high : steps ≤ℤ pos cap

abbrev pub capped_number_steps : ℕ → Between → ℕ → Option Number → Result ℤ NumberFault
capped_number_steps cap between decimals None = Err NotANumber
capped_number_steps cap between decimals (Some n) =
    signed_steps n.negative (option_map (λ k. min k cap) (steps_of between decimals n))

unfoldable pub capped_text_steps : ℕ → Between → ℕ → List ℕ → Result ℤ NumberFault
capped_text_steps cap between decimals text = capped_number_steps cap between decimals (number_of text)
