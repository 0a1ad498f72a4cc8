-- The number of the parts of its text.
use Rattle.std.specs.Prelude.{◌++◌}
use Rattle.grid.specs.declared.parts.Parts.{Parts}
use Rattle.grid.specs.Numbers.{Number}

abbrev pub number_in : Parts → Number
number_in parts = record { negative = parts.negative; digits = parts.whole.now ++ parts.fraction.now; up = parts.up; down = parts.down }
