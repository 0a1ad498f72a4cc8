-- How many additions were settled.
use Rattle.std.specs.Prelude.{ℕ, ◌+◌}
use Rattle.importing.specs.declared.lists.Counts.{Counts}

abbrev pub total : Counts → ℕ
total counts = counts.applied + counts.present + counts.refused
