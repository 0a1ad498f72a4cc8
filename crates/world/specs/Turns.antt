-- Tending the slots of an index in turn.
use Rattle.std.specs.Prelude.{ℕ, ◌+◌, nat_lt, if◌then◌else◌}

-- the next slot, round robin: 0 after the last one
abbrev pub behind : ℕ → ℕ → ℕ
behind slot slots = if nat_lt (slot + 1) slots then slot + 1 else 0
