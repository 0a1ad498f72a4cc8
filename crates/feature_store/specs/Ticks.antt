-- The ticks of a meter.
use Rattle.std.specs.Prelude.{ℕ, ◌+◌, ◌-◌, ◌^◌, min}

-- the ticks of a meter after `count` more, up to the greatest number of 64 bits
abbrev pub ticked_by : ℕ → ℕ → ℕ
ticked_by count n = min (n + count) (2 ^ 64 - 1)
