use Rattle.std.proofs.Common.{◌≡◌, ◌+◌, ◌-◌, ◌<◌, true, ℕ, length, arith}
use Rattle.std.specs.Str.{all_ascii_digits}
use Rattle.std.proofs.lemmas.List.{length-append}
use Rattle.grid.specs.declared.parts.Digits.{Digits}
use Rattle.grid.specs.Digits.{shown}
use Rattle.grid.proofs.StepsLemmas.{divides_past, divides_at, digits_append}
use Rattle.grid.proofs.steps.divided.Goals as goal

are_digits : (d : Digits) → all_ascii_digits (shown d) ≡ true
are_digits d = digits_append d.first.now d.second.now d.first_digits d.second_digits

len : (d : Digits) → length (shown d) ≡ length d.first.now + length d.second.now
len d = length-append d.first.now d.second.now

pub returns-then-count-len : goal.returns-then-count-len
returns-then-count-len c =
    let d : Digits = c.args.digits.now in
    let more : length (shown d) < c.args.count = omega (arith, len d) in
    rw c.is_zero.ensures (divides_past _ c.args.count (shown d) (are_digits d) more)

pub returns : goal.returns
returns c =
    let d : Digits = c.args.digits.now in
    let at : ℕ = length d.first.now + length d.second.now - c.args.count in
    let whole : at + c.args.count ≡ length (shown d) = omega (arith, len d) in
    rw (c.value_of.ensures.value, c.is_zero-2.ensures, c.begins_with_five.ensures, c.split.ensures.front, c.split.ensures.back)
    (divides_at _ at c.args.count (shown d) (are_digits d) whole)
