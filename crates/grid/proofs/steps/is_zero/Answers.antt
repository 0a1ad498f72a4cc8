use Rattle.std.proofs.Common.{◌≡◌, ◌==◌, ◌&&◌, Bool, sym, ap, ◌∙◌}
use Rattle.std.specs.List.{list_all}
use Rattle.std.specs.Str.Parse.{digits_value}
use Rattle.grid.specs.declared.parts.Digits.{Digits}
use Rattle.grid.specs.Digits.{shown}
use Rattle.grid.proofs.StepsLemmas.{zeros_value, zero_append}
use Rattle.grid.proofs.steps.is_zero.Goals as goal

whole : (d : Digits) → list_all (λ z. z == 48) d.first.now && list_all (λ z. z == 48) d.second.now ≡ (digits_value 10 (shown d) == 0)
whole d =
    rw (zeros_value d.first.now d.first_digits, zeros_value d.second.now d.second_digits) (zero_append d.first.now d.second.now)

pub returns-then-are_zeros : goal.returns-then-are_zeros
returns-then-are_zeros c =
    c.are_zeros-then-are_zeros.ensures
    ∙ ap (λ (b : Bool). b && list_all (λ z. z == 48) c.args.digits.now.second.now) (sym c.if-are_zeros.true ∙ c.are_zeros.ensures)
    ∙ whole c.args.digits.now

pub returns-else-are_zeros : goal.returns-else-are_zeros
returns-else-are_zeros c =
    c.if-are_zeros.false
    ∙ ap (λ (b : Bool). b && list_all (λ z. z == 48) c.args.digits.now.second.now) (sym c.if-are_zeros.false ∙ c.are_zeros.ensures)
    ∙ whole c.args.digits.now
