use Rattle.std.proofs.Common.{sym, subst, ◌∙◌}
use Rattle.std.specs.Str.Parse.{ParsesUnsigned}
use Rattle.line_words.proofs.WordLemmas.{digits_utf8, number_long, number_none, number_read}
use Rattle.line_words.proofs.words.read_number.Goals as goal

pub returns-then-word-gt-DIGITS : goal.returns-then-word-gt-DIGITS
returns-then-word-gt-DIGITS c = number_long c.args.word.now c.if-word-gt-DIGITS.true

pub returns-then-not-are_digits : goal.returns-then-not-are_digits
returns-then-not-are_digits c = number_none c.args.word.now (sym c.are_digits.ensures ∙ c.if-not-are_digits.true)

pub returns-in-Ok : goal.returns-in-Ok
returns-in-Ok c =
    c.ok.ensures.value ∙ number_read c.args.word.now c.parse.result c.if-word-gt-DIGITS.false (sym c.are_digits.ensures ∙ c.if-not-are_digits.false)
    (subst (λ t. ParsesUnsigned 64 10 t c.parse.result) c.in-Ok.ensures.cases.0 c.parse.ensures.value.0)

pub returns-in-Err : goal.returns-in-Err
returns-in-Err c = absurd (c.in-Err.ensures.cases.0 (digits_utf8 c.args.word.now (sym c.are_digits.ensures ∙ c.if-not-are_digits.false)))
