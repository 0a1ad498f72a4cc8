use Rattle.std.proofs.Common.{arith, rules}
use Rattle.wkt.proofs.TokensLemmas.{none_is, first_is, filled}
use Rattle.wkt.proofs.tokens.first_token.Goals as goal

pub returns-then-is_empty-clause-none : goal.returns-then-is_empty-clause-none
returns-then-is_empty-clause-none c =
    none_is c.args.text.at c.args.text.bytes.now c.split_at.result.1.now c.space_len.result c.space_len.ensures.value c.split_at.ensures.back (search rules)

pub returns-clause-some : goal.returns-clause-some
returns-clause-some c =
    rw (c.split_at.ensures.front_len, c.split_at-2.ensures.front_len, c.split_at-2.ensures.front, c.split_at-2.ensures.back, c.token_len.ensures.value)
    (first_is c.args.text.at c.args.text.bytes.now c.split_at.result.1.now c.space_len.result c.space_len.ensures.value c.split_at.ensures.back (search rules))

pub returns-clause-shorter : goal.returns-clause-shorter
returns-clause-shorter c =
    let some = filled c.args.text.bytes.now c.split_at.result.1.now c.space_len.result c.space_len.ensures.value c.split_at.ensures.back (search rules) in
    omega (arith, c.token_len.ensures.value, c.split_at.ensures.back_len, c.split_at-2.ensures.back_len)
