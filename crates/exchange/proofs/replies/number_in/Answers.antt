use Rattle.std.proofs.Common.{ap, ap₂, ◌∙◌, decimal, ℕ, List, Some}
use Rattle.std.proofs.lemmas.Fmt.{decimal_nonempty}
use Rattle.line_words.specs.Words.{number_of}
use Rattle.exchange.proofs.RowLemmas.{both_some, decimal_letters, none_some, number_again, one_some, word_read}
use Rattle.exchange.proofs.replies.number_in.Goals as goal

pub returns-in_err-word : goal.returns-in_err-word
returns-in_err-word c n rest h e =
    none_some _ (c.in_err-word.ensures ∙ word_read c.args.row.now (decimal n) rest (decimal_nonempty n h) (decimal_letters n h) e)

pub returns-in_err-read_number : goal.returns-in_err-read_number
returns-in_err-read_number c n rest h e =
    let both = both_some _ _ _ _ (c.in_ok-word.ensures ∙ word_read c.args.row.now (decimal n) rest (decimal_nonempty n h) (decimal_letters n h) e) in
    none_some _ (c.in_err-read_number.ensures ∙ (ap number_of both.0 ∙ number_again n h))

pub returns : goal.returns
returns c n rest h e =
    let both = both_some _ _ _ _ (c.in_ok-word.ensures ∙ word_read c.args.row.now (decimal n) rest (decimal_nonempty n h) (decimal_letters n h) e) in
    let number = one_some _ _ (c.in_ok-read_number.ensures ∙ (ap number_of both.0 ∙ number_again n h)) in
    ap₂ (λ (m : ℕ) (behind : List ℕ). Some (m, behind)) number both.1
