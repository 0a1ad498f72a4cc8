use Rattle.std.proofs.Common.{inl, sym, true≢false, ◌∙◌}
use Rattle.clap.specs.Words.{kind_of}
use Rattle.command_line.proofs.words.asked_text.Goals as goal

pub returns-else-is_help : goal.returns-else-is_help
returns-else-is_help c words among = inl (kind_of c.args.text, among, λ is. true≢false (sym (c.is_help.ensures.1 is) ∙ c.if-is_help.false))
