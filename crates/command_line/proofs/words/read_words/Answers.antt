use Rattle.std.proofs.Common.{ap, map, option_map, string_bytes, subst, sym, true≢false, List, ◌∙◌, ◌≡◌}
use Rattle.clap.specs.Words.{Text, subcommand_name_of}
use Rattle.command_line.specs.Asking.{IsReading}
use Rattle.command_line.specs.CommandLine.{command_for}
use Rattle.command_line.specs.declared.commands.Reading.TheVariants.{Given}
use Rattle.command_line.proofs.AskedLemmas.{name_of_rows, none_left, one_named}
use Rattle.command_line.proofs.words.read_words.Goals as goal

pub unreachable-requires : goal.unreachable-requires
unreachable-requires c =
    let words : List Text = map (λ word. string_bytes word) c.args.words.now in
    let told : IsReading words (Given c.in-Ok-Given.matches) = subst (IsReading words) c.in-Ok-Given.field-0-is c.in-Ok-Given.ensures in
    let named : subcommand_name_of c.in-Ok-Given.matches ≡ command_for words = name_of_rows c.in-Ok-Given.matches ∙ ap (option_map (λ sub. sub.0)) told.1 in
    none_left (command_for words) (one_named words told.0)
    (λ script. true≢false (sym (c.in_default.ensures.found.1 (named ∙ script))))
    (λ serve. true≢false (sym (c.in_default-subcommand_matches.ensures.found.1 (named ∙ serve))))
    (λ connect. true≢false (sym (c.in_default-subcommand_matches-2.ensures.found.1 (named ∙ connect))))
    (λ check. true≢false (sym (c.in_default-subcommand_matches-3.ensures.found.1 (named ∙ check))))
    (λ draw. true≢false (sym (c.in_default-subcommand_matches-4.ensures.found.1 (named ∙ draw))))
    (λ exports. true≢false (sym (c.in_default-subcommand_matches-5.ensures.found.1 (named ∙ exports))))
    (λ imports. true≢false (sym (c.in_default-subcommand_matches-6.ensures.found.1 (named ∙ imports))))
    (λ stores. true≢false (sym (c.in_default-subcommand_matches-7.ensures.found.1 (named ∙ stores))))
    (λ secrets. true≢false (sym (c.in_default-subcommand_matches-8.ensures.found.1 (named ∙ secrets))))
    (λ man. true≢false (sym (c.in_default-subcommand_matches-9.ensures.found.1 (named ∙ man))))
    (λ completions. true≢false (sym (c.in_default-subcommand_matches-10.ensures.found.1 (named ∙ completions))))
