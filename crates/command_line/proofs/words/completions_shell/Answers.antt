use Rattle.std.proofs.Common.{ap, codes, is_some, sym, true≢false, None, ◌≡◌, ◌∙◌}
use Rattle.clap.proofs.WalkLemmas.{first_value-rows}
use Rattle.clap.specs.Words.{first_of, found_of, rows_of}
use Rattle.std.specs.Prelude.{option_and_then}
use Rattle.command_line.specs.CommandLine.{shell_named}
use Rattle.command_line.proofs.AskedLemmas.{completions_has_shell}
use Rattle.command_line.proofs.words.completions_shell.Goals as goal

pub unreachable-requires : goal.unreachable-requires
unreachable-requires c =
    let found = found_of c.args.given.now in
    let none : first_of (codes "SHELL") (rows_of found) ≡ None = sym (first_value-rows found (codes "SHELL")) ∙ sym c.in_default.ensures in
    true≢false (sym (completions_has_shell c.requires.0 (rows_of found) c.requires.1 c.requires.2) ∙ ap is_some none)

pub returns-in-Some-shell_named : goal.returns-in-Some-shell_named
returns-in-Some-shell_named c =
    ap (option_and_then shell_named) (sym (first_value-rows (found_of c.args.given.now) (codes "SHELL")) ∙ sym c.in-Some.ensures) ∙ sym c.in-Some-shell_named.ensures

pub returns-in-None : goal.returns-in-None
returns-in-None c =
    ap (option_and_then shell_named) (sym (first_value-rows (found_of c.args.given.now) (codes "SHELL")) ∙ sym c.in-Some.ensures) ∙ sym c.in-None.ensures
