use Rattle.std.proofs.Common.{ap, codes, is_some, sym, true≢false, None, ◌≡◌, ◌∙◌}
use Rattle.clap.proofs.WalkLemmas.{first_value-rows}
use Rattle.clap.specs.Words.{first_of, found_of, rows_of}
use Rattle.command_line.proofs.AskedLemmas.{connect_has_socket}
use Rattle.command_line.proofs.words.connect_path.Goals as goal

pub unreachable-requires : goal.unreachable-requires
unreachable-requires c =
    let found = found_of c.args.given.now in
    let none : first_of (codes "socket") (rows_of found) ≡ None = sym (first_value-rows found (codes "socket")) ∙ sym c.in_default.ensures in
    true≢false (sym (connect_has_socket c.requires.0 (rows_of found) c.requires.1 c.requires.2) ∙ ap is_some none)

pub returns : goal.returns
returns c = sym (first_value-rows (found_of c.args.given.now) (codes "socket")) ∙ sym c.in-Some.ensures
