use Rattle.std.proofs.Common.{ap, codes, is_some, sym, true≢false, None, ◌≡◌, ◌∙◌}
use Rattle.std.specs.Prelude.{option_and_then}
use Rattle.clap.proofs.WalkLemmas.{first_value-rows}
use Rattle.clap.specs.Words.{Text, first_of, first_value, found_of, rows_of}
use Rattle.command_line.specs.CommandLine.{format_named}
use Rattle.command_line.proofs.AskedLemmas.{export_has_needed}
use Rattle.command_line.proofs.transfers.asked_export.Goals as goal

pub unreachable-requires : goal.unreachable-requires
unreachable-requires c =
    let found = found_of c.args.given.now in
    let needs = export_has_needed c.requires.0 (rows_of found) c.requires.1 c.requires.2 in
    let none : first_of (codes "socket") (rows_of found) ≡ None = sym (first_value-rows found (codes "socket")) ∙ sym c.in_default.ensures in
    true≢false (sym needs.socket ∙ ap is_some none)

pub unreachable-requires-in_default-get_str : goal.unreachable-requires-in_default-get_str
unreachable-requires-in_default-get_str c =
    let found = found_of c.args.given.now in
    let needs = export_has_needed c.requires.0 (rows_of found) c.requires.1 c.requires.2 in
    let none : first_of (codes "as") (rows_of found) ≡ None = sym (first_value-rows found (codes "as")) ∙ sym c.in_default-get_str.ensures in
    true≢false (sym needs.subject ∙ ap is_some none)

pub unreachable-requires-in_default-get_str-2 : goal.unreachable-requires-in_default-get_str-2
unreachable-requires-in_default-get_str-2 c =
    let found = found_of c.args.given.now in
    let needs = export_has_needed c.requires.0 (rows_of found) c.requires.1 c.requires.2 in
    let none : first_of (codes "format") (rows_of found) ≡ None = sym (first_value-rows found (codes "format")) ∙ sym c.in_default-get_str-2.ensures in
    true≢false (sym needs.format ∙ ap is_some none)

pub returns-in-Some-format_named : goal.returns-in-Some-format_named
returns-in-Some-format_named c =
    let found = found_of c.args.given.now in
    let read : (id : Text) → first_of id (rows_of found) ≡ first_value found id = λ id. sym (first_value-rows found id) in
    record {
      socket = read (codes "socket") ∙ sym c.in-Some.ensures;
      subject = read (codes "as") ∙ sym c.in-Some-get_str.ensures;
      window = read (codes "window") ∙ sym c.get_str-in-Some-format_named.ensures;
      class = read (codes "class") ∙ sym c.get_str-in-Some-format_named-2.ensures;
      config = read (codes "config") ∙ sym c.get_str-in-Some-format_named-3.ensures;
      format = ap (option_and_then format_named) (read (codes "format") ∙ sym c.in-Some-get_str-2.ensures) ∙ sym c.in-Some-format_named.ensures;
    }

pub returns-in-None : goal.returns-in-None
returns-in-None c =
    ap (option_and_then format_named) (sym (first_value-rows (found_of c.args.given.now) (codes "format")) ∙ sym c.in-Some-get_str-2.ensures) ∙ sym c.in-None.ensures
