use Rattle.std.proofs.Common.{ap, codes, is_some, refl, sym, true≢false, None, ◌≡◌, ◌∙◌}
use Rattle.std.specs.Prelude.{option_and_then}
use Rattle.clap.proofs.WalkLemmas.{first_value-rows}
use Rattle.clap.specs.Words.{Text, first_of, first_value, found_of, rows_of}
use Rattle.command_line.specs.CommandLine.{action_named}
use Rattle.command_line.proofs.AskedLemmas.{store_has_needed, stored_rule}
use Rattle.command_line.proofs.NumberLemmas.{flag_found}
use Rattle.command_line.proofs.stores.asked_store.Goals as goal

pub unreachable-requires : goal.unreachable-requires
unreachable-requires c =
    let found = found_of c.args.given.now in
    let needs = store_has_needed c.requires.0 (rows_of found) c.requires.1 c.requires.2 in
    let none : first_of (codes "ACTION") (rows_of found) ≡ None = sym (first_value-rows found (codes "ACTION")) ∙ sym c.in_default.ensures in
    true≢false (sym needs.action ∙ ap is_some none)

pub unreachable-requires-in_default-get_str : goal.unreachable-requires-in_default-get_str
unreachable-requires-in_default-get_str c =
    let found = found_of c.args.given.now in
    let needs = store_has_needed c.requires.0 (rows_of found) c.requires.1 c.requires.2 in
    let none : first_of (codes "DIR") (rows_of found) ≡ None = sym (first_value-rows found (codes "DIR")) ∙ sym c.in_default-get_str.ensures in
    true≢false (sym needs.folder ∙ ap is_some none)

pub returns-in-Some-action_named : goal.returns-in-Some-action_named
returns-in-Some-action_named c =
    let found = found_of c.args.given.now in
    let needs = store_has_needed c.requires.0 (rows_of found) c.requires.1 c.requires.2 in
    let read : (id : Text) → first_of id (rows_of found) ≡ first_value found id = λ id. sym (first_value-rows found id) in
    record {
      action = ap (option_and_then action_named) (read (codes "ACTION") ∙ sym c.in-Some.ensures) ∙ sym c.in-Some-action_named.ensures;
      folder = read (codes "DIR") ∙ sym c.in-Some-get_str.ensures;
      features = flag_found stored_rule refl found needs.features c.get_flag.result c.get_flag.ensures.none c.get_flag.ensures.value c.get_flag.ensures.other;
    }

pub returns-in-None : goal.returns-in-None
returns-in-None c =
    ap (option_and_then action_named) (sym (first_value-rows (found_of c.args.given.now) (codes "ACTION")) ∙ sym c.in-Some.ensures) ∙ sym c.in-None.ensures
