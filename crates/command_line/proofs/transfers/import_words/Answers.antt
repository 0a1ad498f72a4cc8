use Rattle.std.proofs.Common.{ap, codes, is_some, lit<, refl, sym, true≢false, None, ◌≡◌, ◌∙◌}
use Rattle.clap.proofs.WalkLemmas.{first_value-rows}
use Rattle.clap.specs.Words.{Text, first_of, first_value, found_of, rows_of}
use Rattle.command_line.specs.declared.options.TheConstants.{FIRST_ID_LIMIT}
use Rattle.command_line.proofs.AskedLemmas.{first_id_rule, import_has_needed, into_script_rule, split_rule, whole_rule}
use Rattle.command_line.proofs.NumberLemmas.{flag_found, number_found}
use Rattle.command_line.proofs.transfers.import_words.Goals as goal

pub unreachable-requires : goal.unreachable-requires
unreachable-requires c =
    let found = found_of c.args.given.now in
    let needs = import_has_needed c.requires.0 (rows_of found) c.requires.1 c.requires.2 in
    let none : first_of (codes "FILE") (rows_of found) ≡ None = sym (first_value-rows found (codes "FILE")) ∙ sym c.in_default.ensures in
    true≢false (sym needs.file ∙ ap is_some none)

pub unreachable-requires-in_default-get_str : goal.unreachable-requires-in_default-get_str
unreachable-requires-in_default-get_str c =
    let found = found_of c.args.given.now in
    let needs = import_has_needed c.requires.0 (rows_of found) c.requires.1 c.requires.2 in
    let none : first_of (codes "as") (rows_of found) ≡ None = sym (first_value-rows found (codes "as")) ∙ sym c.in_default-get_str.ensures in
    true≢false (sym needs.subject ∙ ap is_some none)

pub returns : goal.returns
returns c =
    let found = found_of c.args.given.now in
    let needs = import_has_needed c.requires.0 (rows_of found) c.requires.1 c.requires.2 in
    let read : (id : Text) → first_of id (rows_of found) ≡ first_value found id = λ id. sym (first_value-rows found id) in
    let number = number_found 32 FIRST_ID_LIMIT (lit< tt) first_id_rule refl found needs.first_id c.get_one.result c.get_one.ensures.none c.get_one.ensures.value in
    record {
      file = read (codes "FILE") ∙ sym c.in-Some.ensures;
      subject = read (codes "as") ∙ sym c.in-Some-get_str.ensures;
      socket = read (codes "socket") ∙ sym c.get_str-3.ensures;
      class = read (codes "class") ∙ sym c.get_str-4.ensures;
      config = read (codes "config") ∙ sym c.get_str-5.ensures;
      first_id = number.0;
      first_id_fits = number.1;
      whole = flag_found whole_rule refl found needs.whole c.get_flag.result c.get_flag.ensures.none c.get_flag.ensures.value c.get_flag.ensures.other;
      split = flag_found split_rule refl found needs.split c.get_flag-2.result c.get_flag-2.ensures.none c.get_flag-2.ensures.value c.get_flag-2.ensures.other;
      script = flag_found into_script_rule refl found needs.into_script c.get_flag-3.result c.get_flag-3.ensures.none c.get_flag-3.ensures.value c.get_flag-3.ensures.other;
    }
