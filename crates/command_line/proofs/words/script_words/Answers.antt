use Rattle.std.proofs.Common.{ap, codes, is_some, lit<, refl, sym, true≢false, None, ◌≡◌, ◌∙◌}
use Rattle.clap.proofs.WalkLemmas.{first_value-rows}
use Rattle.clap.specs.Words.{Text, first_of, first_value, found_of, rows_of}
use Rattle.command_line.specs.declared.options.TheConstants.{FEATURE_LIMIT}
use Rattle.command_line.proofs.AskedLemmas.{most_rule, script_has_file}
use Rattle.command_line.proofs.NumberLemmas.{number_found}
use Rattle.command_line.proofs.words.script_words.Goals as goal

pub unreachable-requires : goal.unreachable-requires
unreachable-requires c =
    let found = found_of c.args.given.now in
    let none : first_of (codes "FILE") (rows_of found) ≡ None = sym (first_value-rows found (codes "FILE")) ∙ sym c.in_default.ensures in
    true≢false (sym (script_has_file c.requires.0 (rows_of found) c.requires.1 c.requires.2).file ∙ ap is_some none)

pub returns : goal.returns
returns c =
    let found = found_of c.args.given.now in
    let needs = script_has_file c.requires.0 (rows_of found) c.requires.1 c.requires.2 in
    let read : (id : Text) → first_of id (rows_of found) ≡ first_value found id = λ id. sym (first_value-rows found id) in
    let features = number_found 32 FEATURE_LIMIT (lit< tt) most_rule refl found needs.features c.get_one.result c.get_one.ensures.none c.get_one.ensures.value in
    record {
      script = read (codes "FILE") ∙ sym c.in-Some.ensures;
      config = read (codes "config") ∙ sym c.get_str-2.ensures;
      store = read (codes "store") ∙ sym c.get_str-3.ensures;
      features = features.0;
      features_fit = features.1;
    }
