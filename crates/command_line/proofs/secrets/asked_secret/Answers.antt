use Rattle.std.proofs.Common.{ap, codes, is_some, sym, true≢false, None, Some, false, ◌≡◌, ◌∙◌}
use Rattle.clap.proofs.WalkLemmas.{first_value-rows}
use Rattle.clap.specs.Words.{first_of, found_of, rows_of}
use Rattle.std.specs.Option.{option_map_or}
use Rattle.features.specs.Names.{name_of}
use Rattle.command_line.proofs.AskedLemmas.{secret_has_name}
use Rattle.command_line.proofs.secrets.asked_secret.Goals as goal

pub unreachable-requires : goal.unreachable-requires
unreachable-requires c =
    let found = found_of c.args.given.now in
    let none : first_of (codes "NAME") (rows_of found) ≡ None = sym (first_value-rows found (codes "NAME")) ∙ sym c.in_default.ensures in
    true≢false (sym (secret_has_name c.requires.0 (rows_of found) c.requires.1 c.requires.2) ∙ ap is_some none)

pub returns-then-is_name : goal.returns-then-is_name
returns-then-is_name c =
    let told : first_of (codes "NAME") (rows_of (found_of c.args.given.now)) ≡ Some c.in-Some.text.now = sym (first_value-rows (found_of c.args.given.now) (codes "NAME")) ∙ sym c.in-Some.ensures in
    (told, ap (λ o. option_map_or (λ text. is_some (name_of text)) o false) told ∙ sym c.is_name.ensures ∙ c.if-is_name.true)

pub returns-else-is_name : goal.returns-else-is_name
returns-else-is_name c =
    let told : first_of (codes "NAME") (rows_of (found_of c.args.given.now)) ≡ Some c.in-Some.text.now = sym (first_value-rows (found_of c.args.given.now) (codes "NAME")) ∙ sym c.in-Some.ensures in
    ap (λ o. option_map_or (λ text. is_some (name_of text)) o false) told ∙ sym c.is_name.ensures ∙ c.if-is_name.false
