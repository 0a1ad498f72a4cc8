use Rattle.std.proofs.Common.{ap, inl, inr, map, string_bytes, subst, sym, true≢false, List, [], ◌≡◌, ◌∙◌}
use Rattle.clap.specs.Words.{App, IsAmong, Text, app_of, fault_of, is_simple, is_simple_and_free, kind_of, subcommand_of}
use Rattle.command_line.specs.CommandLine.{command_line, refusals}
use Rattle.command_line.proofs.commands.clap_reading.Goals as goal

pub returns-in-Ok-try_get_matches_from : goal.returns-in-Ok-try_get_matches_from
returns-in-Ok-try_get_matches_from c =
    let words : List Text = map (λ word. string_bytes word) c.args.words.now in
    let app : app_of c.in-Ok.command ≡ command_line = c.in-Ok.ensures in
    let refused : refusals words ≡ [] = sym (ap (λ (a : App). fault_of a words) app) ∙ c.in-Ok-try_get_matches_from.ensures.kinds (ap is_simple_and_free app) in
    (refused, (c.in-Ok-try_get_matches_from.ensures.matches (ap is_simple app)).1 ∙ ap (λ (a : App). subcommand_of a words) app)

pub returns-in-Err-2 : goal.returns-in-Err-2
returns-in-Err-2 c =
    let words : List Text = map (λ word. string_bytes word) c.args.words.now in
    let app : app_of c.in-Ok.command ≡ command_line = c.in-Ok.ensures in
    elim (c.in-Err.ensures.kinds (ap is_simple_and_free app)) [
      | inl memory ↦
          let is = c.kind.ensures ∙ memory in
          let same = rw is at c.eq.ensures in
          absurd (true≢false (sym same ∙ c.if-eq.false))
      | inr among ↦ subst (IsAmong (kind_of c.in-Err.error)) (ap (λ (a : App). fault_of a words) app) among
    ]
