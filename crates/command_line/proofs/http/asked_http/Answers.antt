use Rattle.std.proofs.Common.{ap, codes, inl, inr, sym, true≢false, ◌≡◌, ◌∙◌}
use Rattle.clap.proofs.WalkLemmas.{first_value-rows}
use Rattle.clap.specs.Words.{Text, first_of, first_value, found_of, rows_of}
use Rattle.std.proofs.Common.{is_some}
use Rattle.command_line.proofs.HttpLemmas.{clear, none_mapped, one_given, some_mapped, unclear}
use Rattle.command_line.proofs.http.asked_http.Goals as goal
use Rattle.command_line.proofs.http.asked_http.Goals.{else-is_some-via-then-is_some+else-is_some-2, else-is_some-via-else-is_some}

pub returns-in-Err : goal.returns-in-Err
returns-in-Err c =
    let found = found_of c.args.given.now in
    let read : (id : Text) → first_of id (rows_of found) ≡ first_value found id = λ id. sym (first_value-rows found id) in
    inl (unclear _ _ _ _ (read (codes "http") ∙ sym c.get_str.ensures) (read (codes "http-socket") ∙ sym c.get_str-2.ensures) c.in-Err.ensures)

pub returns-then-is_some-2 : goal.returns-then-is_some-2
returns-then-is_some-2 c =
    let found = found_of c.args.given.now in
    let read : (id : Text) → first_of id (rows_of found) ≡ first_value found id = λ id. sym (first_value-rows found id) in
    let http = clear _ _ _ _ c.in-Ok.http (read (codes "http") ∙ sym c.get_str.ensures) (read (codes "http-socket") ∙ sym c.get_str-2.ensures) c.in-Ok.ensures in
    let counted = ap is_some (read (codes "connections") ∙ sym c.get_str-then-is_some.ensures) ∙ some_mapped _ c.get_str-then-is_some.result in
    inr (one_given _ _ c.in-Ok.http http (sym c.is_some.ensures ∙ c.if-is_some.true), counted ∙ sym c.is_some-then-is_some.ensures ∙ c.if-is_some-2.true)

pub returns : goal.returns
returns c =
    let found = found_of c.args.given.now in
    let read : (id : Text) → first_of id (rows_of found) ≡ first_value found id = λ id. sym (first_value-rows found id) in (
      clear _ _ _ _ c.in-Ok.http (read (codes "http") ∙ sym c.get_str.ensures) (read (codes "http-socket") ∙ sym c.get_str-2.ensures) c.in-Ok.ensures,
      elim c.else-is_some.branch [
        | else-is_some-via-then-is_some+else-is_some-2 w ↦ λ some. read (codes "connections") ∙ sym w.get_str-then-is_some.ensures ∙ none_mapped _ w.get_str-then-is_some.result (sym w.is_some-then-is_some.ensures ∙ w.if-is_some-2.false)
        | else-is_some-via-else-is_some w ↦ λ some. absurd (true≢false (sym some ∙ sym c.is_some.ensures ∙ w.if-is_some.false))
      ],
    )
