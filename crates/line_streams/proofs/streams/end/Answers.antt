use Rattle.std.proofs.Common.{◌≡◌, ◌<◌, [], length, arith, ◌∙◌, sym}
use Rattle.std.proofs.lemmas.Bool.Decides.{nat_tests}
use Rattle.std.proofs.lemmas.List.{nil_from_length}
use Rattle.line_streams.proofs.StreamLemmas.{last_took, no_last}
use Rattle.line_streams.proofs.streams.end.Goals as goal

pub returns-then-is_empty : goal.returns-then-is_empty
returns-then-is_empty g c begun whole holds =
    let empty : c.args.held.now ≡ [] = sym c.as_slice-line.ensures ∙ nil_from_length _ (grind (arith, nat_tests, c.if-is_empty.ensures)) in
    no_last g.D.LineDesk.tells begun c.args.held.now _ _ holds empty

pub returns : goal.returns
returns g c begun whole holds =
    let some : 0 < length c.args.held.now = rw (← c.as_slice-line.ensures) (grind (arith, nat_tests, c.if-is_empty.ensures)) in
    last_took g.D.LineDesk.tells c.answer_line.result g.met.D.LineDesk.long_alike begun c.args.held.now _ _ _ _ _ whole holds some c.as_slice-line.ensures c.answer_line.ensures
