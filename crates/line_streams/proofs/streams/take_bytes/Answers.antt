use Rattle.std.proofs.Common.{◌+◌, ◌++◌, sym, ap, ◌∙◌, take, drop, append_assoc, append-nil, take-append-drop}
use Rattle.std.proofs.lemmas.List.{take_more, take_all}
use Rattle.line_streams.proofs.StreamLemmas.{begun_passed, stopped_more, passed_more}
use Rattle.line_streams.proofs.streams.take_bytes.Goals as goal

pub loop-byte-init : goal.loop-byte-init
loop-byte-init g c begun whole holds = rw (append-nil begun) (begun_passed g.D.LineDesk.tells begun _ _ _ whole holds)

pub returns-in_err-take_byte : goal.returns-in_err-take_byte
returns-in_err-take_byte g c begun whole holds =
    let i = c.loop-byte.byte-index in
    let bytes = c.args.bytes.now in
    let so_far = c.loop-byte.invariant begun whole holds in
    let parts = sym (take-append-drop (i + 1) bytes) ∙ ap (λ t. t ++ drop (i + 1) bytes) (take_more bytes i 0 c.loop-byte-test.true) ∙ append_assoc (take i bytes) _ (drop (i + 1) bytes) in
    stopped_more g.D.LineDesk.tells c.from_residual.result _ c.from_residual.ensures.1 begun (take i bytes) _ (drop (i + 1) bytes) bytes _ _ _ _ _ _ _ _ parts so_far (c.in_err-take_byte.ensures so_far.begun so_far.open_line so_far.holds)

pub loop-byte-preserved : goal.loop-byte-preserved
loop-byte-preserved g c begun whole holds =
    let i = c.loop-byte.byte-index in
    let bytes = c.args.bytes.now in
    let so_far = c.loop-byte.invariant begun whole holds in
    passed_more g.D.LineDesk.tells begun (take i bytes) _ (take (i + 1) bytes) _ _ _ _ _ _ _ _ (take_more bytes i 0 c.loop-byte-test.true) so_far (c.in_ok-take_byte.ensures so_far.begun so_far.open_line so_far.holds)

pub returns : goal.returns
returns g c begun whole holds =
    let all = take_all c.loop-byte.byte-index c.args.bytes.now c.loop-byte-test.false in
    rw all at (c.loop-byte.invariant begun whole holds)
