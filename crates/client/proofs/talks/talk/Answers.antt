use Rattle.std.proofs.Common.{[]}
use Rattle.line_streams.proofs.LeavingLemmas.{left_by}
use Rattle.client.specs.Ends.{Talks}
use Rattle.client.specs.Held.{held}
use Rattle.client.specs.declared.faults.TalkFault.TheVariants.{Output}
use Rattle.client.proofs.TalkLemmas.{ends_by_on, ends_well_on, fault_from_none, fault_unwritten, well_from_none, well_unwritten, written_by}
use Rattle.client.proofs.talks.talk.Goals as goal

pub returns-in_err-flushed-in-Ok : goal.returns-in_err-flushed-in-Ok
returns-in_err-flushed-in-Ok g c =
    let part = c.in_err-flushed-in-Ok.ensures in
    let failed = c.in_err-flushed-in-Ok.field-0.0 in
    left_by c.from_residual.result (Output failed)
    (λ r. Talks r (g.I.Read.remaining c.args.input.now) (g.I.Read.remaining c.take_turns.new.input) (g.P.Read.remaining c.args.peer_in.now) (g.P.Read.remaining c.take_turns.new.peer_in) (g.Q.Write.contents c.args.peer_out.now) (g.Q.Write.contents c.take_turns.new.peer_out) (g.W.Write.contents c.args.output.now) (g.W.Write.contents c.write_rest.new.output))
    c.from_residual.ensures.1 (
      held c.take_turns.new.asked,
      held c.take_turns.new.told,
      tt,
      fault_from_none (Output failed) (held c.none-asked.result) (held c.none-told.result) (g.I.Read.remaining c.args.input.now) (g.P.Read.remaining c.args.peer_in.now) (g.Q.Write.contents c.args.peer_out.now) (g.W.Write.contents c.args.output.now) _ c.none-asked.ensures c.none-told.ensures
          (well_unwritten (held c.none-asked.result) (held c.none-told.result) (held c.take_turns.new.asked) (held c.take_turns.new.told) part.0 part.1 (g.I.Read.remaining c.args.input.now) (g.I.Read.remaining c.take_turns.new.input) (g.P.Read.remaining c.args.peer_in.now) (g.P.Read.remaining c.take_turns.new.peer_in) (g.Q.Write.contents c.args.peer_out.now) (g.Q.Write.contents c.take_turns.new.peer_out) (g.W.Write.contents c.args.output.now) (g.W.Write.contents c.take_turns.new.output) (g.W.Write.contents c.write_rest.new.output) failed part.2 part.3 c.in-Ok.end c.in-Ok.ensures),
    )

pub returns-in-Ok : goal.returns-in-Ok
returns-in-Ok g c = (
  held c.take_turns.new.asked,
  well_from_none c.in-Ok.end (held c.none-asked.result) (held c.none-told.result) (g.I.Read.remaining c.args.input.now) (g.P.Read.remaining c.args.peer_in.now) (g.Q.Write.contents c.args.peer_out.now) (g.W.Write.contents c.args.output.now) _ c.none-asked.ensures c.none-told.ensures
      (ends_well_on (held c.none-asked.result) (held c.none-told.result) (held c.take_turns.new.asked) (held c.take_turns.new.told) (g.I.Read.remaining c.args.input.now) (g.I.Read.remaining c.take_turns.new.input) (g.P.Read.remaining c.args.peer_in.now) (g.P.Read.remaining c.take_turns.new.peer_in) (g.Q.Write.contents c.args.peer_out.now) (g.Q.Write.contents c.take_turns.new.peer_out) (g.W.Write.contents c.args.output.now) (g.W.Write.contents c.take_turns.new.output) (g.W.Write.contents c.write_rest.new.output) c.in_ok-flushed-in-Ok.ensures c.in-Ok.end c.in-Ok.ensures),
)

pub returns-in-Output : goal.returns-in-Output
returns-in-Output g c =
    (held c.take_turns.new.asked, held c.take_turns.new.told, tt, fault_from_none (Output c.in-Output.failed) (held c.none-asked.result) (held c.none-told.result) (g.I.Read.remaining c.args.input.now) (g.P.Read.remaining c.args.peer_in.now) (g.Q.Write.contents c.args.peer_out.now) (g.W.Write.contents c.args.output.now) _ c.none-asked.ensures c.none-told.ensures (rw c.in-Output.is at c.in-Err.ensures))

pub returns-in_err-write_rest-in_default : goal.returns-in_err-write_rest-in_default
returns-in_err-write_rest-in_default g c =
    let part = c.in_err-write_rest-in_default.ensures in
    let failed = c.in_err-write_rest-in_default.field-0.0 in
    left_by c.from_residual-in_err-write_rest-in_default.result (Output failed)
    (λ r. Talks r (g.I.Read.remaining c.args.input.now) (g.I.Read.remaining c.take_turns.new.input) (g.P.Read.remaining c.args.peer_in.now) (g.P.Read.remaining c.take_turns.new.peer_in) (g.Q.Write.contents c.args.peer_out.now) (g.Q.Write.contents c.take_turns.new.peer_out) (g.W.Write.contents c.args.output.now) (g.W.Write.contents c.write_rest-in_default.new.output))
    c.from_residual-in_err-write_rest-in_default.ensures.1 (
      held c.take_turns.new.asked,
      held c.take_turns.new.told,
      tt,
      fault_from_none (Output failed) (held c.none-asked.result) (held c.none-told.result) (g.I.Read.remaining c.args.input.now) (g.P.Read.remaining c.args.peer_in.now) (g.Q.Write.contents c.args.peer_out.now) (g.W.Write.contents c.args.output.now) _ c.none-asked.ensures c.none-told.ensures
          (fault_unwritten (held c.none-asked.result) (held c.none-told.result) (held c.take_turns.new.asked) (held c.take_turns.new.told) part.0 part.1 (g.I.Read.remaining c.args.input.now) (g.I.Read.remaining c.take_turns.new.input) (g.P.Read.remaining c.args.peer_in.now) (g.P.Read.remaining c.take_turns.new.peer_in) (g.Q.Write.contents c.args.peer_out.now) (g.Q.Write.contents c.take_turns.new.peer_out) (g.W.Write.contents c.args.output.now) (g.W.Write.contents c.take_turns.new.output) (g.W.Write.contents c.write_rest-in_default.new.output) failed part.2 part.3 c.in-Err.fault c.in_default.not-Output c.in-Err.ensures),
    )

pub returns : goal.returns
returns g c = (
  held c.take_turns.new.asked,
  [],
  written_by c.in-Err.fault,
  fault_from_none c.in-Err.fault (held c.none-asked.result) (held c.none-told.result) (g.I.Read.remaining c.args.input.now) (g.P.Read.remaining c.args.peer_in.now) (g.Q.Write.contents c.args.peer_out.now) (g.W.Write.contents c.args.output.now) _ c.none-asked.ensures c.none-told.ensures
      (ends_by_on (held c.none-asked.result) (held c.none-told.result) (held c.take_turns.new.asked) (held c.take_turns.new.told) (g.I.Read.remaining c.args.input.now) (g.I.Read.remaining c.take_turns.new.input) (g.P.Read.remaining c.args.peer_in.now) (g.P.Read.remaining c.take_turns.new.peer_in) (g.Q.Write.contents c.args.peer_out.now) (g.Q.Write.contents c.take_turns.new.peer_out) (g.W.Write.contents c.args.output.now) (g.W.Write.contents c.take_turns.new.output) (g.W.Write.contents c.write_rest-in_default.new.output) c.in_ok-write_rest-in_default.ensures c.in-Err.fault c.in_default.not-Output c.in-Err.ensures),
)
