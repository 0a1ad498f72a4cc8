use Rattle.exchange.proofs.WritingLemmas.{took_first, took_then}
use Rattle.exchange.proofs.forms.write_both.Goals as goal

pub returns-in_err-write_whole : goal.returns-in_err-write_whole
returns-in_err-write_whole g c = took_first c.from_residual.result c.from_residual.ensures.0 _ _ c.args.first.now c.args.second.now c.in_err-write_whole.ensures

pub returns : goal.returns
returns g c = took_then c.write_whole-2.result _ _ _ c.args.first.now c.args.second.now c.in_ok-write_whole.ensures c.write_whole-2.ensures
