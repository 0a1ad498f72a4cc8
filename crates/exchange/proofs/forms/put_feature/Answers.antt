use Rattle.exchange.specs.Documents.{between_text, own_text}
use Rattle.exchange.proofs.WritingLemmas.{took_first, took_then}
use Rattle.exchange.proofs.forms.put_feature.Goals as goal

pub returns-in_err-put_between : goal.returns-in_err-put_between
returns-in_err-put_between g c =
    took_first c.from_residual.result c.from_residual.ensures.0 _ _ (between_text c.args.form c.args.is_first) (own_text c.args.form c.args.grid.now c.args.feature.now) c.in_err-put_between.ensures

pub returns : goal.returns
returns g c =
    took_then c.put_own.result _ _ _ (between_text c.args.form c.args.is_first) (own_text c.args.form c.args.grid.now c.args.feature.now) c.in_ok-put_between.ensures c.put_own.ensures
