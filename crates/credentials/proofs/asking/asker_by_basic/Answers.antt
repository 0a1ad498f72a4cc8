use Rattle.std.proofs.Common.{refl}
use Rattle.credentials.proofs.DecodingLemmas.{decoded, undecoded}
use Rattle.credentials.proofs.asking.asker_by_basic.Goals as goal

pub returns-in_default : goal.returns-in_default
returns-in_default c = rw (undecoded c.args.token.now c.in_default.field-0 c.in_default.ensures.err) refl

pub returns : goal.returns
returns c = rw (decoded c.args.token.now _ c.in-Ok.ensures.ok.0) c.asker_at.ensures
