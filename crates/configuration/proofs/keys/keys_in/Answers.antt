use Rattle.std.proofs.Common.{refl}
use Rattle.configuration.specs.declared.keys.TheConstants.{KEY_LIMIT}
use Rattle.configuration.proofs.ConfigLemmas.{few, too_many}
use Rattle.configuration.proofs.keys.keys_in.Goals as goal

pub returns-then-items-gt-KEY_LIMIT : goal.returns-then-items-gt-KEY_LIMIT
returns-then-items-gt-KEY_LIMIT g c = rw (too_many c.args.items.now KEY_LIMIT c.if-items-gt-KEY_LIMIT.true) refl

pub returns : goal.returns
returns g c = rw (few c.args.items.now KEY_LIMIT c.if-items-gt-KEY_LIMIT.false) c.keys_of.ensures
