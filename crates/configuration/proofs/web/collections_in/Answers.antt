use Rattle.std.proofs.Common.{refl}
use Rattle.configuration.specs.declared.web.TheConstants.{COLLECTION_LIMIT}
use Rattle.configuration.proofs.ConfigLemmas.{few, too_many}
use Rattle.configuration.proofs.web.collections_in.Goals as goal

pub returns-then-items-gt-COLLECTION_LIMIT : goal.returns-then-items-gt-COLLECTION_LIMIT
returns-then-items-gt-COLLECTION_LIMIT g c = rw (too_many c.args.items.now COLLECTION_LIMIT c.if-items-gt-COLLECTION_LIMIT.true) refl

pub returns : goal.returns
returns g c = rw (few c.args.items.now COLLECTION_LIMIT c.if-items-gt-COLLECTION_LIMIT.false) c.collections_of.ensures
