use Rattle.std.proofs.Common.{subst, ap}
use Rattle.feature_store.specs.Places.{IsAt}
use Rattle.feature_store.specs.Blocks.{Listing, ids_in}
use Rattle.feature_store.proofs.entries.Entries.insert.Goals as goal

pub insert-requires-clause-absent : goal.insert-requires-clause-absent
insert-requires-clause-absent g c = λ i is. c.requires.absent i (subst (λ items. IsAt c.args.entry.id (ids_in items) i) (ap (λ (listing : Listing). listing.items) c.self.view_is) is)
