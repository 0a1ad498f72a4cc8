use Rattle.std.proofs.Common.{ap}
use Rattle.feature_store.specs.Blocks.{Listing}
use Rattle.feature_store.proofs.entries.Entries.copy_rows.Goals as goal

pub copy_blocks-requires : goal.copy_blocks-requires
copy_blocks-requires g c = rw (c.deref.ensures.value, ap (λ (listing : Listing). listing.items) c.self.view_is) (record { in_range = c.requires })
