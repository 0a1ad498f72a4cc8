use Rattle.std.proofs.Common.{ℕ, length}
use Rattle.std.proofs.lemmas.List.{drop-replicate}
use Rattle.features.specs.declared.names.TheConstants.{NAME_LIMIT}
use Rattle.features.proofs.names.padded.Goals as goal

pub returns : goal.returns
returns c = rw (c.copy_from_slice.ensures.after, drop-replicate {X = ℕ} (length c.args.text.now) NAME_LIMIT 0)
