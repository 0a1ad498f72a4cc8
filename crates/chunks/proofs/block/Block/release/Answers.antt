use Rattle.std.proofs.Common.{replicate, None, ap, ◌∙◌}
use Rattle.chunks.proofs.Emptied.{all_none}
use Rattle.chunks.proofs.block.Block.release.Goals as goal

pub release-requires-clause-empty : goal.release-requires-clause-empty
release-requires-clause-empty g c =
    all_none c.self.inside.row.items (rw (← c.self.view_is) at c.requires.empty) ∙ ap (λ n. replicate n None) (rw (← c.self.view_is) at c.requires.size)
