use Rattle.std.proofs.Common.{[]}
use Rattle.world.proofs.TendedLemmas.{tended_anew}
use Rattle.world.proofs.WorldLemmas.{world_first}
use Rattle.world.proofs.worlds.World.open_at.Goals as goal

pub invariant_of-result : goal.invariant_of-result
invariant_of-result g c =
    rw c.in-Ok-new.ensures
    (tended_anew c.in_ok-plain.plain c.in-Ok.index [] c.none.result
    (world_first c.args.subjects (record { document = c.args.document; edition = c.args.starts.edition }) c.args.starts c.args.limits c.in_ok-plain.plain c.in-Ok.index c.in_ok-plain.ensures.ok c.in-Ok.ensures) c.none.ensures)
