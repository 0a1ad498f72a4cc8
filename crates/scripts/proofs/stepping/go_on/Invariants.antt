use Rattle.std.proofs.Common.{◌≡◌}
use Rattle.plain_world.specs.Admitting.{may_go_on}
use Rattle.scripts.specs.Stepping.{FindsMore, SeesMore}
use Rattle.scripts.proofs.stepping.go_on.Given as goal

abbrev pub invariant-loop : goal.invariant-loop
invariant-loop g l =
    FindsMore l.seat l.number l.counter l.fn.world.plain l.world.plain
    × SeesMore (may_go_on l.seat l.number l.fn.world.plain) l.number l.counter l.fn.world.index l.world.index
    × (l.world.walks ≡ l.fn.world.walks)
