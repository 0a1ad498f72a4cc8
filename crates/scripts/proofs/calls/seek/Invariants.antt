use Rattle.std.proofs.Common.{◌≡◌, ◌⊎◌}
use Rattle.tree_answers.specs.declared.answers.Visit.TheVariants as visits
use Rattle.plain_world.specs.Admitting.{may_go_on}
use Rattle.plain_world.specs.Events.{Happens, VisitNext, Visited}
use Rattle.scripts.specs.Stepping.{SeesMore}
use Rattle.scripts.proofs.calls.seek.Given as goal

abbrev pub invariant-loop : goal.invariant-loop
invariant-loop g l =
    (l.world.plain ≡ l.fn.world.plain)
    × ((l.counter ≡ 0) ⊎ Happens (VisitNext l.seat l.number) l.fn.world.plain l.fn.world.plain (Visited visits.More))
    × SeesMore (may_go_on l.seat l.number l.fn.world.plain) l.number l.counter l.fn.world.index l.world.index
    × (l.world.walks ≡ l.fn.world.walks)
