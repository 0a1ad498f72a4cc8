use Rattle.std.proofs.Common.{◌≡◌, [], Ok, take}
use Rattle.features.specs.declared.actors.Subject.{Subject}
use Rattle.plain_world.specs.Admitting.{subject_at}
use Rattle.plain_world.specs.States.{WorldData}
use Rattle.scripts.specs.Causes.{StayBeside}
use Rattle.scripts.specs.UnderWay.{under}
use Rattle.scripts.proofs.calls.stage_all.Given as goal

abbrev pub invariant-loop-change : goal.invariant-loop-change
invariant-loop-change g l =
    ((w : WorldData) (subject : Subject) → subject_at l.seat w ≡ Ok subject → l.fn.world.plain ≡ under l.number l.seat [] 0 w
    → l.world.plain ≡ under l.number l.seat (take l.change-index l.changes) 0 w)
    × StayBeside l.fn.world l.world
