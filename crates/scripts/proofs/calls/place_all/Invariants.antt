use Rattle.std.proofs.Common.{◌≡◌, ◌⊎◌, ℕ, List, Ok}
use Rattle.features.specs.declared.actors.Subject.{Subject}
use Rattle.features.specs.declared.rows.Change.{Change}
use Rattle.plain_world.specs.Admitting.{subject_at}
use Rattle.plain_world.specs.States.{WorldData}
use Rattle.scripts.specs.Causes.{WalksMore}
use Rattle.scripts.specs.Services.{Brings}
use Rattle.scripts.specs.UnderWay.{NoReadySeeksFirst, under}
use Rattle.scripts.proofs.calls.place_all.Given as goal

abbrev pub invariant-loop : goal.invariant-loop
invariant-loop g l =
    ((w : WorldData) (subject : Subject) (changes : List Change) → subject_at l.seat w ≡ Ok subject → l.fn.world.plain ≡ under l.number l.seat changes 0 w
    → (placed : ℕ) × (l.world.plain ≡ under l.number l.seat changes placed w) × NoReadySeeksFirst placed changes w × ((l.counter ≡ 0) ⊎ Brings changes))
    × WalksMore l.seat l.number l.counter l.fn.world l.world
