use Rattle.std.proofs.Common.{sym}
use Rattle.std.specs.Arc.{arc_value}
use Rattle.plain_world.proofs.AnsweringLemmas.{keeps_answered, takes_in}
use Rattle.plain_world.proofs.worlds.PlainWorld.put_down.Goals as goal
use Rattle.plain_world.proofs.worlds.PlainWorld.put_down.Goals.{in-Ok-add, in-Err-add}

pub invariant_of-self : goal.invariant_of-self
invariant_of-self g c = elim c.match-add.branch [
  | in-Ok-add w ↦ (
      let legal = rw (← c.self.view_is) at c.requires in
      let below = rw (← c.self.view_is) at c.in-Ok.ensures.below in
      rw (w.in-Ok-add.ensures.ok) (keeps_answered _ _ _ _ _ (arc_value c.args.entry) c.self.invariant below legal))
  | in-Err-add w ↦ rw (w.in-Err-add.ensures.err) c.self.invariant
]

pub returns-after-add-clause-ok : goal.returns-after-add-clause-ok
returns-after-add-clause-ok g c = elim c.match-add.branch [
  | in-Ok-add w ↦ (
      let legal = rw (← c.self.view_is) at c.requires in
      let room = rw (← c.self.view_is) at c.in-Ok.ensures.value in
      rw (w.result-is, ← c.self.view_is, w.in-Ok-add.ensures.ok, w.in-Ok-add.ensures.first) (takes_in (arc_value c.args.entry) _ (sym room) legal))
  | in-Err-add w ↦ rw (w.result-is) tt
]
