use Rattle.std.proofs.Common.{refl}
use Rattle.plain_world.proofs.SoundLemmas.{keeps_added}
use Rattle.plain_world.proofs.worlds.PlainWorld.put_in_force.Goals as goal

pub invariant_of-self-2 : goal.invariant_of-self-2
invariant_of-self-2 g c =
    let steward = rw (← c.self.view_is) at c.requires.steward in
    let below = rw (← c.self.view_is) at c.requires.below in
    let next = rw (← c.self.view_is) at c.requires.next in
    rw (c.replace.ensures, c.put.ensures.records, c.in_ok-entry.ensures.records, c.in_ok-entry.ensures.entry, c.new-told.ensures, c.edition-edition.ensures, c.deref.ensures, c.in_ok-kept.ensures)
    (keeps_added _ _ _ _ _ _ c.self.invariant below (steward, next, refl))
