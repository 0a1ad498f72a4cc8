use Rattle.plain_world.proofs.SoundLemmas.{keeps_seated}
use Rattle.plain_world.proofs.worlds.PlainWorld.take_seat.Goals as goal

pub invariant_of-self-2 : goal.invariant_of-self-2
invariant_of-self-2 g c = rw (c.push_reserved.ensures.items, c.make_room.ensures.items) (keeps_seated _ _ _ _ _ _ c.self.invariant (rw (← c.self.view_is) at c.in_ok-subject.ensures.few))
