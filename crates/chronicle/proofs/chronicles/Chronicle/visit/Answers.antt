use Rattle.std.proofs.Common.{map, ◌∙◌}
use Rattle.std.specs.Arc.{arc_value}
use Rattle.plain_world.specs.Events.{VisitNext, Visited, reply_of}
use Rattle.plain_world.proofs.RecordLemmas.{adds_alone}
use Rattle.chronicle.proofs.EventLemmas.{stands}
use Rattle.chronicle.proofs.chronicles.Chronicle.visit.Goals as goal

pub invariant_of-self : goal.invariant_of-self
invariant_of-self g c =
    let event = VisitNext c.args.seat c.args.number in
    let old = c.self.inside.world.plain in
    let new = c.visit-visited.new.self.plain in
    let reply = reply_of Visited c.visit-visited.result in
    let happens = c.visit-visited.ensures.happens in
    (stands event old new reply c.self.inside.opened.value.plain.base (map arc_value c.self.inside.rolled.items) c.self.inside.changed tt happens
    (adds_alone event old new reply happens) c.self.invariant).1

pub returns : goal.returns
returns g c =
    let event = VisitNext c.args.seat c.args.number in
    let old = c.self.inside.world.plain in
    let new = c.visit-visited.new.self.plain in
    let reply = reply_of Visited c.visit-visited.result in
    let happens = c.visit-visited.ensures.happens in
    (stands event old new reply c.self.inside.opened.value.plain.base (map arc_value c.self.inside.rolled.items) c.self.inside.changed tt happens
    (adds_alone event old new reply happens) c.self.invariant).0
    ∙ c.self.view_is
