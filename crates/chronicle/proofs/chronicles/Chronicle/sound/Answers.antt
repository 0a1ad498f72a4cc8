use Rattle.std.proofs.Common.{map, subst}
use Rattle.std.specs.Arc.{arc_value}
use Rattle.chronicle.specs.Chronicles.{ChronicleData, IsSoundChronicle}
use Rattle.chronicle.proofs.EventLemmas.{sound_seen}
use Rattle.chronicle.proofs.chronicles.Chronicle.sound.Goals as goal

pub returns : goal.returns
returns g c =
    subst (λ (d : ChronicleData). IsSoundChronicle d) c.self.view_is
    (sound_seen c.self.inside.opened.value.plain.base (map arc_value c.self.inside.rolled.items) c.self.inside.world.plain c.self.invariant.leads
    c.fact_sound.ensures.sound c.fact_sound.ensures.ordered.sorted)
