use Rattle.std.proofs.Common.{refl, ap}
use Rattle.decision.specs.Folding.{FoldedData}
use Rattle.judging.proofs.ListingLemmas.{listed_shown, listed_sorted}
use Rattle.plain_world.proofs.worlds.PlainWorld.answer_from.Goals as goal

pub listed-requires-clause-reads : goal.listed-requires-clause-reads
listed-requires-clause-reads g c = ap (λ (f : FoldedData). f.action) c.reading-reading.ensures

pub listed-requires-clause-all : goal.listed-requires-clause-all
listed-requires-clause-all g c = rw (← c.self.view_is) at c.requires.all

pub new-requires : goal.new-requires
new-requires g c =
    let document = (c.self.inside.in_force).document in
    let told = rw (c.reading-reading.ensures) at c.in_ok-rows.ensures.listed in
    rw (c.in_ok-decider.ensures, c.shared.ensures) (record {
      sorted = listed_sorted document c.args.subject c.args.window c.self.inside.store c.in_ok-rows.rows.items told c.listed.ensures.sorted;
      shown = listed_shown document c.args.subject c.args.window c.self.inside.store c.in_ok-rows.rows.items told;
    })

pub returns-clause-told : goal.returns-clause-told
returns-clause-told g c =
    let told = rw (c.reading-reading.ensures) at c.in_ok-rows.ensures.listed in
    rw (← c.self.view_is, c.new.ensures, c.in_ok-decider.ensures, c.shared.ensures) (told, refl)
