use Rattle.std.proofs.Common.{List, length, refl, sym, ◌∙◌, ap, subst, arith}
use Rattle.std.specs.Arc.{arc_value}
use Rattle.decision.specs.Deciders.{DeciderData}
use Rattle.published_policies.specs.Lists.{IsNextEdition}
use Rattle.published_policies.proofs.GrowingLemmas.{adds, was_added}
use Rattle.published_policies.proofs.ListLemmas.{added, one_more}
use Rattle.published_policies.proofs.seen_lists.SeenList.add.Goals as goal

pub compare_exchange-found-requires : goal.compare_exchange-found-requires
compare_exchange-found-requires c =
    let word = c.requires.word in
    let offer = c.plain-offer.ensures in
    let pen = c.no_pen-pen.ensures in
    let same = c.again-seen.ensures in
    let edition = (arc_value c.args.decider.now).edition in
    let log = ap (λ s. s.log) same in
    let book = ap (λ s. s.book) same ∙ ap (λ list. list.book) c.self.view_is ∙ sym (ap (λ w. w.book) word) in
    let here = rw (← c.self.view_is) at c.requires.next in
    let next : IsNextEdition c.again-seen.result.log edition = subst (λ (l : List DeciderData). IsNextEdition l edition) (sym log) here in (
      ap (λ w. w.tracked) word,
      book,
      pen.0 ∙ book,
      offer.0,
      rw (ap (λ w. w.key) word, pen.1, offer.1, offer.3)
          (adds c.again-seen.result.log (arc_value c.args.decider.now) c.self.inside.len _ (rw log (sym c.self.invariant.0)) (omega arith) next),
    )

pub overflow_add-longer : goal.overflow_add-longer
overflow_add-longer c =
    let edition = c.edition-edition.ensures ∙ ap (λ d. d.edition) c.deref.ensures in
    let next = rw (← c.self.view_is) at c.requires.next in
    let room = one_more c.self.inside.seen.log c.self.inside.len _ c.self.invariant.0 c.self.invariant.2 next in
    omega (arith, room, edition)

pub invariant_of-self : goal.invariant_of-self
invariant_of-self c =
    let same = c.again-seen.ensures in
    let offer = c.plain-offer.ensures in
    let step = was_added _ _ c.compare_exchange-found.result c.self.inside.len _ refl c.if-found-self.false c.compare_exchange-found.ensures.7 in
    let edition = c.edition-edition.ensures ∙ ap (λ d. d.edition) c.deref.ensures ∙ sym (ap (λ d. d.edition) offer.1) in
    let count = c.self.invariant.0 ∙ sym (ap (λ s. length s.log) same) in
    let longer = added c.again-seen.result.log c.compare_exchange-found.new.seen.log c.plain-offer.result.ask c.self.inside.len c.edition-edition.result count edition step.0 in
    (longer.0, longer.1, step.1)
