use Rattle.std.proofs.Common.{sym, ◌∙◌, ap}
use Rattle.state_lists.proofs.Adding.{adds_moves}
use Rattle.state_lists.proofs.seen_states.SeenStates.add.Goals as goal

pub compare_exchange-found-requires : goal.compare_exchange-found-requires
compare_exchange-found-requires g c =
    let word = c.args.list.now.is_its_word in
    let offer = c.plain-offer.ensures in
    let pen = c.no_pen-pen.ensures in
    let same = c.again-seen.ensures in
    let log = ap (λ s. s.log) same in
    let book = ap (λ s. s.book) same ∙ (c.self.invariant.1 ∙ sym (ap (λ w. w.book) word)) in (
      ap (λ w. w.tracked) word,
      book,
      pen.0 ∙ book,
      offer.0,
      rw (ap (λ w. w.key) word, pen.1, offer.1, offer.3)
          (adds_moves c.again-seen.result.log c.args.state.now c.self.inside.len (rw log (sym c.self.invariant.0))),
    )
