use Rattle.std.proofs.Common.{refl, inl, inr, ◌∙◌}
use Rattle.scripts.specs.Causes.{SearchesIn}
use Rattle.line_streams.proofs.LeavingLemmas.{left_by}
use Rattle.scripts.proofs.SearchLemmas.{search_answered, search_refused}
use Rattle.scripts.proofs.calls.search.Goals as goal

pub returns-in-Err-clause-searches : goal.returns-in-Err-clause-searches
returns-in-Err-clause-searches g c still =
    search_refused c.args.seat c.args.window c.args.world.now.plain c.open_search.new.self.plain c.in_ok-number.number still c.in_ok-number.ensures.happens c.seek.new.world.plain c.drop_search.new.self.plain c.in-Err.fault _ c.in-Err.ensures.seeks c.drop_search.ensures.happens

pub returns-in-Ok-clause-searches : goal.returns-in-Ok-clause-searches
returns-in-Ok-clause-searches g c still =
    search_answered c.args.seat c.args.window c.args.world.now.plain c.open_search.new.self.plain c.in_ok-number.number still c.in_ok-number.ensures.happens c.seek.new.world.plain c.in-Ok.answer c.in-Ok.ensures.seeks

pub returns-in-Err-clause-index : goal.returns-in-Err-clause-index
returns-in-Err-clause-index g c =
    inr (
      c.in_ok-number.number,
      c.open_search.new.self,
      c.in_ok-number.ensures.happens,
      c.in_ok-number.ensures.index,
      c.seek.new.world.index,
      c.in-Err.ensures.index,
      (c.drop_search.result, c.drop_search.ensures.index),
      c.drop_search.ensures.walks ∙ c.seek.ensures.walks ∙ c.open_search.ensures.walks,
    )

pub returns-in-Ok-clause-index : goal.returns-in-Ok-clause-index
returns-in-Ok-clause-index g c =
    inr (c.in_ok-number.number, c.open_search.new.self, c.in_ok-number.ensures.happens, c.in_ok-number.ensures.index, c.seek.new.world.index, c.in-Ok.ensures.index, refl, c.seek.ensures.walks ∙ c.open_search.ensures.walks)

pub returns-in_err-number-clause-index : goal.returns-in_err-number-clause-index
returns-in_err-number-clause-index g c =
    let fault = c.in_err-number.field-0.0 in
    left_by c.from_residual.result fault (λ r. SearchesIn c.args.seat c.args.window c.args.world.now c.open_search.new.self r) c.from_residual.ensures.1
    (inl (fault, refl, c.in_err-number.ensures.happens, (c.in_err-number.ensures.index, c.open_search.ensures.walks)))
