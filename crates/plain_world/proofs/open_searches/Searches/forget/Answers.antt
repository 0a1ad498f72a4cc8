use Rattle.std.proofs.Common.{rules, ◌==◌, not}
use Rattle.std.proofs.lemmas.Fn.{filter_same}
use Rattle.plain_world.proofs.open_searches.Searches.forget.Goals as goal

pub returns : goal.returns
returns g c = rw (← c.self.view_is) (filter_same _ (λ s. not (s.number == c.args.number)) _ (λ x b f' k. search rules) _ _ c.retain.ensures.filtered)
