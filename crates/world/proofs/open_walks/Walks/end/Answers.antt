use Rattle.std.proofs.Common.{rules, ◌==◌, not}
use Rattle.std.proofs.lemmas.Fn.{filter_same}
use Rattle.world.proofs.open_walks.Walks.end.Goals as goal

pub returns : goal.returns
returns g c = rw (← c.self.view_is) (filter_same _ (λ j. not (j.number == c.args.number)) _ (λ x b f' k. search rules) _ _ c.retain.ensures.filtered)
