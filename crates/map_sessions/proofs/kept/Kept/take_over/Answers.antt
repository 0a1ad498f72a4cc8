use Rattle.std.proofs.Common.{ap, ◌∙◌}
use Rattle.map_sessions.specs.Keeping.{trimmed}
use Rattle.map_sessions.proofs.KeptLemmas.{takes_over}
use Rattle.map_sessions.proofs.kept.Kept.take_over.Goals as goal

pub returns-clause-ok : goal.returns-clause-ok
returns-clause-ok g c =
    takes_over _ c.pop.new.self.items _ _ c.in-Some.newest c.in-Some.ensures.items (c.trim.ensures ∙ ap trimmed c.in_ok-try_push.ensures.items)
