use Rattle.node_arena.proofs.ArenaLaws.{IsGiven-with_value}
use Rattle.node_arena.proofs.Arena.insert.Goals as goal

pub returns-then-self-gt0-clause-ok : goal.returns-then-self-gt0-clause-ok
returns-then-self-gt0-clause-ok g c =
    rw c.fill.ensures.filled (IsGiven-with_value c.args.self.now c.fill.result c.args.value c.fill.ensures.was_free c.fill.ensures.within c.fill.ensures.begun)
