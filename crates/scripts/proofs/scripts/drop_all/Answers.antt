use Rattle.std.proofs.Common.{◌<◌, length, subst, arith}
use Rattle.scripts.specs.Indexed.{Shuts}
use Rattle.scripts.proofs.ScriptLemmas.{ends_more}
use Rattle.scripts.proofs.scripts.drop_all.Goals as goal

pub loop-session-preserved : goal.loop-session-preserved
loop-session-preserved g c = record {
  shuts = ends_more Shuts c.args.sessions.now c.loop-session.session-index c.session-item.result _ _ _ c.loop-session-test.true c.session-item.is c.loop-session.invariant.shuts c.drop_search.ensures;
  none = λ none. (let within = subst (λ sessions. c.loop-session.session-index < length sessions) none c.loop-session-test.true in absurd (omega (arith, within)));
}
