use Rattle.std.proofs.Common.{refl}
use Rattle.std.proofs.lemmas.Fn.{says_at}
use Rattle.predicate_locks.proofs.running.meets.Goals as goal

pub returns-then-holds-clause-met : goal.returns-then-holds-clause-met
returns-then-holds-clause-met g c = λ yes. (c.if-holds.ensures.contains.0 refl, says_at g.F.Fn c.accepts.ensures yes)

pub returns-then-holds-clause-not_met : goal.returns-then-holds-clause-not_met
returns-then-holds-clause-not_met g c = λ no held. says_at g.F.Fn c.accepts.ensures no
