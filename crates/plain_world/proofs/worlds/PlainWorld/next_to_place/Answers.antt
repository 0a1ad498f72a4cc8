use Rattle.plain_world.proofs.TransactionLemmas.{may_place_in}
use Rattle.plain_world.proofs.worlds.PlainWorld.next_to_place.Goals as goal

pub returns-clause-may : goal.returns-clause-may
returns-clause-may g c = λ some. may_place_in c.args.number c.args.self.now.transactions c.in_ok-transaction.transaction.now c.in_ok-transaction.ensures.is (c.next.ensures.few some)
