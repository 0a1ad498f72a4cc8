use Rattle.search_tree.proofs.CaseLemmas.{begins_here}
use Rattle.search_tree.proofs.tree.Tree.room_behind.Goals as goal

pub returns-in-Some-clause-first : goal.returns-in-Some-clause-first
returns-in-Some-clause-first g c = λ change comes. begins_here g.C.KeyClass.class c.args.self.now change c.args.left c.in-Some.entry c.in-Some.ensures.due c.in-Some.ensures.left comes
