use Rattle.std.proofs.Common.{sym, ◌∙◌}
use Rattle.std.proofs.lemmas.Bool.{false≢true}
use Rattle.search_tree.proofs.DueLemmas.{awaited}
use Rattle.search_tree.proofs.NeedLemmas.{may_free}
use Rattle.search_tree.proofs.tree.Tree.first_due.Goals as goal

pub returns-then-all_begun_since-clause-may : goal.returns-then-all_begun_since-clause-may
returns-then-all_begun_since-clause-may g c = rw (← c.self.view_is) (may_free _ _ c.self.invariant c.args.at c.in-Some.stamp (sym c.in-Some.ensures) (c.all_begun_since.ensures.0 c.if-all_begun_since.true))

pub returns-else-all_begun_since-clause-first : goal.returns-else-all_begun_since-clause-first
returns-else-all_begun_since-clause-first g c = λ live. rw (← c.self.view_is) (awaited _ _ c.self.invariant _ c.args.at c.in-Some.stamp (sym c.in-Some.ensures) (λ all. absurd (false≢true (sym c.if-all_begun_since.false ∙ c.all_begun_since.ensures.1 all))))
