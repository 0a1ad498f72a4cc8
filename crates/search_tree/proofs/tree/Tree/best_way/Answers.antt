use Rattle.std.proofs.Common.{sym}
use Rattle.search_tree.proofs.NextLemmas.{has_keys, inner_at, is_way_down, may_go_down}
use Rattle.search_tree.proofs.tree.Tree.best_way.Goals as goal

pub best_entry-place-requires : goal.best_entry-place-requires
best_entry-place-requires g c =
    let is = sym c.in-Some.ensures.value in
    has_keys _ _ c.self.invariant c.args.at c.in-Some.node.now is (inner_at _ _ c.self.invariant c.args.at c.in-Some.node.now is (rw (← c.self.view_is) at c.requires.inner)) c.keys-keys.result.now c.keys-keys.ensures.value

pub returns-clause-may : goal.returns-clause-may
returns-clause-may g c =
    let is = sym c.in-Some.ensures.value in
    rw (← c.self.view_is) (may_go_down _ _ c.self.invariant c.args.at c.args.key (rw (← c.self.view_is) at c.requires.here) c.in-Some.node.now is (inner_at _ _ c.self.invariant c.args.at c.in-Some.node.now is (rw (← c.self.view_is) at c.requires.inner)) c.keys-keys.result.now c.children.result.now c.best_entry-place.result c.index-keys-place.result _ c.keys-keys.ensures.value c.children.ensures.value c.best_entry-place.ensures.within c.index-keys-place.is)

pub returns-clause-best : goal.returns-clause-best
returns-clause-best g c =
    let is = sym c.in-Some.ensures.value in
    let here = rw (← c.self.view_is) at c.requires.here in
    let inner = inner_at _ _ c.self.invariant c.args.at c.in-Some.node.now is (rw (← c.self.view_is) at c.requires.inner) in
    rw (← c.self.view_is) (is_way_down _ _ c.self.invariant g.C.KeyClass.growth g.C.KeyClass.second_growth c.args.at c.args.key here c.in-Some.node.now is c.best_entry-place.result c.index-keys-place.result _ (may_go_down _ _ c.self.invariant c.args.at c.args.key here c.in-Some.node.now is inner c.keys-keys.result.now c.children.result.now c.best_entry-place.result c.index-keys-place.result _ c.keys-keys.ensures.value c.children.ensures.value c.best_entry-place.ensures.within c.index-keys-place.is) c.keys-keys.result.now c.keys-keys.ensures.value c.best_entry-place.ensures)
