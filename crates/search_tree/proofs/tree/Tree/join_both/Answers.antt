use Rattle.search_tree.proofs.DescentLemmas.{both_joined, list_set, second_set, second_sound}
use Rattle.search_tree.proofs.tree.Tree.join_both.Goals as goal

pub invariant_of-self : goal.invariant_of-self
invariant_of-self g c =
    let laws = g.met.C.KeyClass.laws in
    let may = rw (← c.self.view_is) at c.requires.may in
    let leads = rw (← c.self.view_is) at c.requires.leads in
    let one = c.set_attached.new.nodes in
    let two = c.set_attached-2.new.nodes in
    let first = list_set _ c.args.searches.now _ one c.args.right _ c.in_ok-of_right.ensures c.set_attached.ensures in
    let second = second_set _ _ laws c.self.invariant c.args.child c.args.right c.args.searches.now may leads one two first _ c.in_ok-of_child.ensures c.set_attached-2.ensures in
    second_sound _ _ laws c.self.invariant c.args.child c.args.right c.args.searches.now may leads one two first second

pub returns-clause-ok : goal.returns-clause-ok
returns-clause-ok g c =
    let laws = g.met.C.KeyClass.laws in
    let may = rw (← c.self.view_is) at c.requires.may in
    let leads = rw (← c.self.view_is) at c.requires.leads in
    let one = c.set_attached.new.nodes in
    let two = c.set_attached-2.new.nodes in
    let first = list_set _ c.args.searches.now _ one c.args.right _ c.in_ok-of_right.ensures c.set_attached.ensures in
    let second = second_set _ _ laws c.self.invariant c.args.child c.args.right c.args.searches.now may leads one two first _ c.in_ok-of_child.ensures c.set_attached-2.ensures in
    rw (← c.self.view_is) (both_joined _ _ laws c.self.invariant c.args.child c.args.right c.args.searches.now may leads one two first second)
