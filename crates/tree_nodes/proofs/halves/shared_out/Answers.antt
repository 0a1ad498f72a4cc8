use Rattle.std.proofs.Common.{subst, IfOk}
use Rattle.tree_theory.specs.Changes.{IsHalved}
use Rattle.tree_nodes.specs.Bodies.{plain_body}
use Rattle.tree_nodes.specs.Halvings.{IsPickedOut}
use Rattle.tree_nodes.proofs.Sharing.{whole_inner}
use Rattle.tree_nodes.proofs.halves.shared_out.Goals as goal

pub returns-else-is_leaf-clause-halved : goal.returns-else-is_leaf-clause-halved
returns-else-is_leaf-clause-halved g c =
    let inner = c.is_leaf.ensures.inner c.if-is_leaf.false in
    subst (λ body. IfOk c.halves_of_entries.result (λ made. IsHalved body (plain_body made.left) (plain_body made.right))) (whole_inner c.args.node.now.body inner.0 _ _ inner.1 c.keys.ensures.value c.children.ensures.value) c.halves_of_entries.ensures.halved

pub returns-else-is_leaf-clause-picked : goal.returns-else-is_leaf-clause-picked
returns-else-is_leaf-clause-picked g c =
    let inner = c.is_leaf.ensures.inner c.if-is_leaf.false in
    subst (λ body. IfOk c.halves_of_entries.result (λ made. IsPickedOut g.C.KeyClass.class.key_of g.C.KeyClass.picks body (plain_body made.left) (plain_body made.right))) (whole_inner c.args.node.now.body inner.0 _ _ inner.1 c.keys.ensures.value c.children.ensures.value) c.halves_of_entries.ensures.picked
