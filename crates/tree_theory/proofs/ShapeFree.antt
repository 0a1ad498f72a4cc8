-- Removing a retired node keeps the shape.
use Rattle.std.proofs.Common.{◌≡◌, ℕ, Bool, [], Contains, Some, IsTrue, sym, ap, ◌∙◌, inl, inr}
use Rattle.node_arena.specs.declared.handle.Handle.{Handle}
use Rattle.tree_theory.specs.Changes.{IsFreed}
use Rattle.tree_theory.specs.Invariant.{RootStands, Child, Parent, Right, Left, Shape}
use Rattle.tree_theory.specs.KeyClasses.{Class}
use Rattle.tree_theory.specs.Nodes.{Node, Tree, is_marked, entries_of}
use Rattle.tree_theory.specs.declared.position.Position.TheVariants.{Linked, Unlinked, Retired}
use Rattle.tree_theory.proofs.ListLemmas.{handle_cases}
use Rattle.tree_theory.proofs.ShapePlace.{leaf_entry}

module _ {Key Query Item : Type 0} {C : Class Key Query Item} where
  module _ {t u : Tree C} {h : Handle} (change : IsFreed t u h) (shape : Shape t) where
    freed_from : (x : Handle) (n : Node C) → u.look x ≡ Some n → t.look x ≡ Some n
    freed_from x n is = elim (handle_cases x h) [
      | inl e ↦ let gone = change.gone in absurd (cc)
      | inr apart ↦ cc (change.others x apart, is)
    ]

    freed_to : (x : Handle) (n : Node C) → t.look x ≡ Some n → ((stamp : ℕ) → n.place ≡ Retired stamp → ⊥) → u.look x ≡ Some n
    freed_to x n is stands = elim (handle_cases x h) [
      | inl e ↦
          let one : change.node ≡ n = cc (change.before, is, e) in
          absurd (stands change.stamp (ap (λ node. node.place) (sym one) ∙ change.place))
      | inr apart ↦ cc (change.others x apart, is)
    ]

    freed_root_place : RootStands u
    freed_root_place =
        let was = shape.root_place in
        let now = freed_to t.root was.node was.is (λ stamp place. let root = was.place in absurd (cc)) in
        record { node = was.node; is = cc (change.clock.root, now); place = was.place }

    freed_entry_down : (p : Handle) (node : Node C) → u.look p ≡ Some node → (key : Key) (c : Handle) → Contains (entries_of node.body) (key, c) → Child u p node c
    freed_entry_down p node is key c has =
        let child = shape.entry_down p node (freed_from p node is) key c has in
        record { node = child.node; is = freed_to c child.node child.is (λ stamp place. let linked = child.place in absurd (cc)); marked = child.marked; place = child.place; level = child.level }

    freed_entry_up : (x : Handle) (node : Node C) → u.look x ≡ Some node → (p : Handle) (marked : Bool) → node.place ≡ Linked p marked → Parent u x node p
    freed_entry_up x node is p marked place =
        let parent = shape.entry_up x node (freed_from x node is) p marked place in
        record { node = parent.node; is = freed_to p parent.node parent.is (λ stamp at. leaf_entry parent.node.body [] (parent.key, x) (shape.retired_empty p parent.node parent.is stamp at) parent.entry); key = parent.key; entry = parent.entry; level = parent.level }

    freed_mark_right : (x : Handle) (node : Node C) → u.look x ≡ Some node → IsTrue (is_marked node.place) → Right u x node
    freed_mark_right x node is marked =
        let right = shape.mark_right x node (freed_from x node is) marked in
        record { right = right.right; is_right = right.is_right; node = right.node; is = freed_to right.right right.node right.is (λ stamp place. let unlinked = right.place in absurd (cc)); place = right.place; level = right.level }

    freed_unlinked_left : (x : Handle) (node : Node C) → u.look x ≡ Some node → (l : Handle) → node.place ≡ Unlinked l → Left u x node l
    freed_unlinked_left x node is l place =
        let left = shape.unlinked_left x node (freed_from x node is) l place in
        record { node = left.node; is = freed_to l left.node left.is (λ stamp place. let linked = left.place in absurd (cc)); parent = left.parent; place = left.place; right = left.right; level = left.level }

    freed_root : (top : Node C) → u.look u.root ≡ Some top → t.look t.root ≡ Some top
    freed_root top is_top = let was = freed_from u.root top is_top in cc (change.clock.root, was)

    pub shape_freed : Shape u
    shape_freed =
        record {
          root_place = freed_root_place;
          root_only = λ x node is place. shape.root_only x node (freed_from x node is) place ∙ sym change.clock.root;
          entry_down = freed_entry_down;
          entry_up = freed_entry_up;
          children_differ = λ x node is. shape.children_differ x node (freed_from x node is);
          mark_right = freed_mark_right;
          unlinked_left = freed_unlinked_left;
          inner_filled = λ x node is. shape.inner_filled x node (freed_from x node is);
          size = λ x node is. shape.size x node (freed_from x node is);
          below_root = λ x node top is is_top apart. shape.below_root x node top (freed_from x node is) (freed_root top is_top) (λ e. apart (e ∙ sym change.clock.root));
          top_level = λ top is_top. shape.top_level top (freed_root top is_top);
          retired_empty = λ x node is. shape.retired_empty x node (freed_from x node is);
          cover = λ p parent is key c has node is_child. shape.cover p parent (freed_from p parent is) key c has node (freed_from c node is_child);
          cover_marked = λ p parent is key c has node is_child marked r right to_right is_right. shape.cover_marked p parent (freed_from p parent is) key c has node (freed_from c node is_child) marked r right to_right (freed_from r right is_right);
        }
