-- A change of a node's body keeps the shape: pairs are placed or removed, or an entry gets a wider
-- key.
use Rattle.std.proofs.Common.{◌≡◌, ◌≢◌, ◌⊎◌, ℕ, ◌<◌, ◌≤◌, Bool, [], Contains, Some, IsTrue, refl, sym, ap, subst, ◌∙◌, inl, inr, arith}
use Rattle.node_arena.specs.declared.handle.Handle.{Handle}
use Rattle.tree_theory.specs.Changes.{OneNode, MayTake, StandsBehind}
use Rattle.tree_theory.specs.Invariant.{CoversBody, RootStands, Child, Parent, Right, Left, Shape}
use Rattle.tree_theory.specs.KeyClasses.{Class, Laws}
use Rattle.tree_theory.specs.Nodes.{Body, Node, Tree, is_marked, entries_of, size_of}
use Rattle.tree_theory.specs.Nodes.PlainBody.{Leaf, Inner}
use Rattle.tree_theory.specs.declared.TheConstants.{NODE_SIZE, TOP_LEVEL}
use Rattle.tree_theory.specs.declared.position.Position.TheVariants.{Linked, Unlinked, Retired}
use Rattle.tree_theory.proofs.Replaced.{node_from, node_to}
use Rattle.tree_theory.proofs.ShapeKept.{mark_at, entry_at, covers_at}
use Rattle.tree_theory.proofs.ShapeLists.{Differ, one_key}

module _ {Key Query Item : Type 0} {C : Class Key Query Item} where
  pub record Rebodied (t u : Tree C) (h : Handle) (old new : Node C) : Type 0 where
    pub one : OneNode t u h old new
    pub root : u.root ≡ t.root
    pub level : new.level ≡ old.level
    pub right : new.right ≡ old.right
    pub place : new.place ≡ old.place
    pub from : (key : Key) (c : Handle) → Contains (entries_of new.body) (key, c) → (was : Key) × Contains (entries_of old.body) (was, c) × C.Covers key was
    pub to : (key : Key) (c : Handle) → Contains (entries_of old.body) (key, c) → (now : Key) × Contains (entries_of new.body) (now, c)
    pub differ : Differ (entries_of new.body)
    pub filled : new.body ≡ Inner [] → ⊥
    pub size : size_of new.body ≤ NODE_SIZE
    pub retired : (stamp : ℕ) → old.place ≡ Retired stamp → new.body ≡ Leaf []
    pub covered : (key : Key) → StandsBehind t h key → CoversBody C key old.body → CoversBody C key new.body

  -- the old node of a new one
  record Was (t : Tree C) (h : Handle) (old new : Node C) (x : Handle) (now : Node C) : Type 0 where
    node : Node C
    is : t.look x ≡ Some node
    level : node.level ≡ now.level
    right : node.right ≡ now.right
    place : node.place ≡ now.place
    body : (node.body ≡ now.body) ⊎ ((x ≡ h) × (node.body ≡ old.body) × (now.body ≡ new.body))

  -- the new node of an old one
  record Stays (u : Tree C) (x : Handle) (was : Node C) : Type 0 where
    node : Node C
    is : u.look x ≡ Some node
    level : node.level ≡ was.level
    right : node.right ≡ was.right
    place : node.place ≡ was.place
    entries : (key : Key) (c : Handle) → Contains (entries_of was.body) (key, c) → (now : Key) × Contains (entries_of node.body) (now, c)

  pub covers_more : Laws C → (outer inner : Key) (body : Body C) → C.Covers outer inner → CoversBody C inner body → CoversBody C outer body
  covers_more laws outer inner body wider covers =
      record {
        pairs = λ pair has. laws.transitive outer inner (C.key_of pair.1) wider (covers.pairs pair has);
        entries = λ entry has. laws.transitive outer inner entry.0 wider (covers.entries entry has);
      }

  module _ (laws : Laws C) {t u : Tree C} {h : Handle} {old new : Node C} (r : Rebodied t u h old new) (shape : Shape t) where
    was_at : (x : Handle) (n : Node C) → u.look x ≡ Some n → Was t h old new x n
    was_at x n is = elim (node_from r.one x n is) [
      | inl e ↦
          let level = r.level in
          let right = r.right in
          let place = r.place in
          record { node = old; is = cc (r.one.before, e.0); level = cc (level, e.1); right = cc (right, e.1); place = cc (place, e.1); body = inr (e.0, refl, ap (λ node. node.body) (sym e.1)) }
      | inr stays ↦ record { node = n; is = stays; level = refl; right = refl; place = refl; body = inl refl }
    ]

    stays_at : (x : Handle) (n : Node C) → t.look x ≡ Some n → Stays u x n
    stays_at x n is = elim (node_to r.one x n is) [
      | inl e ↦
          let level = r.level in
          let right = r.right in
          let place = r.place in
          record { node = new; is = cc (r.one.after, e.0); level = cc (level, e.1); right = cc (right, e.1); place = cc (place, e.1); entries = λ key c has. r.to key c (entry_at n.body old.body (key, c) (ap (λ node. node.body) (sym e.1)) has) }
      | inr stays ↦ record { node = n; is = stays; level = refl; right = refl; place = refl; entries = λ key c has. (key, has) }
    ]

    was_entry : (x : Handle) (n : Node C) (was : Was t h old new x n) (key : Key) (c : Handle) → Contains (entries_of n.body) (key, c) → (before : Key) × Contains (entries_of was.node.body) (before, c) × C.Covers key before
    was_entry x n was key c has = elim was.body [
      | inl same ↦ (key, entry_at n.body was.node.body (key, c) (sym same) has, laws.reflexive key)
      | inr changed ↦
          let found = r.from key c (entry_at n.body new.body (key, c) changed.2 has) in
          (found.0, entry_at old.body was.node.body (found.0, c) (sym changed.1) found.1, found.2)
    ]

    now_covered : (x : Handle) (n : Node C) (was : Was t h old new x n) (key : Key) → StandsBehind t x key → CoversBody C key was.node.body → CoversBody C key n.body
    now_covered x n was key behind covers = elim was.body [
      | inl same ↦ covers_at was.node.body n.body key same covers
      | inr changed ↦
          covers_at new.body n.body key (sym changed.2) (r.covered key (subst (λ h. StandsBehind t h key) changed.0 behind) (covers_at was.node.body old.body key changed.1 covers))
    ]

    body_root_place : RootStands u
    body_root_place =
        let was = shape.root_place in
        let now = stays_at t.root was.node was.is in
        record { node = now.node; is = cc (r.root, now.is); place = cc (now.place, was.place) }

    body_entry_down : (p : Handle) (node : Node C) → u.look p ≡ Some node → (key : Key) (c : Handle) → Contains (entries_of node.body) (key, c) → Child u p node c
    body_entry_down p node is key c has =
        let was = was_at p node is in
        let entry = was_entry p node was key c has in
        let child = shape.entry_down p was.node was.is entry.0 c entry.1 in
        let now = stays_at c child.node child.is in
        record { node = now.node; is = now.is; marked = child.marked; place = now.place ∙ child.place; level = cc (was.level, child.level, now.level) }

    body_entry_up : (x : Handle) (node : Node C) → u.look x ≡ Some node → (p : Handle) (marked : Bool) → node.place ≡ Linked p marked → Parent u x node p
    body_entry_up x node is p marked place =
        let was = was_at x node is in
        let parent = shape.entry_up x was.node was.is p marked (was.place ∙ place) in
        let now = stays_at p parent.node parent.is in
        let entry = now.entries parent.key x parent.entry in
        record { node = now.node; is = now.is; key = entry.0; entry = entry.1; level = cc (was.level, parent.level, now.level) }

    body_children_differ : (p : Handle) (node : Node C) → u.look p ≡ Some node → Differ (entries_of node.body)
    body_children_differ p node is = elim (node_from r.one p node is) [
      | inl e ↦ subst (λ n. Differ (entries_of n.body)) e.1 r.differ
      | inr stays ↦ shape.children_differ p node stays
    ]

    body_mark_right : (x : Handle) (node : Node C) → u.look x ≡ Some node → IsTrue (is_marked node.place) → Right u x node
    body_mark_right x node is marked =
        let was = was_at x node is in
        let right = shape.mark_right x was.node was.is (mark_at node.place was.node.place (sym was.place) marked) in
        let now = stays_at right.right right.node right.is in
        record { right = right.right; is_right = cc (was.right, right.is_right); node = now.node; is = now.is; place = now.place ∙ right.place; level = cc (was.level, right.level, now.level) }

    body_unlinked_left : (x : Handle) (node : Node C) → u.look x ≡ Some node → (l : Handle) → node.place ≡ Unlinked l → Left u x node l
    body_unlinked_left x node is l place =
        let was = was_at x node is in
        let left = shape.unlinked_left x was.node was.is l (was.place ∙ place) in
        let now = stays_at l left.node left.is in
        record { node = now.node; is = now.is; parent = left.parent; place = now.place ∙ left.place; right = now.right ∙ left.right; level = cc (was.level, left.level, now.level) }

    body_filled : (x : Handle) (node : Node C) → u.look x ≡ Some node → node.body ≡ Inner [] → ⊥
    body_filled x node is empty = elim (node_from r.one x node is) [
      | inl e ↦ r.filled (ap (λ node. node.body) e.1 ∙ empty)
      | inr stays ↦ shape.inner_filled x node stays empty
    ]

    body_size : (x : Handle) (node : Node C) → u.look x ≡ Some node → size_of node.body ≤ NODE_SIZE
    body_size x node is = elim (node_from r.one x node is) [
      | inl e ↦ subst (λ n. size_of n.body ≤ NODE_SIZE) e.1 r.size
      | inr stays ↦ shape.size x node stays
    ]

    body_retired : (x : Handle) (node : Node C) → u.look x ≡ Some node → (stamp : ℕ) → node.place ≡ Retired stamp → node.body ≡ Leaf []
    body_retired x node is stamp place = elim (node_from r.one x node is) [
      | inl e ↦
          let at : old.place ≡ Retired stamp = sym r.place ∙ (ap (λ node. node.place) e.1 ∙ place) in
          ap (λ node. node.body) (sym e.1) ∙ r.retired stamp at
      | inr stays ↦ shape.retired_empty x node stays stamp place
    ]

    body_below_root : (x : Handle) (node top : Node C) → u.look x ≡ Some node → u.look u.root ≡ Some top → x ≢ u.root → node.level < top.level
    body_below_root x node top is is_top apart =
        let was = was_at x node is in
        let above = was_at u.root top is_top in
        let level = was.level in
        let top_level = above.level in
        let below = shape.below_root x was.node above.node was.is (cc (r.root, above.is)) (λ e. apart (e ∙ sym r.root)) in
        omega arith

    body_top_level : (top : Node C) → u.look u.root ≡ Some top → top.level ≤ TOP_LEVEL
    body_top_level top is_top =
        let above = was_at u.root top is_top in
        let level = above.level in
        let high = shape.top_level above.node (cc (r.root, above.is)) in
        omega arith

    body_cover : (p : Handle) (parent : Node C) → u.look p ≡ Some parent → (key : Key) (c : Handle) → Contains (entries_of parent.body) (key, c) → (node : Node C) → u.look c ≡ Some node → CoversBody C key node.body
    body_cover p parent is key c has node is_child =
        let was = was_at p parent is in
        let entry = was_entry p parent was key c has in
        let child = was_at c node is_child in
        let behind : StandsBehind t c entry.0 = record { parent = p; node = was.node; is = was.is; child = c; entry = entry.1; behind = inl refl } in
        covers_more laws key entry.0 node.body entry.2 (now_covered c node child entry.0 behind (shape.cover p was.node was.is entry.0 c entry.1 child.node child.is))

    body_cover_marked : (p : Handle) (parent : Node C) → u.look p ≡ Some parent → (key : Key) (c : Handle) → Contains (entries_of parent.body) (key, c) → (node : Node C) → u.look c ≡ Some node → IsTrue (is_marked node.place) → (x : Handle) (right : Node C) → node.right ≡ Some x → u.look x ≡ Some right → CoversBody C key right.body
    body_cover_marked p parent is key c has node is_child marked x right to_right is_right =
        let was = was_at p parent is in
        let entry = was_entry p parent was key c has in
        let child = was_at c node is_child in
        let beside = was_at x right is_right in
        let mark = mark_at node.place child.node.place (sym child.place) marked in
        let behind : StandsBehind t x entry.0 = record { parent = p; node = was.node; is = was.is; child = c; entry = entry.1; behind = inr (child.node, child.is, mark, child.right ∙ to_right) } in
        covers_more laws key entry.0 right.body entry.2 (now_covered x right beside entry.0 behind (shape.cover_marked p was.node was.is entry.0 c entry.1 child.node child.is mark x beside.node (child.right ∙ to_right) beside.is))

    pub rebodied_shape : Shape u
    rebodied_shape =
        record {
          root_place = body_root_place;
          root_only = λ x node is place. let was = was_at x node is in shape.root_only x was.node was.is (was.place ∙ place) ∙ sym r.root;
          entry_down = body_entry_down;
          entry_up = body_entry_up;
          children_differ = body_children_differ;
          mark_right = body_mark_right;
          unlinked_left = body_unlinked_left;
          inner_filled = body_filled;
          size = body_size;
          below_root = body_below_root;
          top_level = body_top_level;
          retired_empty = body_retired;
          cover = body_cover;
          cover_marked = body_cover_marked;
        }

  -- The only entry over a node that may take a key is its own, and it covers the key.

  pub stands_place : {t : Tree C} {h : Handle} {key : Key} → Shape t → (behind : StandsBehind t h key) → (node : Node C) → t.look h ≡ Some node → ((marked : Bool) × (node.place ≡ Linked behind.parent marked)) ⊎ (node.place ≡ Unlinked behind.child)
  stands_place {t = t} {h = h} {key = key} shape behind node is = elim behind.behind [
    | inl same ↦
        let child = shape.entry_down behind.parent behind.node behind.is key behind.child behind.entry in
        let one : child.node ≡ node = cc (child.is, is, same) in
        inl (child.marked, cc (child.place, one))
    | inr marked ↦
        let right = shape.mark_right behind.child marked.0 marked.1 marked.2 in
        let at : right.right ≡ h = cc (right.is_right, marked.3) in
        let one : right.node ≡ node = cc (right.is, is, at) in
        inr (cc (right.place, one))
  ]

  pub may_take_covers : {t : Tree C} {h : Handle} {key taken : Key} (node : Node C) → Shape t → t.look h ≡ Some node → MayTake t h node taken → StandsBehind t h key → C.Covers key taken
  may_take_covers {t = t} {h = h} {key = key} {taken = taken} node shape is (inl root) behind = elim (stands_place shape behind node is) [
    | inl linked ↦ absurd (cc (linked.1, root))
    | inr unlinked ↦ absurd (cc (unlinked, root))
  ]
  may_take_covers {t = t} {h = h} {key = key} {taken = taken} node shape is (inr entry) behind = elim behind.behind [
    | inl same ↦
        let child = shape.entry_down behind.parent behind.node behind.is key behind.child behind.entry in
        let one : child.node ≡ node = cc (child.is, is, same) in
        let parent : behind.parent ≡ entry.parent = cc (child.place, entry.place, one) in
        let node_too : behind.node ≡ entry.parent_node = cc (behind.is, entry.is, parent) in
        let has : Contains (entries_of entry.parent_node.body) (key, behind.child) = subst (λ n. Contains (entries_of n.body) (key, behind.child)) node_too behind.entry in
        let at : Contains (entries_of entry.parent_node.body) (key, h) = subst (λ c. Contains (entries_of entry.parent_node.body) (key, c)) same has in
        let keys : key ≡ entry.entry_key = one_key (entries_of entry.parent_node.body) key entry.entry_key h (shape.children_differ entry.parent entry.parent_node entry.is) at entry.entry in
        subst (λ outer. C.Covers outer taken) (sym keys) entry.covers
    | inr marked ↦
        let right = shape.mark_right behind.child marked.0 marked.1 marked.2 in
        let at : right.right ≡ h = cc (right.is_right, marked.3) in
        let one : right.node ≡ node = cc (right.is, is, at) in
        absurd (cc (right.place, entry.place, one))
  ]
