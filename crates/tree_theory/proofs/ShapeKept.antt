-- Bodies, places, levels and rightlinks determine the shape: where they stay, it stays.
use Rattle.std.proofs.Common.{◌≡◌, ◌≢◌, ℕ, ◌≤◌, Bool, Contains, AllPairs, Some, IsTrue, refl, sym, subst, ◌∙◌, inl, inr, arith}
use Rattle.node_arena.specs.declared.handle.Handle.{Handle}
use Rattle.tree_theory.specs.Changes.{OneNode, SameNodes, IsOpened, IsClosed, IsVisited, IsVisitedGone, IsJoined}
use Rattle.tree_theory.specs.Invariant.{CoversBody, RootStands, Child, Parent, Right, Left, Shape}
use Rattle.tree_theory.specs.KeyClasses.{Class}
use Rattle.tree_theory.specs.Nodes.{PlainBody, Body, Node, Tree, is_marked, entries_of, size_of}
use Rattle.tree_theory.specs.declared.TheConstants.{NODE_SIZE}
use Rattle.tree_theory.specs.declared.position.Position.{Position}
use Rattle.tree_theory.specs.declared.position.Position.TheVariants.{Root, Linked, Unlinked}
use Rattle.tree_theory.proofs.Replaced.{node_from, node_to}

pub mark_at : (a b : Position) → a ≡ b → IsTrue (is_marked a) → IsTrue (is_marked b)
mark_at a b e marked = subst (λ place. IsTrue (is_marked place)) e marked

pub entry_at : {Key Item : Type 0} (a b : PlainBody Key Item) (entry : Key × Handle) → a ≡ b → Contains (entries_of a) entry → Contains (entries_of b) entry
entry_at a b entry e has = subst (λ body. Contains (entries_of body) entry) e has

module _ {Key Query Item : Type 0} {C : Class Key Query Item} where
  -- the tree has a node at this handle with the same level, body, rightlink and place
  pub record Alike (t : Tree C) (h : Handle) (like : Node C) : Type 0 where
    pub node : Node C
    pub is : t.look h ≡ Some node
    pub level : node.level ≡ like.level
    pub body : node.body ≡ like.body
    pub right : node.right ≡ like.right
    pub place : node.place ≡ like.place

  pub record SameShape (t u : Tree C) : Type 0 where
    pub root : u.root ≡ t.root
    pub from : (h : Handle) (node : Node C) → u.look h ≡ Some node → Alike t h node
    pub to : (h : Handle) (node : Node C) → t.look h ≡ Some node → Alike u h node

  pub covers_at : (a b : Body C) (key : Key) → a ≡ b → CoversBody C key a → CoversBody C key b
  covers_at a b key e covers = subst (CoversBody C key) e covers

  module _ {t u : Tree C} (same : SameShape t u) (shape : Shape t) where
    kept_root_place : RootStands u
    kept_root_place =
        let was = shape.root_place in
        let now = same.to t.root was.node was.is in
        record { node = now.node; is = cc (same.root, now.is); place = cc (now.place, was.place) }

    kept_root_only : (h : Handle) (node : Node C) → u.look h ≡ Some node → node.place ≡ Root → h ≡ u.root
    kept_root_only h node is place =
        let was = same.from h node is in
        shape.root_only h was.node was.is (was.place ∙ place) ∙ sym same.root

    kept_entry_down : (p : Handle) (node : Node C) → u.look p ≡ Some node → (key : Key) (c : Handle) → Contains (entries_of node.body) (key, c) → Child u p node c
    kept_entry_down p node is key c has =
        let was = same.from p node is in
        let child = shape.entry_down p was.node was.is key c (entry_at node.body was.node.body (key, c) (sym was.body) has) in
        let now = same.to c child.node child.is in
        record { node = now.node; is = now.is; marked = child.marked; place = now.place ∙ child.place; level = cc (was.level, child.level, now.level) }

    kept_entry_up : (h : Handle) (node : Node C) → u.look h ≡ Some node → (p : Handle) (marked : Bool) → node.place ≡ Linked p marked → Parent u h node p
    kept_entry_up h node is p marked place =
        let was = same.from h node is in
        let parent = shape.entry_up h was.node was.is p marked (was.place ∙ place) in
        let now = same.to p parent.node parent.is in
        record { node = now.node; is = now.is; key = parent.key; entry = entry_at parent.node.body now.node.body (parent.key, h) (sym now.body) parent.entry; level = cc (was.level, parent.level, now.level) }

    kept_children_differ : (p : Handle) (node : Node C) → u.look p ≡ Some node → AllPairs (λ one other. one.1 ≢ other.1) (entries_of node.body)
    kept_children_differ p node is =
        let was = same.from p node is in
        subst (λ body. AllPairs (λ one other. one.1 ≢ other.1) (entries_of body)) was.body (shape.children_differ p was.node was.is)

    kept_mark_right : (h : Handle) (node : Node C) → u.look h ≡ Some node → IsTrue (is_marked node.place) → Right u h node
    kept_mark_right h node is marked =
        let was = same.from h node is in
        let right = shape.mark_right h was.node was.is (mark_at node.place was.node.place (sym was.place) marked) in
        let now = same.to right.right right.node right.is in
        record { right = right.right; is_right = cc (was.right, right.is_right); node = now.node; is = now.is; place = now.place ∙ right.place; level = cc (was.level, right.level, now.level) }

    kept_unlinked_left : (h : Handle) (node : Node C) → u.look h ≡ Some node → (l : Handle) → node.place ≡ Unlinked l → Left u h node l
    kept_unlinked_left h node is l place =
        let was = same.from h node is in
        let left = shape.unlinked_left h was.node was.is l (was.place ∙ place) in
        let now = same.to l left.node left.is in
        record { node = now.node; is = now.is; parent = left.parent; place = now.place ∙ left.place; right = now.right ∙ left.right; level = cc (was.level, left.level, now.level) }

    kept_cover : (p : Handle) (parent : Node C) → u.look p ≡ Some parent → (key : Key) (c : Handle) → Contains (entries_of parent.body) (key, c) → (node : Node C) → u.look c ≡ Some node → CoversBody C key node.body
    kept_cover p parent is key c has node is_child =
        let was = same.from p parent is in
        let child = same.from c node is_child in
        covers_at child.node.body node.body key child.body (shape.cover p was.node was.is key c (entry_at parent.body was.node.body (key, c) (sym was.body) has) child.node child.is)

    kept_cover_marked : (p : Handle) (parent : Node C) → u.look p ≡ Some parent → (key : Key) (c : Handle) → Contains (entries_of parent.body) (key, c) → (node : Node C) → u.look c ≡ Some node → IsTrue (is_marked node.place) → (r : Handle) (right : Node C) → node.right ≡ Some r → u.look r ≡ Some right → CoversBody C key right.body
    kept_cover_marked p parent is key c has node is_child marked r right to_right is_right =
        let was = same.from p parent is in
        let child = same.from c node is_child in
        let beside = same.from r right is_right in
        covers_at beside.node.body right.body key beside.body (shape.cover_marked p was.node was.is key c (entry_at parent.body was.node.body (key, c) (sym was.body) has) child.node child.is (mark_at node.place child.node.place (sym child.place) marked) r beside.node (child.right ∙ to_right) beside.is)

    pub same_shape : Shape u
    same_shape =
        record {
          root_place = kept_root_place;
          root_only = kept_root_only;
          entry_down = kept_entry_down;
          entry_up = kept_entry_up;
          children_differ = kept_children_differ;
          mark_right = kept_mark_right;
          unlinked_left = kept_unlinked_left;
          inner_filled = λ h node is empty. let was = same.from h node is in shape.inner_filled h was.node was.is (was.body ∙ empty);
          size = λ h node is. let was = same.from h node is in subst (λ body. size_of body ≤ NODE_SIZE) was.body (shape.size h was.node was.is);
          below_root = λ h node top is is_top apart.
              let was = same.from h node is in
              let above = same.from u.root top is_top in
              let level = was.level in
              let top_level = above.level in
              let below = shape.below_root h was.node above.node was.is (cc (same.root, above.is)) (λ e. apart (e ∙ sym same.root)) in
              omega arith;
          top_level = λ top is_top.
              let above = same.from u.root top is_top in
              let level = above.level in
              let high = shape.top_level above.node (cc (same.root, above.is)) in
              omega arith;
          retired_empty = λ h node is stamp place. let was = same.from h node is in sym was.body ∙ shape.retired_empty h was.node was.is stamp (was.place ∙ place);
          cover = kept_cover;
          cover_marked = kept_cover_marked;
        }

  -- nothing changes
  alike_itself : {t u : Tree C} → SameNodes t u → u.root ≡ t.root → SameShape t u
  alike_itself {t = t} {u = u} same root =
      record {
        root = root;
        from = λ h node is. record { node = node; is = cc (same.look h, is); level = refl; body = refl; right = refl; place = refl };
        to = λ h node is. record { node = node; is = cc (same.look h, is); level = refl; body = refl; right = refl; place = refl };
      }

  -- one node gets other searches
  alike_attached : {t u : Tree C} {h : Handle} {old new : Node C} → OneNode t u h old new → u.root ≡ t.root → new.level ≡ old.level → new.body ≡ old.body → new.right ≡ old.right → new.place ≡ old.place → SameShape t u
  alike_attached {t = t} {u = u} {h = h} {old = old} {new = new} r root level body right place =
      record {
        root = root;
        from = λ x node is. elim (node_from r x node is) [
          | inl e ↦ record { node = old; is = cc (r.before, e.0); level = cc (level, e.1); body = cc (body, e.1); right = cc (right, e.1); place = cc (place, e.1) }
          | inr stays ↦ record { node = node; is = stays; level = refl; body = refl; right = refl; place = refl }
        ];
        to = λ x node is. elim (node_to r x node is) [
          | inl e ↦ record { node = new; is = cc (r.after, e.0); level = cc (level, e.1); body = cc (body, e.1); right = cc (right, e.1); place = cc (place, e.1) }
          | inr stays ↦ record { node = node; is = stays; level = refl; body = refl; right = refl; place = refl }
        ];
      }

  pub shape_opened : {t u : Tree C} {query : Query} → Shape t → IsOpened t u query → Shape u
  shape_opened shape change = same_shape (alike_itself change.nodes change.root) shape

  pub shape_closed : {t u : Tree C} {s : ℕ} → Shape t → IsClosed t u s → Shape u
  shape_closed shape change = same_shape (alike_itself change.nodes change.clock.root) shape

  pub shape_visited_gone : {t u : Tree C} {s : ℕ} {x : Handle} {memo : ℕ} → Shape t → IsVisitedGone t u s x memo → Shape u
  shape_visited_gone shape change = same_shape (alike_itself change.nodes change.clock.root) shape

  pub shape_visited : {t u : Tree C} {s : ℕ} {x : Handle} {memo : ℕ} → Shape t → IsVisited t u s x memo → Shape u
  shape_visited shape change = same_shape (alike_attached change.nodes change.clock.root refl refl refl refl) shape

  pub shape_joined : {t u : Tree C} {h : Handle} → Shape t → IsJoined t u h → Shape u
  shape_joined shape change = same_shape (alike_attached change.nodes change.clock.root refl refl refl refl) shape
