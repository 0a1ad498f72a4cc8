-- A split keeps the shape.
use Rattle.std.proofs.Common.{◌≡◌, ◌≢◌, ℕ, ◌+◌, ◌<◌, ◌≤◌, Bool, true, false, [], length, Contains, Some, IsTrue, refl, sym, ap, subst, ◌∙◌, inl, inr, arith}
use Rattle.std.specs.Option.{option_map}
use Rattle.node_arena.specs.declared.handle.Handle.{Handle}
use Rattle.tree_theory.specs.Changes.{IsHalved, IsSplit}
use Rattle.tree_theory.specs.Invariant.{CoversBody, RootStands, Child, Parent, Right, Left, Shape}
use Rattle.tree_theory.specs.KeyClasses.{Class}
use Rattle.tree_theory.specs.Nodes.{PlainBody, Body, Node, Tree, is_marked, entries_of, pairs_of, children_of, size_of, under, place_under}
use Rattle.tree_theory.specs.Nodes.PlainBody.{Leaf, Inner}
use Rattle.tree_theory.specs.declared.TheConstants.{NODE_SIZE, TOP_LEVEL}
use Rattle.tree_theory.specs.declared.position.Position.{Position}
use Rattle.tree_theory.specs.declared.position.Position.TheVariants.{Root, Linked, Unlinked, Retired}
use Rattle.tree_theory.proofs.ListLemmas.{handle_cases, child_cases, one_in, other_in, parted_cases, map_in, map_from}
use Rattle.tree_theory.proofs.ShapeKept.{mark_at, entry_at, covers_at}
use Rattle.tree_theory.proofs.ShapeLists.{Differ, one_pairs, turned, parted_sizes, parts_differ}

-- a node's place before and after: its parent was h and is r, or its place stays
pub data Hangs (h r : Handle) (moved : Type 0) (old now : Position) : Type 0 where
  hangs_same : (moved → ⊥) → old ≡ now → Hangs h r moved old now
  hangs_moved : (marked : Bool) → moved → old ≡ Linked h marked → now ≡ Linked r marked → Hangs h r moved old now

module _ {h r : Handle} {moved : Type 0} {old now : Position} where
  pub hangs_mark : Hangs h r moved old now → IsTrue (is_marked now) → IsTrue (is_marked old)
  hangs_mark (hangs_same a e) marked = mark_at now old (sym e) marked
  hangs_mark (hangs_moved mark a was is) marked = mark_at (Linked h mark) old (sym was) (mark_at now (Linked r mark) is marked)

  pub root_stays : Hangs h r moved old now → old ≡ Root → now ≡ Root
  root_stays (hangs_same a e) root = sym e ∙ root
  root_stays (hangs_moved mark a was is) root = absurd (cc)

  pub root_was : Hangs h r moved old now → now ≡ Root → old ≡ Root
  root_was (hangs_same a e) root = e ∙ root
  root_was (hangs_moved mark a was is) root = absurd (cc)

  pub unlinked_stays : Hangs h r moved old now → (left : Handle) → old ≡ Unlinked left → now ≡ Unlinked left
  unlinked_stays (hangs_same a e) left unlinked = sym e ∙ unlinked
  unlinked_stays (hangs_moved mark a was is) left unlinked = absurd (cc)

  pub unlinked_was : Hangs h r moved old now → (left : Handle) → now ≡ Unlinked left → old ≡ Unlinked left
  unlinked_was (hangs_same a e) left unlinked = e ∙ unlinked
  unlinked_was (hangs_moved mark a was is) left unlinked = absurd (cc)

  pub retired_was : Hangs h r moved old now → (stamp : ℕ) → now ≡ Retired stamp → old ≡ Retired stamp
  retired_was (hangs_same a e) stamp retired = e ∙ retired
  retired_was (hangs_moved mark a was is) stamp retired = absurd (cc)

  -- under a parent other than h the place stays
  pub linked_stays : Hangs h r moved old now → (p : Handle) (marked : Bool) → p ≢ h → old ≡ Linked p marked → now ≡ Linked p marked
  linked_stays (hangs_same a e) p marked apart linked = sym e ∙ linked
  linked_stays (hangs_moved mark a was is) p marked apart linked = absurd (apart (cc))

  -- the mark stays, whatever the parent
  pub mark_stays : Hangs h r moved old now → (p : Handle) (marked : Bool) → old ≡ Linked p marked → (q : Handle) × (now ≡ Linked q marked)
  mark_stays (hangs_same a e) p marked linked = (p, sym e ∙ linked)
  mark_stays (hangs_moved mark a was is) p marked linked = let same : mark ≡ marked = cc in (r, subst (λ marked. now ≡ Linked r marked) same is)

  pub moved_goes : Hangs h r moved old now → moved → (marked : Bool) → old ≡ Linked h marked → now ≡ Linked r marked
  moved_goes (hangs_same a e) m marked linked = absurd (a m)
  moved_goes (hangs_moved mark a was is) m marked linked = let same : mark ≡ marked = cc in subst (λ marked. now ≡ Linked r marked) same is

  pub kept_stays : Hangs h r moved old now → (moved → ⊥) → old ≡ now
  kept_stays (hangs_same a e) not = e
  kept_stays (hangs_moved mark a was is) not = absurd (not a)

pub body_size : {Key Item : Type 0} (body : PlainBody Key Item) → size_of body ≡ length (pairs_of body) + length (entries_of body)
body_size (Leaf pairs) = omega arith
body_size (Inner entries) = omega arith

pub halved_sizes : {Key Item : Type 0} {whole one other : PlainBody Key Item} → IsHalved whole one other → size_of whole ≡ size_of one + size_of other
halved_sizes {whole = whole} {one = one} {other = other} halves =
    let pairs = parted_sizes halves.pairs in
    let entries = parted_sizes halves.entries in
    let a = body_size whole in
    let b = body_size one in
    let c = body_size other in
    omega arith

pub not_empty : {Key Item : Type 0} (body : PlainBody Key Item) → 0 < size_of body → body ≡ Inner [] → ⊥
not_empty body filled empty = let none : size_of body ≡ 0 = ap size_of empty in absurd (omega arith)

-- an entry's child is one of the children
pub child_in : {Key Item : Type 0} (body : PlainBody Key Item) (key : Key) (c : Handle) → Contains (entries_of body) (key, c) → Contains (children_of body) c
child_in body key c has = map_in (λ entry. entry.1) (entries_of body) (key, c) has

pub entry_of_child : {Key Item : Type 0} (body : PlainBody Key Item) (c : Handle) → Contains (children_of body) c → (key : Key) × Contains (entries_of body) (key, c)
entry_of_child body c has =
    let found = map_from (λ entry. entry.1) (entries_of body) c has in
    (found.from.0, subst (λ child. Contains (entries_of body) (found.from.0, child)) found.is found.is_in)

module _ {Key Query Item : Type 0} {C : Class Key Query Item} where
  pub covers_one : {whole one other : Body C} → IsHalved whole one other → (key : Key) → CoversBody C key whole → CoversBody C key one
  covers_one halves key covers = record { pairs = λ pair has. covers.pairs pair (one_in pair halves.pairs has); entries = λ entry has. covers.entries entry (one_in entry halves.entries has) }

  pub covers_other : {whole one other : Body C} → IsHalved whole one other → (key : Key) → CoversBody C key whole → CoversBody C key other
  covers_other halves key covers = record { pairs = λ pair has. covers.pairs pair (other_in pair halves.pairs has); entries = λ entry has. covers.entries entry (other_in entry halves.entries has) }

  module _ {t u : Tree C} {h r : Handle} (change : IsSplit t u h r) (shape : Shape t) where
    abbrev left : Node C
    left = record change.node { body = change.kept; right = Some r; place = Linked change.parent true }

    abbrev right : Node C
    right = record change.node { body = change.moved; place = Unlinked h; attached = change.attached }

    abbrev Moved : Handle → Type 0
    Moved x = Contains (children_of change.moved) x

    -- a node that is neither h nor r, before and after
    record Twin (x : Handle) (old now : Node C) : Type 0 where
      was : t.look x ≡ Some old
      is : u.look x ≡ Some now
      level : old.level ≡ now.level
      right : old.right ≡ now.right
      body : old.body ≡ now.body
      place : Hangs h r (Moved x) old.place now.place

    stands_not_right : (x : Handle) (n : Node C) → t.look x ≡ Some n → x ≢ r
    stands_not_right x n is e = let fresh = change.fresh in absurd (cc)

    -- the children of h
    had_kept : (key : Key) (c : Handle) → Contains (entries_of change.kept) (key, c) → Contains (entries_of change.node.body) (key, c)
    had_kept key c has = one_in (key, c) change.halves.entries has

    had_moved : (key : Key) (c : Handle) → Contains (entries_of change.moved) (key, c) → Contains (entries_of change.node.body) (key, c)
    had_moved key c has = other_in (key, c) change.halves.entries has

    child_not_parent : (p : Handle) (n : Node C) → t.look p ≡ Some n → (key : Key) (c : Handle) → Contains (entries_of n.body) (key, c) → c ≢ p
    child_not_parent p n is key c has same =
        let child = shape.entry_down p n is key c has in
        let one : child.node ≡ n = cc (child.is, is, same) in
        let level : child.node.level ≡ n.level = ap (λ node. node.level) one in
        let below = child.level in
        absurd (omega arith)

    kept_not_moved : (key : Key) (c : Handle) → Contains (entries_of change.kept) (key, c) → Moved c → ⊥
    kept_not_moved key c has moved =
        let entry = entry_of_child change.moved c moved in
        parts_differ change.halves.entries (shape.children_differ h change.node change.before) key entry.0 c has entry.1

    moved_twin : (x : Handle) → Moved x → (old : Node C) → t.look x ≡ Some old → x ≢ h → Twin x old (under r old)
    moved_twin x moved old was apart =
        let entry = entry_of_child change.moved x moved in
        let child = shape.entry_down h change.node change.before entry.0 x (had_moved entry.0 x entry.1) in
        let one : child.node ≡ old = cc (child.is, was) in
        let linked : old.place ≡ Linked h child.marked = ap (λ node. node.place) (sym one) ∙ child.place in
        record {
          was = was;
          is = change.children x apart (stands_not_right x old was) moved ∙ ap (option_map (under r)) was;
          level = refl;
          right = refl;
          body = refl;
          place = hangs_moved child.marked moved linked (ap (place_under r) linked);
        }

    same_twin : (x : Handle) → (Moved x → ⊥) → (n : Node C) → t.look x ≡ Some n → u.look x ≡ Some n → Twin x n n
    same_twin x not n was is = record { was = was; is = is; level = refl; right = refl; body = refl; place = hangs_same not refl }

    twin_to : (x : Handle) (old : Node C) → x ≢ h → t.look x ≡ Some old → (now : Node C) × Twin x old now
    twin_to x old apart was = elim (child_cases (children_of change.moved) x) [
      | inl moved ↦ (under r old, moved_twin x moved old was apart)
      | inr not ↦ (old, same_twin x not old was (change.others x apart (stands_not_right x old was) not ∙ was))
    ]

    twin_from : (x : Handle) (now : Node C) → x ≢ h → x ≢ r → u.look x ≡ Some now → (old : Node C) × Twin x old now
    twin_from x now not_left not_right is = elim (child_cases (children_of change.moved) x) [
      | inl moved ↦
          let entry = entry_of_child change.moved x moved in
          let child = shape.entry_down h change.node change.before entry.0 x (had_moved entry.0 x entry.1) in
          let twin = moved_twin x moved child.node child.is not_left in
          let one : under r child.node ≡ now = cc (twin.is, is) in
          (child.node, subst (Twin x child.node) one twin)
      | inr not ↦ (now, same_twin x not now (sym (change.others x not_left not_right not) ∙ is) is)
    ]

    -- what holds of h, of r and of each other node holds of all
    each_node : (P : Handle → Node C → Type 0) → P h left → P r right → ((x : Handle) (old now : Node C) → x ≢ h → x ≢ r → Twin x old now → P x now) → (x : Handle) (n : Node C) → u.look x ≡ Some n → P x n
    each_node P at_left at_right other x n is = elim (handle_cases x h) [
      | inl at ↦
          let one : left ≡ n = cc (change.left_now, is, at) in
          subst (λ x. P x n) (sym at) (subst (P h) one at_left)
      | inr not_left ↦ elim (handle_cases x r) [
        | inl at ↦
            let one : right ≡ n = cc (change.right_now, is, at) in
            subst (λ x. P x n) (sym at) (subst (P r) one at_right)
        | inr not_right ↦
            let twin = twin_from x n not_left not_right is in
            other x twin.0 n not_left not_right twin.1
      ]
    ]

    root_not_left : t.root ≢ h
    root_not_left e =
        let root = shape.root_place in
        let one : root.node ≡ change.node = cc (root.is, change.before, e) in
        let same : root.node.place ≡ change.node.place = ap (λ node. node.place) one in
        let top = root.place in
        let linked = change.place in
        absurd (cc)

    split_root_place : RootStands u
    split_root_place =
        let was = shape.root_place in
        let now = twin_to t.root was.node root_not_left was.is in
        record { node = now.0; is = cc (change.clock.root, now.1.is); place = root_stays now.1.place was.place }

    split_root_only : (x : Handle) (node : Node C) → u.look x ≡ Some node → node.place ≡ Root → x ≡ u.root
    split_root_only =
        each_node (λ x n. n.place ≡ Root → x ≡ u.root) (λ e. absurd (cc)) (λ e. absurd (cc)) (λ x old now a b twin place. shape.root_only x old twin.was (root_was twin.place place) ∙ sym change.clock.root)

    left_down : (key : Key) (c : Handle) → Contains (entries_of change.kept) (key, c) → Child u h left c
    left_down key c has =
        let had = had_kept key c has in
        let child = shape.entry_down h change.node change.before key c had in
        let now = twin_to c child.node (child_not_parent h change.node change.before key c had) child.is in
        record { node = now.0; is = now.1.is; marked = child.marked; place = sym (kept_stays now.1.place (kept_not_moved key c has)) ∙ child.place; level = child.level ∙ ap (λ level. level + 1) now.1.level }

    right_down : (key : Key) (c : Handle) → Contains (entries_of change.moved) (key, c) → Child u r right c
    right_down key c has =
        let had = had_moved key c has in
        let child = shape.entry_down h change.node change.before key c had in
        let now = twin_to c child.node (child_not_parent h change.node change.before key c had) child.is in
        record { node = now.0; is = now.1.is; marked = child.marked; place = moved_goes now.1.place (child_in change.moved key c has) child.marked child.place; level = child.level ∙ ap (λ level. level + 1) now.1.level }

    other_down : (x : Handle) (old now : Node C) → x ≢ h → Twin x old now → (key : Key) (c : Handle) → Contains (entries_of now.body) (key, c) → Child u x now c
    other_down x old now apart twin key c has =
        let child = shape.entry_down x old twin.was key c (entry_at now.body old.body (key, c) (sym twin.body) has) in
        elim (handle_cases c h) [
          | inl at ↦
              let one : child.node ≡ change.node = cc (child.is, change.before, at) in
              let place : child.node.place ≡ change.node.place = ap (λ node. node.place) one in
              let parent : change.parent ≡ x = cc (change.place, place, child.place) in
              let level : child.node.level ≡ change.node.level = ap (λ node. node.level) one in
              record { node = left; is = cc (change.left_now, at); marked = true; place = ap (λ parent. Linked parent true) parent; level = sym twin.level ∙ (child.level ∙ ap (λ level. level + 1) level) }
          | inr not_left ↦
              let below = twin_to c child.node not_left child.is in
              record { node = below.0; is = below.1.is; marked = child.marked; place = linked_stays below.1.place x child.marked apart child.place; level = sym twin.level ∙ (child.level ∙ ap (λ level. level + 1) below.1.level) }
        ]

    split_entry_down : (x : Handle) (node : Node C) → u.look x ≡ Some node → (key : Key) (c : Handle) → Contains (entries_of node.body) (key, c) → Child u x node c
    split_entry_down =
        each_node (λ x n. (key : Key) (c : Handle) → Contains (entries_of n.body) (key, c) → Child u x n c) left_down right_down (λ x old now a b twin. other_down x old now a twin)

    -- h still has its parent's entry
    left_up : (q : Handle) (marked : Bool) → Linked change.parent true ≡ Linked q marked → Parent u h left q
    left_up q marked place =
        let parent = shape.entry_up h change.node change.before change.parent false change.place in
        let same : change.parent ≡ q = cc in
        let apart : change.parent ≢ h = λ e. child_not_parent change.parent parent.node parent.is parent.key h parent.entry (sym e) in
        let now = twin_to change.parent parent.node apart parent.is in
        subst (Parent u h left) same (record { node = now.0; is = now.1.is; key = parent.key; entry = entry_at parent.node.body now.0.body (parent.key, h) now.1.body parent.entry; level = sym now.1.level ∙ parent.level })

    other_up : (x : Handle) (old now : Node C) → Twin x old now → (q : Handle) (marked : Bool) → now.place ≡ Linked q marked → Parent u x now q
    other_up x old now twin q marked place = elim twin.place [
      | hangs_same not e ↦
          let parent = shape.entry_up x old twin.was q marked (e ∙ place) in
          let level : parent.node.level ≡ now.level + 1 = parent.level ∙ ap (λ level. level + 1) twin.level in
          elim (handle_cases q h) [
            | inl at ↦
                let one : parent.node ≡ change.node = cc (parent.is, change.before, at) in
                let had : Contains (entries_of change.node.body) (parent.key, x) = entry_at parent.node.body change.node.body (parent.key, x) (ap (λ node. node.body) one) parent.entry in
                elim (parted_cases (parent.key, x) change.halves.entries had) [
                  | inl stays ↦ record { node = left; is = cc (change.left_now, at); key = parent.key; entry = stays; level = ap (λ node. node.level) (sym one) ∙ level }
                  | inr goes ↦ absurd (not (child_in change.moved parent.key x goes))
                ]
            | inr apart ↦
                let above = twin_to q parent.node apart parent.is in
                record { node = above.0; is = above.1.is; key = parent.key; entry = entry_at parent.node.body above.0.body (parent.key, x) above.1.body parent.entry; level = sym above.1.level ∙ level }
          ]
      | hangs_moved mark moved was is ↦
          let entry = entry_of_child change.moved x moved in
          let child = shape.entry_down h change.node change.before entry.0 x (had_moved entry.0 x entry.1) in
          let one : child.node ≡ old = cc (child.is, twin.was) in
          let level : child.node.level ≡ old.level = ap (λ node. node.level) one in
          let same : r ≡ q = cc (is, place) in
          subst (Parent u x now) same (record { node = right; is = change.right_now; key = entry.0; entry = entry.1; level = child.level ∙ ap (λ level. level + 1) (level ∙ twin.level) })
    ]

    split_entry_up : (x : Handle) (node : Node C) → u.look x ≡ Some node → (q : Handle) (marked : Bool) → node.place ≡ Linked q marked → Parent u x node q
    split_entry_up =
        each_node (λ x n. (q : Handle) (marked : Bool) → n.place ≡ Linked q marked → Parent u x n q) left_up (λ q marked e. absurd (cc)) (λ x old now a b twin. other_up x old now twin)

    split_children_differ : (x : Handle) (node : Node C) → u.look x ≡ Some node → Differ (entries_of node.body)
    split_children_differ =
        let whole = shape.children_differ h change.node change.before in
        each_node (λ x n. Differ (entries_of n.body)) (one_pairs (λ one other. one.1 ≢ other.1) change.halves.entries whole) (one_pairs (λ one other. one.1 ≢ other.1) (turned change.halves.entries) whole) (λ x old now a b twin. subst (λ body. Differ (entries_of body)) twin.body (shape.children_differ x old twin.was))

    other_mark : (x : Handle) (old now : Node C) → Twin x old now → IsTrue (is_marked now.place) → Right u x now
    other_mark x old now twin marked =
        let beside = shape.mark_right x old twin.was (hangs_mark twin.place marked) in
        let apart : beside.right ≢ h = λ e.
        let one : beside.node ≡ change.node = cc (beside.is, change.before, e) in
        let place : beside.node.place ≡ change.node.place = ap (λ node. node.place) one in
        absurd (cc (place, beside.place, change.place)) in
        let next = twin_to beside.right beside.node apart beside.is in
        record { right = beside.right; is_right = sym twin.right ∙ beside.is_right; node = next.0; is = next.1.is; place = unlinked_stays next.1.place x beside.place; level = sym twin.level ∙ (beside.level ∙ next.1.level) }

    split_mark_right : (x : Handle) (node : Node C) → u.look x ≡ Some node → IsTrue (is_marked node.place) → Right u x node
    split_mark_right =
        each_node (λ x n. IsTrue (is_marked n.place) → Right u x n) (λ marked. record { right = r; is_right = refl; node = right; is = change.right_now; place = refl; level = refl }) (λ marked. let no : false ≡ true = marked in absurd (cc)) (λ x old now a b twin. other_mark x old now twin)

    right_left : (l : Handle) → Unlinked h ≡ Unlinked l → Left u r right l
    right_left l place =
        let same : h ≡ l = cc in
        subst (Left u r right) same (record { node = left; is = change.left_now; parent = change.parent; place = refl; right = refl; level = refl })

    other_left : (x : Handle) (old now : Node C) → Twin x old now → (l : Handle) → now.place ≡ Unlinked l → Left u x now l
    other_left x old now twin l place =
        let beside = shape.unlinked_left x old twin.was l (unlinked_was twin.place l place) in
        let apart : l ≢ h = λ e.
        let one : beside.node ≡ change.node = cc (beside.is, change.before, e) in
        let place : beside.node.place ≡ change.node.place = ap (λ node. node.place) one in
        absurd (cc (place, beside.place, change.place)) in
        let next = twin_to l beside.node apart beside.is in
        let stays = mark_stays next.1.place beside.parent true beside.place in
        record { node = next.0; is = next.1.is; parent = stays.0; place = stays.1; right = sym next.1.right ∙ beside.right; level = sym next.1.level ∙ (beside.level ∙ twin.level) }

    split_unlinked_left : (x : Handle) (node : Node C) → u.look x ≡ Some node → (l : Handle) → node.place ≡ Unlinked l → Left u x node l
    split_unlinked_left =
        each_node (λ x n. (l : Handle) → n.place ≡ Unlinked l → Left u x n l) (λ l e. absurd (cc)) right_left (λ x old now a b twin. other_left x old now twin)

    split_filled : (x : Handle) (node : Node C) → u.look x ≡ Some node → node.body ≡ Inner [] → ⊥
    split_filled =
        each_node (λ x n. n.body ≡ Inner [] → ⊥) (not_empty change.kept change.halves.one_filled) (not_empty change.moved change.halves.other_filled) (λ x old now a b twin empty. shape.inner_filled x old twin.was (twin.body ∙ empty))

    split_size : (x : Handle) (node : Node C) → u.look x ≡ Some node → size_of node.body ≤ NODE_SIZE
    split_size =
        let whole = shape.size h change.node change.before in
        let sum = halved_sizes change.halves in
        each_node (λ x n. size_of n.body ≤ NODE_SIZE) (omega arith) (omega arith) (λ x old now a b twin. subst (λ body. size_of body ≤ NODE_SIZE) twin.body (shape.size x old twin.was))

    top_was : (top : Node C) → u.look u.root ≡ Some top → (old : Node C) × Twin t.root old top
    top_was top is =
        let root = shape.root_place in
        twin_from t.root top root_not_left (stands_not_right t.root root.node root.is) (cc (change.clock.root, is))

    split_below_root : (x : Handle) (node top : Node C) → u.look x ≡ Some node → u.look u.root ≡ Some top → x ≢ u.root → node.level < top.level
    split_below_root x node top is is_top apart =
        let above = top_was top is_top in
        let top_level = above.1.level in
        let split_lower = shape.below_root h change.node above.0 change.before above.1.was (λ e. root_not_left (sym e)) in
        each_node (λ x n. x ≢ u.root → n.level < top.level) (λ apart. omega arith) (λ apart. omega arith) (λ x old now a b twin apart.
        let lower = shape.below_root x old above.0 twin.was above.1.was (λ e. apart (e ∙ sym change.clock.root)) in
        let level = twin.level in
        omega arith) x node is apart

    split_top_level : (top : Node C) → u.look u.root ≡ Some top → top.level ≤ TOP_LEVEL
    split_top_level top is_top =
        let above = top_was top is_top in
        let level = above.1.level in
        let high = shape.top_level above.0 above.1.was in
        omega arith

    split_retired_empty : (x : Handle) (node : Node C) → u.look x ≡ Some node → (stamp : ℕ) → node.place ≡ Retired stamp → node.body ≡ Leaf []
    split_retired_empty =
        each_node (λ x n. (stamp : ℕ) → n.place ≡ Retired stamp → n.body ≡ Leaf []) (λ stamp e. absurd (cc)) (λ stamp e. absurd (cc)) (λ x old now a b twin stamp place. sym twin.body ∙ shape.retired_empty x old twin.was stamp (retired_was twin.place stamp place))

    -- an old entry still covers its child
    child_covered : (p : Handle) (parent : Node C) → t.look p ≡ Some parent → (key : Key) (c : Handle) (node : Node C) → u.look c ≡ Some node → Contains (entries_of parent.body) (key, c) → CoversBody C key node.body
    child_covered p parent is key =
        each_node (λ c n. Contains (entries_of parent.body) (key, c) → CoversBody C key n.body) (λ has. covers_one change.halves key (shape.cover p parent is key h has change.node change.before)) (λ has. let child = shape.entry_down p parent is key r has in absurd (stands_not_right r child.node child.is refl)) (λ c old now a b twin has. covers_at old.body now.body key twin.body (shape.cover p parent is key c has old twin.was))

    split_cover : (p : Handle) (parent : Node C) → u.look p ≡ Some parent → (key : Key) (c : Handle) → Contains (entries_of parent.body) (key, c) → (node : Node C) → u.look c ≡ Some node → CoversBody C key node.body
    split_cover =
        each_node (λ p n. (key : Key) (c : Handle) → Contains (entries_of n.body) (key, c) → (node : Node C) → u.look c ≡ Some node → CoversBody C key node.body)
        (λ key c has node is. child_covered h change.node change.before key c node is (had_kept key c has))
        (λ key c has node is. child_covered h change.node change.before key c node is (had_moved key c has))
        (λ p old now a b twin key c has node is. child_covered p old twin.was key c node is (entry_at now.body old.body (key, c) (sym twin.body) has))

    -- and the right node of a marked child
    abbrev Beside : Key → Node C → Type 0
    Beside key n = IsTrue (is_marked n.place) → (x : Handle) (beside : Node C) → n.right ≡ Some x → u.look x ≡ Some beside → CoversBody C key beside.body

    left_beside : (p : Handle) (parent : Node C) → t.look p ≡ Some parent → (key : Key) → Contains (entries_of parent.body) (key, h) → Beside key left
    left_beside p parent is key has marked x beside to_right is_right =
        let same : x ≡ r = cc in
        let one : right ≡ beside = cc (change.right_now, is_right, same) in
        covers_at change.moved beside.body key (ap (λ node. node.body) one) (covers_other change.halves key (shape.cover p parent is key h has change.node change.before))

    other_beside : (p : Handle) (parent : Node C) → t.look p ≡ Some parent → (key : Key) (c : Handle) (old now : Node C) → Twin c old now → Contains (entries_of parent.body) (key, c) → Beside key now
    other_beside p parent is key c old now twin has marked x beside to_right is_right =
        let mark = hangs_mark twin.place marked in
        let next = shape.mark_right c old twin.was mark in
        let same : next.right ≡ x = cc (next.is_right, twin.right, to_right) in
        let apart : next.right ≢ h = λ e.
        let one : next.node ≡ change.node = cc (next.is, change.before, e) in
        let place : next.node.place ≡ change.node.place = ap (λ node. node.place) one in
        absurd (cc (place, next.place, change.place)) in
        let there = twin_to next.right next.node apart next.is in
        let one : there.0 ≡ beside = cc (there.1.is, is_right, same) in
        covers_at next.node.body beside.body key (there.1.body ∙ ap (λ node. node.body) one) (shape.cover_marked p parent is key c has old twin.was mark next.right next.node next.is_right next.is)

    beside_covered : (p : Handle) (parent : Node C) → t.look p ≡ Some parent → (key : Key) (c : Handle) (node : Node C) → u.look c ≡ Some node → Contains (entries_of parent.body) (key, c) → Beside key node
    beside_covered p parent is key =
        each_node (λ c n. Contains (entries_of parent.body) (key, c) → Beside key n) (left_beside p parent is key) (λ has. let child = shape.entry_down p parent is key r has in absurd (stands_not_right r child.node child.is refl)) (λ c old now a b twin. other_beside p parent is key c old now twin)

    split_cover_marked : (p : Handle) (parent : Node C) → u.look p ≡ Some parent → (key : Key) (c : Handle) → Contains (entries_of parent.body) (key, c) → (node : Node C) → u.look c ≡ Some node → Beside key node
    split_cover_marked =
        each_node (λ p n. (key : Key) (c : Handle) → Contains (entries_of n.body) (key, c) → (node : Node C) → u.look c ≡ Some node → Beside key node)
        (λ key c has node is. beside_covered h change.node change.before key c node is (had_kept key c has))
        (λ key c has node is. beside_covered h change.node change.before key c node is (had_moved key c has))
        (λ p old now a b twin key c has node is. beside_covered p old twin.was key c node is (entry_at now.body old.body (key, c) (sym twin.body) has))

    pub shape_split : Shape u
    shape_split =
        record {
          root_place = split_root_place;
          root_only = split_root_only;
          entry_down = split_entry_down;
          entry_up = split_entry_up;
          children_differ = split_children_differ;
          mark_right = split_mark_right;
          unlinked_left = split_unlinked_left;
          inner_filled = split_filled;
          size = split_size;
          below_root = split_below_root;
          top_level = split_top_level;
          retired_empty = split_retired_empty;
          cover = split_cover;
          cover_marked = split_cover_marked;
        }
