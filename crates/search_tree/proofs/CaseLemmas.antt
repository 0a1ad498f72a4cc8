-- What a walk finds to make room is the first change to make.
use Rattle.std.proofs.Common.{◌≡◌, ◌≢◌, ℕ, ◌+◌, ◌<◌, ◌≤◌, arith, true, false, [], Some, refl, ap, sym, subst, ◌∙◌, inl, inr}
use Rattle.std.proofs.lemmas.Bool.{cases_lt}
use Rattle.node_arena.specs.Slots.{value_at}
use Rattle.node_arena.specs.declared.handle.Handle.{Handle}
use Rattle.tree_theory.specs.KeyClasses.{Class}
use Rattle.tree_theory.specs.Nodes.{Body, Node, size_of}
use Rattle.tree_theory.specs.Nodes.PlainBody.{Leaf}
use Rattle.tree_theory.specs.declared.TheConstants.{NODE_SIZE, TOP_LEVEL}
use Rattle.tree_theory.specs.declared.position.Position.{Position}
use Rattle.tree_theory.specs.declared.position.Position.TheVariants.{Root, Linked, Unlinked, Retired}
use Rattle.search_tree.specs.Cases.{Change, BeginsWith, IsUnderFull, MakesRoom}
use Rattle.search_tree.specs.Cases.BeginsWith.{has_room, under_linked, under_root, under_marked, under_unlinked}
use Rattle.search_tree.specs.Cases.Change.{Linking}
use Rattle.search_tree.specs.Dues.{LacksEntry}
use Rattle.search_tree.specs.Nexts.{ComesTo, IsChange, IsMarkedFrom, LooksFrom, MayMake, room_by_place}
use Rattle.tree_nodes.specs.Standings.{IsMarkedUnder}
use Rattle.search_tree.specs.Trees.{PlainTree, IsSound}
use Rattle.search_tree.specs.declared.installing.NewEntry.{NewEntry}
use Rattle.search_tree.specs.declared.rooms.Room.{Room}
use Rattle.search_tree.specs.declared.rooms.Room.TheVariants.{Install, Split, Grow, Behind, Nothing}
use Rattle.tree_nodes.proofs.ListEnds.{some_one}

module _ {Key Query Item : Type 0} (C : Class Key Query Item) (t : PlainTree Key Query Item) where
  pub looks_lower : (low high : ℕ) (room : Room Key) → low ≤ high → LooksFrom C t high room → LooksFrom C t low room
  looks_lower low high (Install entry) less looks = tt
  looks_lower low high (Split at) less looks = tt
  looks_lower low high Grow less looks = tt
  looks_lower low high (Behind left) less looks =
      let above = looks.level_is in
      record { node = looks.node; is = looks.is; parent = looks.parent; linked = looks.linked; level_is = omega (arith, less, above); low = looks.low }
  looks_lower low high Nothing less looks = looks

  -- the first change where the parent of a marked node is full
  pub begins_above : (change : Change) (at parent : Handle) (above : Node C) (place : Position) → IsMarkedUnder t.nodes at parent → value_at t.nodes parent ≡ Some above → size_of above.body ≡ NODE_SIZE → above.place ≡ place → MakesRoom C t parent place change → BeginsWith C t change at
  begins_above change at parent above place marked is full stands makes = by place stands makes
    where
      under : (p : Position) → above.place ≡ p → IsUnderFull C t at parent p
      under p e = record { node = marked.node; is = marked.is; linked = marked.linked; above = above; above_is = is; full = full; stands = e }

      by : (p : Position) → above.place ≡ p → MakesRoom C t parent p change → BeginsWith C t change at
      by Root e makes = under_root (under Root e) makes
      by (Linked other false) e makes = under_linked (under (Linked other false) e) makes
      by (Linked other true) e makes = under_marked (under (Linked other true) e) makes
      by (Unlinked left) e makes = under_unlinked (under (Unlinked left) e) makes
      by (Retired stamp) e makes = absurd makes

  -- the first change in a full parent
  pub begins_there : (change : Change) (at parent : Handle) → IsMarkedUnder t.nodes at parent → (n : Node C) × (value_at t.nodes parent ≡ Some n) × (size_of n.body ≡ NODE_SIZE) × MakesRoom C t parent n.place change → BeginsWith C t change at
  begins_there change at parent marked found = begins_above change at parent found.0 found.0.place marked found.1 found.2 refl found.3

  pub begins_here : (change : Change) (at : Handle) (entry : NewEntry Key) → LacksEntry C t at → entry.left ≡ at → change ≡ Linking entry.left → BeginsWith C t change at
  begins_here change at entry lacks is_left is = has_room lacks (is ∙ ap Linking is_left)

  -- a node that is not marked
  pub unmarked : (at : Handle) (node : Node C) → value_at t.nodes at ≡ Some node → ((parent : Handle) → node.place ≡ Linked parent true → ⊥) → (level : ℕ) → IsMarkedFrom C t level at → ⊥
  unmarked at node is apart level from = apart from.parent (subst (λ (n : Node C). n.place ≡ Linked from.parent true) (some_one from.is is) from.linked)

  pub is_change : (level : ℕ) (room : Room Key) → TOP_LEVEL < level → LooksFrom C t level room → IsChange room
  is_change level (Install entry) high looks = tt
  is_change level (Split at) high looks = tt
  is_change level Grow high looks = tt
  is_change level (Behind left) high looks = (let below = looks.low in let up = looks.level_is in absurd (omega (arith, below, up, high)))
  is_change level Nothing high looks = looks

  pub is_change_now : (level : ℕ) (room : Room Key) → ((left : Handle) → room ≡ Behind left → ⊥) → LooksFrom C t level room → IsChange room
  is_change_now level (Install entry) not_behind looks = tt
  is_change_now level (Split at) not_behind looks = tt
  is_change_now level Grow not_behind looks = tt
  is_change_now level (Behind left) not_behind looks = not_behind left refl
  is_change_now level Nothing not_behind looks = looks

module _ {Key Query Item : Type 0} (C : Class Key Query Item) (t : PlainTree Key Query Item) (sound : IsSound C t) where
  -- a marked node is below the highest level
  below_top : (at parent : Handle) (node : Node C) → value_at t.nodes at ≡ Some node → node.place ≡ Linked parent true → node.level < TOP_LEVEL
  below_top at parent node is linked =
      let root = sound.invariant.shape.root_place in
      let apart : at ≢ t.root = λ e. linked_root (ap (λ (n : Node C). n.place) (some_one is (subst (λ h. value_at t.nodes h ≡ Some root.node) (sym e) root.is)) ∙ root.place) in
      let below = sound.invariant.shape.below_root at node root.node is root.is apart in
      let top = sound.invariant.shape.top_level root.node root.is in
      omega (arith, below, top)
    where
      linked_root : node.place ≡ Root → ⊥
      linked_root e = let both : Linked parent true ≡ Root = sym linked ∙ e in absurd (cc (both))

  -- the marked node to the left of one that has no entry yet
  pub looks_left : (at left : Handle) (node : Node C) → value_at t.nodes at ≡ Some node → node.place ≡ Unlinked left → IsMarkedFrom C t node.level left
  looks_left at left node is place =
      let beside = sound.invariant.shape.unlinked_left at node is left place in
      let level = beside.level in
      record { node = beside.node; is = beside.is; parent = beside.parent; linked = beside.place; level_is = omega (arith, level); low = below_top left beside.parent beside.node beside.is beside.place }

  pub looks_here : (at parent : Handle) (node : Node C) → value_at t.nodes at ≡ Some node → node.place ≡ Linked parent true → IsMarkedFrom C t node.level at
  looks_here at parent node is place = record { node = node; is = is; parent = parent; linked = place; level_is = omega arith; low = below_top at parent node is place }

  -- no full node is retired
  pub full_stays : (at : Handle) (stamp : ℕ) (node : Node C) → value_at t.nodes at ≡ Some node → node.place ≡ Retired stamp → size_of node.body ≡ NODE_SIZE → ⊥
  full_stays at stamp node is place full =
      let empty : node.body ≡ Leaf [] = sound.invariant.shape.retired_empty at node is stamp place in
      let size : NODE_SIZE ≡ 0 = sym full ∙ ap (λ (b : Body C). size_of b) empty in
      absurd (omega (arith, size))

  -- where the parent has no room for an install, what makes room there is higher
  pub looks_above : (level : ℕ) (at parent : Handle) (room : Room Key) → IsMarkedFrom C t level at → IsMarkedUnder t.nodes at parent → (LacksEntry C t at → ⊥) → ((node : Node C) → value_at t.nodes parent ≡ Some node → size_of node.body ≡ NODE_SIZE → LooksFrom C t node.level room) → LooksFrom C t (level + 1) room
  looks_above level at parent room from marked lacks looks =
      let up = sound.invariant.shape.entry_up at marked.node marked.is parent true marked.linked in
      let same : from.node ≡ marked.node = some_one from.is marked.is in
      let low : level ≤ marked.node.level = subst (λ (n : Node C). level ≤ n.level) same from.level_is in
      let step = up.level in
      let most = sound.invariant.shape.size parent up.node up.is in
      elim (cases_lt (size_of up.node.body) NODE_SIZE) [
        | inl room_left ↦ absurd (lacks (record { node = marked.node; is = marked.is; parent = parent; place = marked.linked; above = up.node; above_is = up.is; room = room_left }))
        | inr full ↦ looks_lower C t (level + 1) up.node.level room (omega (arith, low, step)) (looks up.node up.is (omega (arith, full, most)))
      ]

  module _ (at : Handle) (node : Node C) (is : value_at t.nodes at ≡ Some node) where
    pub not_full : size_of node.body < NODE_SIZE → (n : Node C) → value_at t.nodes at ≡ Some n → size_of n.body ≡ NODE_SIZE → ⊥
    not_full room n found full =
        let same : size_of node.body ≡ NODE_SIZE = ap (λ (m : Node C). size_of m.body) (some_one is found) ∙ full in
        absurd (omega (arith, room, same))

    -- what is found at a full node
    module _ (full : size_of node.body ≡ NODE_SIZE) where
      pub makes_here : (change : Change) → ComesTo C t (room_by_place at node.place) change → (n : Node C) × (value_at t.nodes at ≡ Some n) × (size_of n.body ≡ NODE_SIZE) × MakesRoom C t at n.place change
      makes_here change comes = (node, is, full, by node.place comes)
        where
          by : (place : Position) → ComesTo C t (room_by_place at place) change → MakesRoom C t at place change
          by Root comes = comes
          by (Linked parent true) comes = comes
          by (Linked parent false) comes = comes
          by (Unlinked left) comes = comes
          by (Retired stamp) comes = comes

      pub may_here : MayMake C t (room_by_place at node.place)
      may_here = by node.place refl
        where
          by : (place : Position) → node.place ≡ place → MayMake C t (room_by_place at place)
          by Root e = record { node = node; is = subst (λ h. value_at t.nodes h ≡ Some node) (sound.invariant.shape.root_only at node is e) is; full = full }
          by (Linked parent true) e = tt
          by (Linked parent false) e = record { node = node; is = is; parent = parent; linked = e; full = full }
          by (Unlinked left) e = tt
          by (Retired stamp) e = tt

      pub looks_from : (n : Node C) → value_at t.nodes at ≡ Some n → LooksFrom C t n.level (room_by_place at node.place)
      looks_from n found = subst (λ (m : Node C). LooksFrom C t m.level (room_by_place at node.place)) (some_one is found) (by node.place refl)
        where
          by : (place : Position) → node.place ≡ place → LooksFrom C t node.level (room_by_place at place)
          by Root e = tt
          by (Linked parent true) e = looks_here at parent node is e
          by (Linked parent false) e = tt
          by (Unlinked left) e = looks_left at left node is e
          by (Retired stamp) e = full_stays at stamp node is e full
