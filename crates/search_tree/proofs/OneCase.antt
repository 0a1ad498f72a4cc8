-- At most one case of a walk holds.
use Rattle.std.proofs.Common.{◌≡◌, ℕ, ◌<◌, ◌≤◌, true, false, List, Contains, Some, None, Option, Result, Err, refl, sym, ap, subst, ◌∙◌, inl, inr, arith}
use Rattle.std.proofs.lemmas.Bool.{cases_lt, cases_eq}
use Rattle.node_arena.specs.Slots.{value_at}
use Rattle.node_arena.specs.declared.handle.Handle.{Handle}
use Rattle.tree_theory.specs.KeyClasses.{Class}
use Rattle.tree_theory.specs.Nodes.{Node, size_of}
use Rattle.tree_theory.specs.Nodes.PlainBody.{Leaf, Inner}
use Rattle.tree_theory.specs.declared.TheConstants.{NODE_SIZE}
use Rattle.tree_theory.specs.declared.position.Position.{Position}
use Rattle.tree_theory.specs.declared.position.Position.TheVariants.{Root, Linked, Unlinked, Retired}
use Rattle.search_tree.specs.Answering.{HasEnds, AnswersAlike}
use Rattle.search_tree.specs.Cases.{Change, BeginsWith, IsUnderFull, MakesRoom, IsWayDown, IsAtLeaf, IsFree, Wants, Answers, TakesStep}
use Rattle.search_tree.specs.Cases.Change.{Parting}
use Rattle.search_tree.specs.Cases.BeginsWith.{has_room, under_linked, under_root, under_marked, under_unlinked}
use Rattle.search_tree.specs.Cases.Answers.{links, counter_ends, parts, no_slot, no_memory, grows, no_slots, top_level, no_memory_to_grow}
use Rattle.search_tree.specs.Cases.TakesStep.{begins_anew, climbs, descends, wants_memory, is_held, places, makes}
use Rattle.search_tree.specs.Dues.{LacksEntry}
use Rattle.tree_nodes.specs.Standings.{IsAside, IsCoveredBy, IsHere, IsNowhere, IsUnlinked}
use Rattle.search_tree.specs.Trees.{PlainTree, root_level, level_of}
use Rattle.search_tree.specs.Walks.{IsHolder}
use Rattle.tree_answers.specs.declared.answers.Step.{Step}
use Rattle.tree_answers.specs.declared.fault.TreeFault.{TreeFault}
use Rattle.tree_answers.specs.declared.fault.TreeFault.TheVariants.{Held}
use Rattle.tree_nodes.proofs.ListEnds.{some_one}

-- ---- the place of a node, as a number: gone or retired, unlinked, the root, or linked

abbrev kind_of_place : Position → ℕ
kind_of_place (Retired stamp) = 0
kind_of_place (Unlinked left) = 1
kind_of_place Root = 2
kind_of_place (Linked parent marked) = 3

same_linked : {p q : Handle} {m n : _} → Linked p m ≡ Linked q n → p ≡ q
same_linked e = cc e

same_unlinked : {p q : Handle} → Unlinked p ≡ Unlinked q → p ≡ q
same_unlinked e = cc e

module _ {Key Query Item : Type 0} (C : Class Key Query Item) (t : PlainTree Key Query Item) where
  abbrev kind_of : Option (Node C) → ℕ
  kind_of None = 0
  kind_of (Some node) = kind_of_place node.place

  kind_some : (at : Handle) (node : Node C) (place : Position) → value_at t.nodes at ≡ Some node → node.place ≡ place → kind_of (value_at t.nodes at) ≡ kind_of_place place
  kind_some at node place is stands = ap kind_of is ∙ ap kind_of_place stands

  kind_nowhere : (at : Handle) → IsNowhere t.nodes at → kind_of (value_at t.nodes at) ≡ 0
  kind_nowhere at nowhere = by (value_at t.nodes at) refl
    where
      by : (o : Option (Node C)) → value_at t.nodes at ≡ o → kind_of o ≡ 0
      by None is = refl
      by (Some node) is = let retired = nowhere node is in ap kind_of_place retired.1

  kind_unlinked : (at left : Handle) → IsUnlinked t.nodes at left → kind_of (value_at t.nodes at) ≡ 1
  kind_unlinked at left u = kind_some at u.node (Unlinked left) u.is u.place

  kind_aside : (at parent : Handle) (key : Key) → IsAside C t.nodes at parent key → kind_of (value_at t.nodes at) ≡ 3
  kind_aside at parent key a = kind_some at a.node (Linked parent a.marked) a.is a.place

  kind_here : (at : Handle) (key : Key) → IsHere C t.nodes at key → 2 ≤ kind_of (value_at t.nodes at)
  kind_here at key h = elim h.stands [
    | inl root ↦ let k = kind_some at h.node Root h.is root in omega (arith, k)
    | inr linked ↦ let k = kind_some at h.node (Linked linked.0 linked.1) h.is linked.2 in omega (arith, k)
  ]

  -- a node whose entry covers a key is not one whose entry does not
  here_not_aside : (at parent : Handle) (key : Key) → IsHere C t.nodes at key → IsAside C t.nodes at parent key → ⊥
  here_not_aside at parent key h a = elim h.stands [
    | inl root ↦
        let one = kind_some at h.node Root h.is root in
        let other = kind_aside at parent key a in
        absurd (omega (arith, one, other))
    | inr linked ↦
        let place : Linked linked.0 linked.1 ≡ Linked parent a.marked = sym linked.2 ∙ ap (λ (n : Node C). n.place) (some_one h.is a.is) ∙ a.place in
        a.uncovered (subst (λ p. IsCoveredBy C t.nodes p at key) (same_linked place) linked.3)
  ]

  -- ---- the first change to make

  under_one : (at p q : Handle) (place other : Position) → IsUnderFull C t at p place → IsUnderFull C t at q other → (p ≡ q) × (place ≡ other)
  under_one at p q place other one two =
      let linked : Linked p true ≡ Linked q true = sym one.linked ∙ ap (λ (n : Node C). n.place) (some_one one.is two.is) ∙ two.linked in
      let parent : p ≡ q = same_linked linked in
      let above : one.above ≡ two.above = some_one one.above_is (subst (λ h. value_at t.nodes h ≡ Some two.above) (sym parent) two.above_is) in
      (parent, sym one.stands ∙ ap (λ (n : Node C). n.place) above ∙ two.stands)

  room_not_full : (at p : Handle) (place : Position) → LacksEntry C t at → IsUnderFull C t at p place → ⊥
  room_not_full at p place lacks full =
      let linked : Linked lacks.parent true ≡ Linked p true = sym lacks.place ∙ ap (λ (n : Node C). n.place) (some_one lacks.is full.is) ∙ full.linked in
      let parent : lacks.parent ≡ p = same_linked linked in
      let above : lacks.above ≡ full.above = some_one lacks.above_is (subst (λ h. value_at t.nodes h ≡ Some full.above) (sym parent) full.above_is) in
      let size : size_of lacks.above.body ≡ NODE_SIZE = ap (λ (n : Node C). size_of n.body) above ∙ full.full in
      let room = lacks.room in
      omega (arith, size, room)

  begins_with_one : {c d : Change} {at : Handle} → BeginsWith C t c at → BeginsWith C t d at → c ≡ d
  begins_with_one (has_room r e) (has_room s f) = e ∙ sym f
  begins_with_one {at = at} (has_room r e) (under_linked u f) = absurd (room_not_full at _ _ r u)
  begins_with_one {at = at} (has_room r e) (under_root u f) = absurd (room_not_full at _ _ r u)
  begins_with_one {at = at} (has_room r e) (under_marked u f) = absurd (room_not_full at _ _ r u)
  begins_with_one {at = at} (has_room r e) (under_unlinked u f) = absurd (room_not_full at _ _ r u)
  begins_with_one {at = at} (under_linked u e) (has_room r f) = absurd (room_not_full at _ _ r u)
  begins_with_one {at = at} (under_root u e) (has_room r f) = absurd (room_not_full at _ _ r u)
  begins_with_one {at = at} (under_marked u e) (has_room r f) = absurd (room_not_full at _ _ r u)
  begins_with_one {at = at} (under_unlinked u e) (has_room r f) = absurd (room_not_full at _ _ r u)
  begins_with_one {at = at} (under_linked u e) (under_linked v f) = let same = under_one at _ _ _ _ u v in e ∙ ap Parting same.0 ∙ sym f
  begins_with_one {at = at} (under_linked u e) (under_root v f) = let same = (under_one at _ _ _ _ u v).1 in absurd cc
  begins_with_one {at = at} (under_linked u e) (under_marked v f) = let same = (under_one at _ _ _ _ u v).1 in absurd cc
  begins_with_one {at = at} (under_linked u e) (under_unlinked v f) = let same = (under_one at _ _ _ _ u v).1 in absurd cc
  begins_with_one {at = at} (under_root u e) (under_linked v f) = let same = (under_one at _ _ _ _ u v).1 in absurd cc
  begins_with_one (under_root u e) (under_root v f) = e ∙ sym f
  begins_with_one {at = at} (under_root u e) (under_marked v f) = let same = (under_one at _ _ _ _ u v).1 in absurd cc
  begins_with_one {at = at} (under_root u e) (under_unlinked v f) = let same = (under_one at _ _ _ _ u v).1 in absurd cc
  begins_with_one {at = at} (under_marked u b) (under_linked v f) = let same = (under_one at _ _ _ _ u v).1 in absurd cc
  begins_with_one {at = at} (under_marked u b) (under_root v f) = let same = (under_one at _ _ _ _ u v).1 in absurd cc
  begins_with_one {d = d} {at = at} (under_marked u b) (under_marked v w) = begins_with_one b (subst (λ h. BeginsWith C t d h) (sym (under_one at _ _ _ _ u v).0) w)
  begins_with_one {at = at} (under_marked u b) (under_unlinked v w) = let same = (under_one at _ _ _ _ u v).1 in absurd cc
  begins_with_one {at = at} (under_unlinked u b) (under_linked v f) = let same = (under_one at _ _ _ _ u v).1 in absurd cc
  begins_with_one {at = at} (under_unlinked u b) (under_root v f) = let same = (under_one at _ _ _ _ u v).1 in absurd cc
  begins_with_one {at = at} (under_unlinked u b) (under_marked v w) = let same = (under_one at _ _ _ _ u v).1 in absurd cc
  begins_with_one {d = d} {at = at} (under_unlinked u b) (under_unlinked v w) = begins_with_one b (subst (λ h. BeginsWith C t d h) (sym (same_unlinked (under_one at _ _ _ _ u v).1)) w)

  makes_room_one : (at : Handle) (place : Position) (c d : Change) → MakesRoom C t at place c → MakesRoom C t at place d → c ≡ d
  makes_room_one at Root c d e f = e ∙ sym f
  makes_room_one at (Linked parent false) c d e f = e ∙ sym f
  makes_room_one at (Linked parent true) c d b w = begins_with_one b w
  makes_room_one at (Unlinked left) c d b w = begins_with_one b w
  makes_room_one at (Retired stamp) c d b w = absurd b

  module _ (at : Handle) (item : Item) where
    -- the leaf is one
    leaf_one : (one other : Node C) → IsAtLeaf C t at item one → IsAtLeaf C t at item other → one ≡ other
    leaf_one one other a b = some_one a.is b.is

    wants_one : (c d : Change) → Wants C t at item c → Wants C t at item d → c ≡ d
    wants_one c d (inl one) (inl other) =
        let place : Unlinked one.0 ≡ Unlinked other.0 = sym one.1.place ∙ ap (λ (n : Node C). n.place) (some_one one.1.is other.1.is) ∙ other.1.place in
        begins_with_one one.2 (subst (λ h. BeginsWith C t d h) (sym (same_unlinked place)) other.2)
    wants_one c d (inl one) (inr other) = let k = kind_unlinked at one.0 one.1 in let l = kind_here at _ other.1.at_leaf.here in absurd (omega (arith, k, l))
    wants_one c d (inr one) (inl other) = let k = kind_unlinked at other.0 other.1 in let l = kind_here at _ one.1.at_leaf.here in absurd (omega (arith, k, l))
    wants_one c d (inr one) (inr other) =
        let same = leaf_one one.0 other.0 one.1.at_leaf other.1.at_leaf in
        makes_room_one at one.0.place c d one.3 (subst (λ (n : Node C). MakesRoom C t at n.place d) (sym same) other.3)

    -- a change is needed only at a right node without an entry, or at a leaf that is the root or
    -- whose entry covers the item
    wants_not_nowhere : (c : Change) → Wants C t at item c → IsNowhere t.nodes at → ⊥
    wants_not_nowhere c (inl one) nowhere = let k = kind_unlinked at one.0 one.1 in let l = kind_nowhere at nowhere in omega (arith, k, l)
    wants_not_nowhere c (inr one) nowhere = let k = kind_here at _ one.1.at_leaf.here in let l = kind_nowhere at nowhere in omega (arith, k, l)

    wants_not_aside : (c : Change) (parent : Handle) → Wants C t at item c → IsAside C t.nodes at parent (C.key_of item) → ⊥
    wants_not_aside c parent (inl one) aside = let k = kind_unlinked at one.0 one.1 in let l = kind_aside at parent _ aside in omega (arith, k, l)
    wants_not_aside c parent (inr one) aside = here_not_aside at parent _ one.1.at_leaf.here aside

    inner_not_leaf : (leaf : Node C) (growth second_growth : Key → Key → ℕ) (child : Handle) (old : Key) → IsAtLeaf C t at item leaf → IsWayDown C t growth second_growth at (C.key_of item) child old → ⊥
    inner_not_leaf leaf growth second_growth child old a w =
        let body : Leaf a.body.0 ≡ Inner w.entries = sym a.body.1 ∙ ap (λ (n : Node C). n.body) (some_one a.is w.is) ∙ w.body in
        absurd cc

    wants_not_down : (c : Change) (growth second_growth : Key → Key → ℕ) (child : Handle) (old : Key) → Wants C t at item c → IsWayDown C t growth second_growth at (C.key_of item) child old → ⊥
    wants_not_down c growth second_growth child old (inl one) w = let k = kind_unlinked at one.0 one.1 in let l = kind_here at _ w.here in omega (arith, k, l)
    wants_not_down c growth second_growth child old (inr one) w = inner_not_leaf one.0 growth second_growth child old one.1.at_leaf w

    held_not_free : (leaf other : Node C) (search : ℕ) → IsAtLeaf C t at item leaf → IsHolder C t.running leaf.attached item search → IsFree C t at item other → ⊥
    held_not_free leaf other search a holder free =
        let same = leaf_one leaf other a free.at_leaf in
        free.free search holder.search holder.runs (subst (λ (n : Node C). Contains n.attached search) same holder.is_attached) holder.matches

    wants_not_held : (c : Change) (leaf : Node C) (search : ℕ) → Wants C t at item c → IsAtLeaf C t at item leaf → IsHolder C t.running leaf.attached item search → ⊥
    wants_not_held c leaf search (inl one) a holder = let k = kind_unlinked at one.0 one.1 in let l = kind_here at _ a.here in omega (arith, k, l)
    wants_not_held c leaf search (inr one) a holder = held_not_free leaf one.0 search a holder one.1

    wants_not_placed : (c : Change) (leaf : Node C) → Wants C t at item c → IsFree C t at item leaf → size_of leaf.body < NODE_SIZE → ⊥
    wants_not_placed c leaf (inl one) free room = let k = kind_unlinked at one.0 one.1 in let l = kind_here at _ free.at_leaf.here in omega (arith, k, l)
    wants_not_placed c leaf (inr one) free room =
        let same = leaf_one leaf one.0 free.at_leaf one.1.at_leaf in
        let size : size_of leaf.body ≡ NODE_SIZE = ap (λ (n : Node C). size_of n.body) same ∙ one.2 in
        omega (arith, size, room)

    holder_one : (leaf other : Node C) (s r : ℕ) → IsAtLeaf C t at item leaf → IsHolder C t.running leaf.attached item s → IsAtLeaf C t at item other → IsHolder C t.running other.attached item r → s ≡ r
    holder_one leaf other s r a one b two =
        let same = leaf_one leaf other a b in
        elim (cases_lt s r) [
          | inl less ↦ absurd (two.least s one.search less one.runs (subst (λ (n : Node C). Contains n.attached s) same one.is_attached) one.matches)
          | inr from ↦ elim (cases_eq s r) [
            | inl e ↦ e
            | inr apart ↦ absurd (one.least r two.search (omega arith) two.runs (subst (λ (n : Node C). Contains n.attached r) (sym same) two.is_attached) two.matches)
          ]
        ]

  -- ---- results

  module _ (u v : PlainTree Key Query Item) (at one other : Handle) (picks : List Key → ℕ → Type 0) (ends : HasEnds u) (ends_too : HasEnds v) where
    answers_alike : {change : Change} {a b : Result Step TreeFault} → Answers C t u at one picks change a → Answers C t v at other picks change b → AnswersAlike a b
    answers_alike (links i e) (links j f) = inr (inr refl)
    answers_alike (links i e) (counter_ends last f) = let more = i.clock.counter in let most = ends.counter in absurd (omega (arith, more, most, last))
    answers_alike (counter_ends last e) (links j f) = let more = j.clock.counter in let most = ends_too.counter in absurd (omega (arith, more, most, last))
    answers_alike (counter_ends last e) (counter_ends end f) = inr (inr refl)
    answers_alike (parts s) (parts r) = inr (inr refl)
    answers_alike (parts s) (no_slot few f) = let more = s.more.taken in let most = ends.slots in absurd (omega (arith, more, most, few))
    answers_alike (no_slot few e) (parts r) = let more = r.more.taken in let most = ends_too.slots in absurd (omega (arith, more, most, few))
    answers_alike (no_slot few e) (no_slot less f) = inr (inr refl)
    answers_alike (no_memory some e) b = inl tt
    answers_alike (parts s) (no_memory some f) = inr (inl tt)
    answers_alike (no_slot few e) (no_memory some f) = inr (inl tt)
    answers_alike (grows g e) (grows h f) = inr (inr refl)
    answers_alike (grows g e) (no_slots few f) = let more = g.more.taken in let most = ends.slots in absurd (omega (arith, more, most, few))
    answers_alike (no_slots few e) (grows h f) = let more = h.more.taken in let most = ends_too.slots in absurd (omega (arith, more, most, few))
    answers_alike (grows g e) (top_level some top f) = let low = g.low in let level : root_level t ≡ g.node.level = ap level_of g.is in absurd (omega (arith, low, level, top))
    answers_alike (top_level some top e) (grows h f) = let low = h.low in let level : root_level t ≡ h.node.level = ap level_of h.is in absurd (omega (arith, low, level, top))
    answers_alike (no_slots few e) (no_slots less f) = inr (inr refl)
    answers_alike (no_slots few e) (top_level some top f) = absurd (omega (arith, few, some))
    answers_alike (top_level some top e) (no_slots few f) = absurd (omega (arith, few, some))
    answers_alike (top_level some top e) (top_level more high f) = inr (inr refl)
    answers_alike (no_memory_to_grow some low e) b = inl tt
    answers_alike (grows g e) (no_memory_to_grow some low f) = inr (inl tt)
    answers_alike (no_slots few e) (no_memory_to_grow some low f) = inr (inl tt)
    answers_alike (top_level some top e) (no_memory_to_grow more low f) = inr (inl tt)

    module _ (growth second_growth : Key → Key → ℕ) (pair : ℕ × Item) where
      pub steps_alike : {a b : Result Step TreeFault} → TakesStep C t u at one growth second_growth picks pair a → TakesStep C t v at other growth second_growth picks pair b → AnswersAlike a b
      steps_alike (wants_memory w s) b = inl tt
      steps_alike (begins_anew n s e) (wants_memory w r) = inr (inl tt)
      steps_alike (climbs n s) (wants_memory w r) = inr (inl tt)
      steps_alike (descends n s) (wants_memory w r) = inr (inl tt)
      steps_alike (is_held n h s) (wants_memory w r) = inr (inl tt)
      steps_alike (places n h s e) (wants_memory w r) = inr (inl tt)
      steps_alike (makes n s) (wants_memory w r) = inr (inl tt)
      steps_alike (begins_anew n s e) (begins_anew m r f) = inr (inr refl)
      steps_alike (begins_anew n s e) (climbs m r) = let k = kind_nowhere at n in let l = kind_aside at _ _ m in absurd (omega (arith, k, l))
      steps_alike (begins_anew n s e) (descends m r) = let k = kind_nowhere at n in let l = kind_here at _ m.here in absurd (omega (arith, k, l))
      steps_alike (begins_anew n s e) (is_held m h r) = let k = kind_nowhere at n in let l = kind_here at _ m.here in absurd (omega (arith, k, l))
      steps_alike (begins_anew n s e) (places m h r f) = let k = kind_nowhere at n in let l = kind_here at _ m.at_leaf.here in absurd (omega (arith, k, l))
      steps_alike (begins_anew n s e) (makes m r) = absurd (wants_not_nowhere at pair.1 _ m n)
      steps_alike (climbs n s) (begins_anew m r f) = let k = kind_nowhere at m in let l = kind_aside at _ _ n in absurd (omega (arith, k, l))
      steps_alike (climbs n s) (climbs m r) = inr (inr refl)
      steps_alike (climbs n s) (descends m r) = absurd (here_not_aside at _ _ m.here n)
      steps_alike (climbs n s) (is_held m h r) = absurd (here_not_aside at _ _ m.here n)
      steps_alike (climbs n s) (places m h r f) = absurd (here_not_aside at _ _ m.at_leaf.here n)
      steps_alike (climbs n s) (makes m r) = absurd (wants_not_aside at pair.1 _ _ m n)
      steps_alike (descends n s) (begins_anew m r f) = let k = kind_nowhere at m in let l = kind_here at _ n.here in absurd (omega (arith, k, l))
      steps_alike (descends n s) (climbs m r) = absurd (here_not_aside at _ _ n.here m)
      steps_alike (descends n s) (descends m r) = inr (inr refl)
      steps_alike (descends n s) (is_held m h r) = absurd (inner_not_leaf at pair.1 _ _ _ _ _ m n)
      steps_alike (descends n s) (places m h r f) = absurd (inner_not_leaf at pair.1 _ _ _ _ _ m.at_leaf n)
      steps_alike (descends n s) (makes m r) = absurd (wants_not_down at pair.1 _ _ _ _ _ m n)
      steps_alike (is_held n h s) (begins_anew m r f) = let k = kind_nowhere at m in let l = kind_here at _ n.here in absurd (omega (arith, k, l))
      steps_alike (is_held n h s) (climbs m r) = absurd (here_not_aside at _ _ n.here m)
      steps_alike (is_held n h s) (descends m r) = absurd (inner_not_leaf at pair.1 _ _ _ _ _ n m)
      steps_alike (is_held n h s) (is_held m j r) = let same = holder_one at pair.1 _ _ _ _ n h m j in inr (inr (ap (λ (k : ℕ). Err (Held k)) same))
      steps_alike (is_held n h s) (places m j r f) = absurd (held_not_free at pair.1 _ _ _ n h m)
      steps_alike (is_held n h s) (makes m r) = absurd (wants_not_held at pair.1 _ _ _ m n h)
      steps_alike (places n h s e) (begins_anew m r f) = let k = kind_nowhere at m in let l = kind_here at _ n.at_leaf.here in absurd (omega (arith, k, l))
      steps_alike (places n h s e) (climbs m r) = absurd (here_not_aside at _ _ n.at_leaf.here m)
      steps_alike (places n h s e) (descends m r) = absurd (inner_not_leaf at pair.1 _ _ _ _ _ n.at_leaf m)
      steps_alike (places n h s e) (is_held m j r) = absurd (held_not_free at pair.1 _ _ _ m j n)
      steps_alike (places n h s e) (places m j r f) = inr (inr refl)
      steps_alike (places n h s e) (makes m r) = absurd (wants_not_placed at pair.1 _ _ m n h)
      steps_alike (makes n s) (begins_anew m r f) = absurd (wants_not_nowhere at pair.1 _ n m)
      steps_alike (makes n s) (climbs m r) = absurd (wants_not_aside at pair.1 _ _ n m)
      steps_alike (makes n s) (descends m r) = absurd (wants_not_down at pair.1 _ _ _ _ _ n m)
      steps_alike (makes n s) (is_held m j r) = absurd (wants_not_held at pair.1 _ _ _ n m j)
      steps_alike (makes n s) (places m j r f) = absurd (wants_not_placed at pair.1 _ _ n m j)
      steps_alike {b = b} (makes {change = c} n s) (makes {change = d} m r) = answers_alike s (subst (λ k. Answers C t v at other picks k b) (sym (wants_one at pair.1 c d n m)) r)
