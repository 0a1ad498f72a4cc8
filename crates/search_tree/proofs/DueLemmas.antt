-- Tending finds exactly what is due at a node.
use Rattle.std.proofs.Common.{◌≡◌, ◌↔◌, ℕ, ◌+◌, ◌<◌, ◌≤◌, arith, Bool, true, false, List, [], Contains, IsTrue, IfNone, length, map, slice_get, Option, None, Some, refl, ap, sym, subst, ◌∙◌, ⊎_elim}
use Rattle.std.proofs.lemmas.Bool.{cases_lt}
use Rattle.std.proofs.lemmas.List.{length-map}
use Rattle.std.proofs.lemmas.Option.{slice_get_within}
use Rattle.node_arena.specs.Slots.{value_at}
use Rattle.node_arena.specs.declared.handle.Handle.{Handle}
use Rattle.predicate_locks.specs.Searches.{AllBegunSince}
use Rattle.search_tree.proofs.NeedLemmas.{at_rest}
use Rattle.tree_nodes.proofs.ListEnds.{some_one, place_in}
use Rattle.search_tree.specs.Dues.{LacksEntry, IsUnneeded, HasUnkept, NothingDue}
use Rattle.search_tree.specs.Needs.{stamp_at}
use Rattle.search_tree.specs.Trees.{PlainTree, IsSound}
use Rattle.tree_nodes.specs.Bodies.{IsInner}
use Rattle.tree_theory.proofs.ListLemmas.{nothing_in, map_in, got_in}
use Rattle.tree_theory.specs.KeyClasses.{Class}
use Rattle.tree_theory.specs.Nodes.{Body, Node, PlainBody, is_marked, children_of, entries_of, pairs_of, size_of}
use Rattle.tree_theory.specs.Nodes.PlainBody.{Leaf, Inner}
use Rattle.tree_theory.specs.declared.TheConstants.{NODE_SIZE}
use Rattle.tree_theory.specs.declared.position.Position.{Position}
use Rattle.tree_theory.specs.declared.position.Position.TheVariants.{Linked, Retired}

pub on_none : {T P : Type 0} (o : Option T) → P → IfNone o P
on_none None p = p
on_none (Some x) p = tt

pub there_below : {K : Type 0} (entries : List (K × Handle)) (keys : List K) (children : List Handle) (place : ℕ) (child : Handle) → keys ≡ map (λ (e : K × Handle). e.0) entries → children ≡ map (λ (e : K × Handle). e.1) entries → slice_get children place ≡ Some child → place < length keys
there_below {K} entries keys children place child keys_are children_are there =
    let below = slice_get_within children place child there in
    let keys_length : length keys ≡ length entries = ap (λ (l : List K). length l) keys_are ∙ length-map entries (λ (e : K × Handle). e.0) in
    let children_length : length children ≡ length entries = ap (λ (l : List Handle). length l) children_are ∙ length-map entries (λ (e : K × Handle). e.1) in
    omega (arith, below, keys_length, children_length)

module _ {Item : Type 0} (keep : ℕ → Item → Bool) (pairs : List (ℕ × Item)) (i : ℕ) (before : (j : ℕ) (pair : ℕ × Item) → j < i → slice_get pairs j ≡ Some pair → IsTrue (keep pair.0 pair.1)) where
  pub next_kept : (x : ℕ × Item) → slice_get pairs i ≡ Some x → IsTrue (keep x.0 x.1) → (j : ℕ) (pair : ℕ × Item) → j < i + 1 → slice_get pairs j ≡ Some pair → IsTrue (keep pair.0 pair.1)
  next_kept x here kept j pair below there = ⊎_elim (λ less. before j pair less there) (λ past. last (omega arith)) (cases_lt j i)
    where
      last : j ≡ i → IsTrue (keep pair.0 pair.1)
      last e = let same : x ≡ pair = some_one (subst (λ k. slice_get pairs k ≡ Some x) (sym e) here) there in subst (λ (p : ℕ × Item). IsTrue (keep p.0 p.1)) same kept

  pub all_kept : length pairs ≤ i → (place : ℕ) (pair : ℕ × Item) → slice_get pairs place ≡ Some pair → IsTrue (keep pair.0 pair.1)
  all_kept past place pair there = before place pair (omega (arith, past, slice_get_within pairs place pair there)) there

told_true : (told : Bool) → (told ≡ false → ⊥) → IsTrue told
told_true true given = refl
told_true false given = absurd (given refl)

with_entry : {Key Item : Type 0} (body : PlainBody Key Item) (entry : Key × Handle) → Contains (entries_of body) entry → IsInner body
with_entry (Leaf pairs) entry has = absurd (nothing_in entry has)
with_entry (Inner entries) entry has = (entries, refl)

same_parent : {p q : Handle} {a b : Bool} → Linked p a ≡ Linked q b → p ≡ q
same_parent e = cc (e)

not_retired : {p : Handle} {a : Bool} {s : ℕ} {place : Position} → place ≡ Retired s → place ≡ Linked p a → ⊥
not_retired {p = p} {a = a} {s = s} rest linked = let both : Retired s ≡ Linked p a = sym rest ∙ linked in absurd (cc (both))

module _ {Key Query Item : Type 0} (C : Class Key Query Item) (t : PlainTree Key Query Item) (sound : IsSound C t) where
  -- the parent of a linked node is an inner node, and one of its children is the node
  pub record IsBelow (at : Handle) (node : Node C) : Type 0 where
    pub inner : IsInner node.body
    pub place : ℕ
    pub child : slice_get (children_of node.body) place ≡ Some at

  below : (at parent : Handle) (marked : Bool) (child node : Node C) → value_at t.nodes at ≡ Some child → child.place ≡ Linked parent marked → value_at t.nodes parent ≡ Some node → IsBelow at node
  below at parent marked child node here linked above =
      let up = sound.invariant.shape.entry_up at child here parent marked linked in
      let same : up.node ≡ node = some_one up.is above in
      let entry : Contains (entries_of node.body) (up.key, at) = subst (λ (n : Node C). Contains (entries_of n.body) (up.key, at)) same up.entry in
      let found = place_in (children_of node.body) at (map_in (λ (e : Key × Handle). e.1) (entries_of node.body) (up.key, at) entry) in
      record { inner = with_entry node.body (up.key, at) entry; place = found.0; child = found.1 }

  module _ (at parent : Handle) (left node : Node C) (here : value_at t.nodes at ≡ Some left) where
    module _ (linked : left.place ≡ Linked parent true) where
      module _ (above : value_at t.nodes parent ≡ Some node) where
        pub lacks : size_of node.body < NODE_SIZE → LacksEntry C t at
        lacks room = record { node = left; is = here; parent = parent; place = linked; above = node; above_is = above; room = room }

        same_above : (due : LacksEntry C t at) → due.above ≡ node
        same_above due =
            let child : due.node ≡ left = some_one due.is here in
            let place : Linked due.parent true ≡ Linked parent true = sym due.place ∙ ap (λ (n : Node C). n.place) child ∙ linked in
            let up : due.parent ≡ parent = same_parent place in
            some_one (subst (λ h. value_at t.nodes h ≡ Some due.above) up due.above_is) above

        pub full_lacks_none : (IsInner node.body → size_of node.body < NODE_SIZE → ⊥) → LacksEntry C t at → ⊥
        full_lacks_none full due =
            full (below at parent true left node here linked above).inner (subst (λ (n : Node C). size_of n.body < NODE_SIZE) (same_above due) due.room)

        pub nowhere_lacks_none : ((place : ℕ) → slice_get (children_of node.body) place ≡ Some at → ⊥) → LacksEntry C t at → ⊥
        nowhere_lacks_none nowhere due = let b = below at parent true left node here linked above in nowhere b.place b.child

      marked : IsTrue (is_marked left.place)
      marked = subst (λ p. IsTrue (is_marked p)) (sym linked) refl

      pub no_right_lacks_none : left.right ≡ None → LacksEntry C t at → ⊥
      no_right_lacks_none none due =
          let beside = sound.invariant.shape.mark_right at left here marked in
          let both : Some beside.right ≡ None = sym beside.is_right ∙ none in
          absurd (cc (both))

      pub gone_right_lacks_none : (right : Handle) → left.right ≡ Some right → value_at t.nodes right ≡ None → LacksEntry C t at → ⊥
      gone_right_lacks_none right is_right gone due =
          let beside = sound.invariant.shape.mark_right at left here marked in
          let same : beside.right ≡ right = some_one beside.is_right is_right in
          let both : Some beside.node ≡ None = sym (subst (λ h. value_at t.nodes h ≡ Some beside.node) same beside.is) ∙ gone in
          absurd (cc (both))

    module _ (linked : left.place ≡ Linked parent false) (above : value_at t.nodes parent ≡ Some node) where
      pub unneeded : left.body ≡ Leaf [] → 1 < size_of node.body → IsUnneeded C t at
      unneeded empty others = record { leaf = left; is = here; empty = empty; parent = parent; place = linked; above = node; above_is = above; others = others }

      pub alone_needed : (IsInner node.body → 1 < size_of node.body → ⊥) → IsUnneeded C t at → ⊥
      alone_needed alone due =
          let child : due.leaf ≡ left = some_one due.is here in
          let place : Linked due.parent false ≡ Linked parent false = sym due.place ∙ ap (λ (n : Node C). n.place) child ∙ linked in
          let up : due.parent ≡ parent = same_parent place in
          let same : due.above ≡ node = some_one (subst (λ h. value_at t.nodes h ≡ Some due.above) up due.above_is) above in
          alone (below at parent false left node here linked above).inner (subst (λ (n : Node C). 1 < size_of n.body) same due.others)

      pub nowhere_needed : ((place : ℕ) → slice_get (children_of node.body) place ≡ Some at → ⊥) → IsUnneeded C t at → ⊥
      nowhere_needed nowhere due = let b = below at parent false left node here linked above in nowhere b.place b.child

  pub unkept_there : (keep : ℕ → Item → Bool) (at : Handle) (node : Node C) (pairs : List (ℕ × Item)) (told : Bool) → value_at t.nodes at ≡ Some node → pairs ≡ pairs_of node.body
      → (IsTrue told → (place : ℕ) × (pair : ℕ × Item) × (slice_get pairs place ≡ Some pair) × (keep pair.0 pair.1 ≡ false))
      → (told ≡ false → (place : ℕ) (pair : ℕ × Item) → slice_get pairs place ≡ Some pair → IsTrue (keep pair.0 pair.1))
      → (IsTrue told ↔ HasUnkept C t (λ pair. IsTrue (keep pair.0 pair.1)) at)
  unkept_there keep at node pairs told here are some none = (forth, back)
    where
      forth : IsTrue told → HasUnkept C t (λ pair. IsTrue (keep pair.0 pair.1)) at
      forth is_so =
          let found = some is_so in
          record {
            node = node;
            is = here;
            pair = found.1;
            holds = subst (λ (ps : List (ℕ × Item)). Contains ps found.1) are (got_in pairs found.0 found.1 found.2);
            unkept = λ kept. let both : false ≡ true = sym found.3 ∙ kept in absurd (cc (both));
          }

      back : HasUnkept C t (λ pair. IsTrue (keep pair.0 pair.1)) at → IsTrue told
      back due =
          let same : due.node ≡ node = some_one due.is here in
          let has : Contains pairs due.pair = subst (λ (ps : List (ℕ × Item)). Contains ps due.pair) (sym are) (subst (λ (n : Node C). Contains (pairs_of n.body) due.pair) same due.holds) in
          let found = place_in pairs due.pair has in
          told_true told (λ no. due.unkept (none no found.0 due.pair found.1))

  -- nothing is due at a retired node that a running search may still visit
  awaited_here : (Kept : ℕ × Item → Type 0) (at : Handle) (node : Node C) (stamp : ℕ) → value_at t.nodes at ≡ Some node → node.place ≡ Retired stamp → (AllBegunSince t.running stamp → ⊥) → NothingDue C t Kept at
  awaited_here Kept at node stamp here rest some_earlier =
      record {
        stays = λ due. some_earlier (subst (AllBegunSince t.running) (same_stamp due.node due.stamp due.place (some_one due.is here)) due.all_later);
        linked = λ due. not_retired (ap (λ (n : Node C). n.place) (some_one due.is here) ∙ rest) due.place;
        clean = λ due. let empty : due.node.body ≡ Leaf [] = ap (λ (n : Node C). n.body) (some_one due.is here) ∙ sound.invariant.shape.retired_empty at node here stamp rest in nothing_in due.pair (subst (λ (b : Body C). Contains (pairs_of b) due.pair) empty due.holds);
        needed = λ due. not_retired (ap (λ (n : Node C). n.place) (some_one due.is here) ∙ rest) due.place;
      }
    where
      same_stamp : (other : Node C) (s : ℕ) → other.place ≡ Retired s → other ≡ node → s ≡ stamp
      same_stamp other s e same = let both : Retired s ≡ Retired stamp = sym e ∙ ap (λ (n : Node C). n.place) same ∙ rest in cc (both)

  pub awaited : (Kept : ℕ × Item → Type 0) (at : Handle) (stamp : ℕ) → stamp_at (value_at t.nodes at) ≡ Some stamp → (AllBegunSince t.running stamp → ⊥) → NothingDue C t Kept at
  awaited Kept at stamp is some_earlier = let found = at_rest (value_at t.nodes at) stamp is in awaited_here Kept at found.0 stamp found.1 found.2 some_earlier
