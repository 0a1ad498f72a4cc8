-- The steps of tending keep the tree's invariant.
use Rattle.std.proofs.Common.{◌≡◌, ◌≢◌, ◌==◌, ℕ, ◌+◌, ◌<◌, ◌≤◌, Bool, true, false, List, if◌then◌else◌, remove, Option, Some, None, OnSome, refl, sym, ap, subst, ◌∙◌, inl, inr, arith}
use Rattle.std.proofs.lemmas.Option.{slice_get_within}
use Rattle.std.specs.Option.{option_map}
use Rattle.node_arena.specs.Slots.{Slots, value_at, taken_count, slot_count, last_generation, IsChangedAt}
use Rattle.node_arena.specs.declared.handle.Handle.{Handle}
use Rattle.tree_theory.proofs.ContentsKept.{contents_freed, contents_retired}
use Rattle.tree_theory.proofs.ListLemmas.{handle_cases}
use Rattle.tree_theory.proofs.SearchKept.{root_not_retired}
use Rattle.tree_theory.proofs.SearchRetire.{searches_retired, searches_freed}
use Rattle.tree_theory.proofs.ShapeFree.{shape_freed}
use Rattle.tree_theory.proofs.ShapeRetire.{shape_retired}
use Rattle.tree_theory.specs.Changes.{IsRetired, IsFreed}
use Rattle.tree_theory.specs.KeyClasses.{Class}
use Rattle.tree_theory.specs.Nodes.{PlainNode, Node, entries_of, size_of}
use Rattle.tree_theory.specs.Nodes.PlainBody.{Leaf, Inner}
use Rattle.tree_theory.specs.declared.position.Position.TheVariants.{Retired as AtRest}
use Rattle.tree_nodes.specs.Arenas.{IsChanged, Holds}
use Rattle.search_tree.specs.Calls.{SameContents}
use Rattle.search_tree.specs.Tends.{HasTended, MayFree, MayRetire, slots_freed}
use Rattle.search_tree.specs.Trees.{PlainTree, IsSound, progress_at, level_of, tree_of}
use Rattle.tree_nodes.specs.Bodies.{IsInner}
use Rattle.tree_answers.specs.declared.answers.Tending.TheVariants.{Freed, Retired}
use Rattle.search_tree.proofs.Kept.{parts_of}
use Rattle.predicate_locks.specs.Searches.{search_at}
use Rattle.tree_nodes.proofs.ListEnds.{some_one}

on_there : {T P : Type 0} (o : Option T) (x : T) → o ≡ Some x → OnSome o P → P
on_there (Some y) x e given = given
on_there None x e given = absurd (cc (e))

one_at_most : (b : Bool) → (if b then 0 else 1) ≤ 1
one_at_most true = omega arith
one_at_most false = omega arith

-- no node is both a leaf and an inner node
pub body_apart : {Key Item : Type 0} (pairs : List (ℕ × Item)) (entries : List (Key × Handle)) (one other : PlainNode Key Item) → one.body ≡ Leaf pairs → other.body ≡ Inner entries → one ≡ other → ⊥
body_apart pairs entries one other leaf inner e = let same : one.body ≡ other.body = ap (λ node. node.body) e in absurd (cc (leaf, inner, same))

-- a change of a node that keeps its level
level_through : {Key Item : Type 0} (change : PlainNode Key Item → PlainNode Key Item) → ((node : PlainNode Key Item) → (change node).level ≡ node.level) → (o : Option (PlainNode Key Item)) → level_of (option_map change o) ≡ level_of o
level_through change same None = refl
level_through change same (Some node) = same node

-- a change of one node that keeps its level keeps every node's level
pub level_stays : {Key Item : Type 0} {old new : Slots (PlainNode Key Item)} {at : Handle} {change : PlainNode Key Item → PlainNode Key Item} (h : Handle) → IsChanged old new at change → ((node : PlainNode Key Item) → (change node).level ≡ node.level) → level_of (value_at new h) ≡ level_of (value_at old h)
level_stays {old = old} {new = new} {at = at} {change = change} h changed same = elim (handle_cases h at) [
  | inl e ↦ subst (λ x. level_of (value_at new x) ≡ level_of (value_at old x)) (sym e) (ap level_of changed.here ∙ level_through change same (value_at old at))
  | inr apart ↦ ap level_of (changed.others h apart)
]

module _ {Key Query Item : Type 0} (C : Class Key Query Item) (t : PlainTree Key Query Item) where
  -- a retired node is removed
  module _ (nodes : Slots (Node C)) (at : Handle) (may : MayFree C t at) (changed : IsChangedAt t.nodes nodes at None) (sound : IsSound C t) where
    abbrev let_go : PlainTree Key Query Item
    let_go = record t { nodes = nodes }

    pub freed_step : IsFreed (tree_of C t) (tree_of C let_go) at
    freed_step =
        record {
          node = may.node;
          stamp = may.stamp;
          place = may.place;
          all_later = λ s search is.
              let parts = parts_of (search_at t.running s) (progress_at s t.progress) search is in
              rw parts.begun (may.all_later s parts.run parts.is_run);
          before = may.is;
          gone = changed.here;
          others = changed.other_values;
          searches = record { search = λ s. refl };
          clock = record { root = refl; counter = refl; next = refl };
        }

    pub freed_sound : IsSound C let_go
    freed_sound =
        record {
          invariant = record { shape = shape_freed freed_step sound.invariant.shape; searches = searches_freed sound.invariant.shape sound.invariant.searches freed_step };
          progress_of_each = sound.progress_of_each;
          progress_once = sound.progress_once;
          limited = sound.limited;
        }

    pub freed_same : SameContents C t let_go
    freed_same xs = contents_freed sound.invariant.shape freed_step

    not_root : t.root ≢ at
    not_root e =
        let top = sound.invariant.shape.root_place in
        let same : top.node ≡ may.node = some_one (subst (λ h. value_at t.nodes h ≡ Some top.node) e top.is) may.is in
        root_not_retired top.node.place may.stamp top.place (ap (λ (n : Node C). n.place) same ∙ may.place)

    pub freed_slots : (gone : Option (Node C)) → gone ≡ value_at t.nodes at → OnSome gone (taken_count nodes + slots_freed at ≡ taken_count t.nodes) → taken_count nodes + slots_freed at ≡ taken_count t.nodes
    freed_slots gone was given = on_there gone may.node (was ∙ may.is) given

    pub freed_call : (gone : Option (Node C)) → gone ≡ value_at t.nodes at → OnSome gone (taken_count nodes + slots_freed at ≡ taken_count t.nodes) → slot_count nodes ≡ slot_count t.nodes → HasTended C t let_go Freed
    freed_call gone was given slots =
        let counted = freed_slots gone was given in
        let most = one_at_most (at.generation == last_generation) in
        record {
          searches = λ s. refl;
          steps = λ s. refl;
          running = refl;
          limit = refl;
          level = ap level_of (changed.other_values t.root not_root);
          slots = slots;
          counter = omega arith;
          taken = (omega (arith, counted, most), omega (arith, counted, most));
        }

  -- an empty leaf is retired
  module _ (mid nodes : Slots (Node C)) (at parent : Handle) (place counter : ℕ) (may : MayRetire C t at parent place) (stamped : IsChanged t.nodes mid at (λ n. record n { place = AtRest counter })) (removed : IsChanged mid nodes parent (λ n. record n { body = Inner (remove (entries_of n.body) place) })) (ticked : counter ≡ t.counter + 1) where
    abbrev let_out : PlainTree Key Query Item
    let_out = record t { nodes = nodes; counter = counter }

    leaf_apart : parent ≢ at
    leaf_apart e =
        let same : may.leaf ≡ may.node = some_one may.leaf_is (subst (λ h. value_at t.nodes h ≡ Some may.node) e may.is) in
        body_apart _ _ may.leaf may.node may.empty may.body same

    pub retired_step : IsRetired (tree_of C t) (tree_of C let_out) at parent
    retired_step =
        record {
          leaf = may.leaf;
          empty = may.empty;
          place = may.linked;
          node = may.node;
          entries = may.entries;
          body = may.body;
          more = may.more;
          index = place;
          key = may.key;
          entry = may.entry;
          leaf_before = may.leaf_is;
          parent_before = may.is;
          leaf_now = rw (removed.others at (λ e. leaf_apart (sym e)), stamped.here, may.leaf_is, ticked) refl;
          parent_now = rw (removed.here, stamped.others parent leaf_apart, may.is, may.body) refl;
          others = λ x not_leaf not_parent. removed.others x not_parent ∙ stamped.others x not_leaf;
          searches = record { search = λ s. refl };
          clock = record { root = refl; counter = ticked; next = refl };
        }

    pub retired_sound : IsSound C t → IsSound C let_out
    retired_sound sound =
        record {
          invariant = record { shape = shape_retired retired_step sound.invariant.shape; searches = searches_retired sound.invariant.shape sound.invariant.searches retired_step };
          progress_of_each = sound.progress_of_each;
          progress_once = sound.progress_once;
          limited = sound.limited;
        }

    pub retired_same : SameContents C t let_out
    retired_same xs = contents_retired retired_step

    pub retired_call : HasTended C t let_out Retired
    retired_call =
        record {
          searches = λ s. refl;
          steps = λ s. refl;
          running = refl;
          limit = refl;
          level = level_stays t.root removed (λ n. refl) ∙ level_stays t.root stamped (λ n. refl);
          slots = removed.counts.slots ∙ stamped.counts.slots;
          counter = ticked;
          taken = removed.counts.taken ∙ stamped.counts.taken;
        }

  -- the parent keeps its entries where only the leaf is changed
  module _ (mid : Slots (Node C)) (at parent : Handle) (place : ℕ) (change : Node C → Node C) (may : MayRetire C t at parent place) (stamped : IsChanged t.nodes mid at change) where
    apart : parent ≢ at
    apart e =
        let same : may.leaf ≡ may.node = some_one may.leaf_is (subst (λ h. value_at t.nodes h ≡ Some may.node) e may.is) in
        body_apart _ _ may.leaf may.node may.empty may.body same

    now_body : (node : Node C) → value_at mid parent ≡ Some node → node.body ≡ Inner may.entries
    now_body node is = ap (λ (n : Node C). n.body) (some_one is (stamped.others parent apart ∙ may.is)) ∙ may.body

    pub still_inner : Holds mid parent (λ n. IsInner n.body)
    still_inner node is = (may.entries, now_body node is)

    pub still_within : Holds mid parent (λ n. place < size_of n.body)
    still_within node is = subst (λ b. place < size_of b) (sym (now_body node is)) (slice_get_within may.entries place (may.key, at) may.entry)
