-- The steps of a walk keep the tree's invariant.
use Rattle.std.proofs.Common.{◌≡◌, ◌∙◌, ℕ, ◌<◌, List, [], ◌∷◌, ◌++◌, true, filter, slice_get, slice_set, Option, Some, None, refl, sym, ap, subst, inl, inr}
use Rattle.std.proofs.lemmas.Option.{slice_get_within}
use Rattle.std.specs.Option.{option_map}
use Rattle.node_arena.specs.Slots.{Slots}
use Rattle.node_arena.specs.declared.handle.Handle.{Handle}
use Rattle.predicate_locks.specs.Numbers.{with_numbers}
use Rattle.predicate_locks.specs.Searches.{search_at, does_run}
use Rattle.tree_theory.proofs.ContentsKept.{contents_closed, contents_placed, contents_joined, contents_enlarged}
use Rattle.tree_theory.proofs.Ready.{places_behind_none}
use Rattle.tree_theory.proofs.SearchPlace.{searches_placed, searches_joined, searches_enlarged}
use Rattle.tree_theory.proofs.SearchVisit.{searches_closed}
use Rattle.tree_theory.proofs.ShapeKept.{shape_closed, shape_joined}
use Rattle.tree_theory.proofs.ShapePlace.{shape_placed}
use Rattle.tree_theory.proofs.ShapeEnlarge.{shape_enlarged}
use Rattle.tree_theory.specs.Changes.{IsClosed, IsPlaced, IsJoined, IsEnlarged, MayJoin}
use Rattle.tree_theory.specs.KeyClasses.{Class, Laws}
use Rattle.tree_theory.specs.Nodes.{Node, Search, entries_of, pairs_of, size_of}
use Rattle.tree_theory.specs.Nodes.PlainBody.{Leaf, Inner}
use Rattle.search_tree.specs.Advances.{HasPlacedBehindNone}
use Rattle.tree_nodes.specs.Arenas.{IsChanged, AreSame, Holds}
use Rattle.search_tree.specs.Calls.{IsAlike, IsUntouched}
use Rattle.search_tree.specs.Trees.{PlainTree, SeenSearch, IsSound, level_of, search_in, search_of, seen, progress_at, tree_of}
use Rattle.tree_nodes.specs.Bodies.{IsInner}
use Rattle.search_tree.specs.Walks.{MayPlace, HasEnlarged, HasPlaced, MayJoinAll, HasJoined, MayEnlarge}
use Rattle.search_tree.proofs.Complete.{nothing_left}
use Rattle.search_tree.proofs.Kept.{Parts, parts_of, with_all_kept}
use Rattle.tree_nodes.proofs.ListEnds.{some_one}
use Rattle.search_tree.proofs.TreeSteps.{same_tree}
use Rattle.search_tree.proofs.VisitSteps.{level_kept}

module _ {Key Query Item : Type 0} (C : Class Key Query Item) (t : PlainTree Key Query Item) (nodes : Slots (Node C)) where
  abbrev now : PlainTree Key Query Item
  now = record t { nodes = nodes }

  -- a search that runs in the theory runs
  running : (s : ℕ) (search : Search C) → search_of (search_at t.running s) (progress_at s t.progress) ≡ Some search → Parts (search_at t.running s) (progress_at s t.progress) search
  running s search is = parts_of (search_at t.running s) (progress_at s t.progress) search is

  pub placed_step : (at : Handle) (pair : ℕ × Item) → MayPlace C t at pair → IsChanged t.nodes nodes at (λ n. record n { body = Leaf (pairs_of n.body ++ pair ∷ []) }) → IsPlaced (tree_of C t) (tree_of C now) at pair
  placed_step at pair may changed =
      record {
        node = may.node;
        pairs = may.pairs;
        body = may.body;
        room = may.room;
        may_take = may.may_take;
        none_matches = λ s search is attached matches.
            let parts = running s search is in
            may.none_matches s parts.run parts.is_run attached (subst (λ q. C.Matches pair.1 q) parts.query matches);
        nodes = record { before = may.is; after = rw (changed.here, may.is, may.body) refl; others = changed.others };
        searches = record { search = λ s. refl };
        clock = record { root = refl; counter = refl; next = refl };
      }

  pub placed_sound : Laws C → (at : Handle) (pair : ℕ × Item) → MayPlace C t at pair → IsChanged t.nodes nodes at (λ n. record n { body = Leaf (pairs_of n.body ++ pair ∷ []) }) → IsSound C t → IsSound C now
  placed_sound laws at pair may changed sound =
      let step = placed_step at pair may changed in
      record {
        invariant = record { shape = shape_placed laws sound.invariant.shape step; searches = searches_placed sound.invariant.shape sound.invariant.searches step };
        progress_of_each = sound.progress_of_each;
        progress_once = sound.progress_once;
        limited = sound.limited;
      }

  placed_call : (at : Handle) (pair : ℕ × Item) → MayPlace C t at pair → IsChanged t.nodes nodes at (λ n. record n { body = Leaf (pairs_of n.body ++ pair ∷ []) }) → HasPlaced C t now pair
  placed_call at pair may changed =
      record {
        contents = λ xs. contents_placed (placed_step at pair may changed);
        searches = λ s. refl;
        steps = λ s. refl;
        running = refl;
        counts = record { counter = refl; limit = refl; level = level_kept C t 0 0 nodes at _ changed (λ n. refl); taken = changed.counts.taken; slots = changed.counts.slots };
      }

  -- no ready search looks for what is placed
  behind_none : Laws C → (at : Handle) (pair : ℕ × Item) → MayPlace C t at pair → IsChanged t.nodes nodes at (λ n. record n { body = Leaf (pairs_of n.body ++ pair ∷ []) }) → IsSound C t → (s : ℕ) (found : SeenSearch Query Item) → search_in t s ≡ Some found → found.ready ≡ true → C.Matches pair.1 found.query → ⊥
  behind_none laws at pair may changed sound s found is ready matches = by (search_of (search_at t.running s) (progress_at s t.progress)) refl is
    where
      by : (o : Option (Search C)) → search_of (search_at t.running s) (progress_at s t.progress) ≡ o → option_map seen o ≡ Some found → ⊥
      by None e none = absurd (cc (none))
      by (Some plain) e some =
          let same : seen plain ≡ found = cc (some) in
          let empty : plain.stack ≡ [] = nothing_left plain.stack (ap (λ (x : SeenSearch Query Item). x.ready) same ∙ ready) in
          places_behind_none laws (tree_of C t) sound.invariant (tree_of C now) at pair (placed_step at pair may changed) s plain (record { running = e; stack = empty }) (subst (λ q. C.Matches pair.1 q) (sym (ap (λ (x : SeenSearch Query Item). x.query) same)) matches)

  pub placed_behind_none : Laws C → (at : Handle) (pair : ℕ × Item) → MayPlace C t at pair → IsChanged t.nodes nodes at (λ n. record n { body = Leaf (pairs_of n.body ++ pair ∷ []) }) → IsSound C t → HasPlacedBehindNone C t now pair
  placed_behind_none laws at pair may changed sound = record { placed = placed_call at pair may changed; behind = behind_none laws at pair may changed sound }

  joined_step : (at : Handle) (more : List ℕ) → MayJoinAll C t at more → IsChanged t.nodes nodes at (λ n. record n { attached = filter (does_run t.running) (with_numbers more n.attached) }) → IsJoined (tree_of C t) (tree_of C now) at
  joined_step at more may changed =
      record {
        node = may.node;
        attached = _;
        numbers = with_all_kept C t (MayJoin (tree_of C t) at may.node) more may.node.attached may.each;
        nodes = record { before = may.is; after = rw (changed.here, may.is) refl; others = changed.others };
        searches = record { search = λ s. refl };
        clock = record { root = refl; counter = refl; next = refl };
      }

  pub joined_sound : Laws C → (at : Handle) (more : List ℕ) → MayJoinAll C t at more → IsChanged t.nodes nodes at (λ n. record n { attached = filter (does_run t.running) (with_numbers more n.attached) }) → IsSound C t → IsSound C now
  joined_sound laws at more may changed sound =
      let step = joined_step at more may changed in
      record {
        invariant = record { shape = shape_joined sound.invariant.shape step; searches = searches_joined laws sound.invariant.shape sound.invariant.searches step };
        progress_of_each = sound.progress_of_each;
        progress_once = sound.progress_once;
        limited = sound.limited;
      }

  pub joined_call : (at : Handle) (more : List ℕ) → MayJoinAll C t at more → IsChanged t.nodes nodes at (λ n. record n { attached = filter (does_run t.running) (with_numbers more n.attached) }) → HasJoined C t now at more
  joined_call at more may changed =
      record {
        only_nodes = refl;
        changed = changed;
        alike = record {
          searches = λ s. refl;
          steps = λ s. refl;
          running = refl;
          contents = λ xs. contents_joined (joined_step at more may changed);
          counts = record { counter = refl; limit = refl; level = level_kept C t 0 0 nodes at _ changed (λ n. refl); taken = changed.counts.taken; slots = changed.counts.slots };
        };
      }

  -- where no node has changed
  same_step : AreSame t.nodes nodes → IsSound C t → IsClosed (tree_of C t) (tree_of C now) t.running.next
  same_step same sound = same_tree C (tree_of C t) (tree_of C now) sound.invariant same.each refl refl refl (λ s. refl)

  pub same_sound : AreSame t.nodes nodes → IsSound C t → IsSound C now
  same_sound same sound =
      let step = same_step same sound in
      record {
        invariant = record { shape = shape_closed sound.invariant.shape step; searches = searches_closed sound.invariant.shape sound.invariant.searches step };
        progress_of_each = sound.progress_of_each;
        progress_once = sound.progress_once;
        limited = sound.limited;
      }

  pub same_call : AreSame t.nodes nodes → IsSound C t → IsAlike C t now
  same_call same sound =
      record {
        searches = λ s. refl;
        steps = λ s. refl;
        running = refl;
        contents = λ xs. contents_closed (same_step same sound);
        counts = record { counter = refl; limit = refl; level = ap level_of (same.each t.root); taken = same.counts.taken; slots = same.counts.slots };
      }

  pub untouched_call : AreSame t.nodes nodes → IsSound C t → IsUntouched C t now
  untouched_call same sound =
      record {
        alike = same_call same sound;
        root = refl;
        nodes = record { look = same.each };
        searches = record { search = λ s. refl };
      }

  enlarged_step : (p : Handle) (place : ℕ) (old key : Key) (child : Handle) → MayEnlarge C t p place old key child → IsChanged t.nodes nodes p (λ n. record n { body = Inner (slice_set (entries_of n.body) place (C.united old key, child)) }) → IsEnlarged (tree_of C t) (tree_of C now) p key
  enlarged_step p place old key child may changed =
      record {
        node = may.node;
        entries = may.entries;
        body = may.body;
        index = place;
        old = old;
        child = child;
        entry = may.entry;
        may_take = may.may_take;
        seen = λ s search is attached consistent.
            let parts = running s search is in
            elim (may.seen s parts.run parts.is_run attached (subst (λ q. C.Consistent (C.united old key) q) parts.query consistent)) [
              | inl before ↦ inl (subst (λ q. C.Consistent old q) (sym parts.query) before)
              | inr done ↦ inr (record { node = done.0; is = done.1; attached = done.2 })
            ];
        nodes = record { before = may.is; after = rw (changed.here, may.is, may.body) refl; others = changed.others };
        searches = record { search = λ s. refl };
        clock = record { root = refl; counter = refl; next = refl };
      }

  pub has_enlarged : (p : Handle) (place : ℕ) (old key : Key) (child : Handle) → MayEnlarge C t p place old key child → IsChanged t.nodes nodes p (λ n. record n { body = Inner (slice_set (entries_of n.body) place (C.united old key, child)) }) → HasEnlarged C t now p old key child
  unfolding enlarged_step
  has_enlarged p place old key child may changed = record { step = enlarged_step p place old key child may changed; old_is = refl; child_is = refl }

  pub enlarged_sound : Laws C → (p : Handle) (place : ℕ) (old key : Key) (child : Handle) → MayEnlarge C t p place old key child → IsChanged t.nodes nodes p (λ n. record n { body = Inner (slice_set (entries_of n.body) place (C.united old key, child)) }) → IsSound C t → IsSound C now
  enlarged_sound laws p place old key child may changed sound =
      let step = enlarged_step p place old key child may changed in
      record {
        invariant = record { shape = shape_enlarged laws sound.invariant.shape step; searches = searches_enlarged sound.invariant.shape sound.invariant.searches step };
        progress_of_each = sound.progress_of_each;
        progress_once = sound.progress_once;
        limited = sound.limited;
      }

  pub enlarged_call : (p : Handle) (place : ℕ) (old key : Key) (child : Handle) → MayEnlarge C t p place old key child → IsChanged t.nodes nodes p (λ n. record n { body = Inner (slice_set (entries_of n.body) place (C.united old key, child)) }) → IsAlike C t now
  enlarged_call p place old key child may changed =
      record {
        searches = λ s. refl;
        steps = λ s. refl;
        running = refl;
        contents = λ xs. contents_enlarged (enlarged_step p place old key child may changed);
        counts = record { counter = refl; limit = refl; level = level_kept C t 0 0 nodes p _ changed (λ n. refl); taken = changed.counts.taken; slots = changed.counts.slots };
      }

module _ {Key Query Item : Type 0} (C : Class Key Query Item) (t : PlainTree Key Query Item) (p : Handle) (place : ℕ) (old key : Key) (child : Handle) (may : MayEnlarge C t p place old key child) where
  pub entry_inner : Holds t.nodes p (λ n. IsInner n.body)
  entry_inner node is = (may.entries, ap (λ (n : Node C). n.body) (some_one is may.is) ∙ may.body)

  pub entry_within : Holds t.nodes p (λ n. place < size_of n.body)
  entry_within node is = subst (λ (n : Node C). place < size_of n.body) (some_one may.is is) (rw may.body (slice_get_within may.entries place (old, child) may.entry))

  pub entry_there : Holds t.nodes p (λ n. slice_get (entries_of n.body) place ≡ Some (old, child))
  entry_there node is = subst (λ (n : Node C). slice_get (entries_of n.body) place ≡ Some (old, child)) (some_one may.is is) (rw may.body may.entry)
