-- The split of a node keeps the tree's invariant.
use Rattle.std.proofs.Common.{◌≡◌, ◌≢◌, ◌⊎◌, ℕ, List, Contains, Option, None, Some, Result, Ok, Err, IfOk, OnOk, OnErr, false, refl, sym, ap, subst, ◌∙◌, inl, inr, arith}
use Rattle.std.specs.Option.{option_map}
use Rattle.node_arena.specs.Slots.{Slots, value_at}
use Rattle.node_arena.specs.declared.handle.Handle.{Handle}
use Rattle.tree_theory.proofs.ContentsSplit.{contents_split}
use Rattle.tree_theory.proofs.ListLemmas.{handle_cases, child_cases}
use Rattle.tree_theory.proofs.SearchSplit.{searches_split}
use Rattle.tree_theory.proofs.ShapeSplit.{shape_split}
use Rattle.tree_theory.specs.Changes.{IsHalved, IsSplit}
use Rattle.tree_theory.specs.KeyClasses.{Class}
use Rattle.tree_theory.specs.Nodes.{PlainBody, PlainNode, Node, children_of, under}
use Rattle.tree_theory.specs.declared.position.Position.TheVariants.{Linked}
use Rattle.tree_nodes.specs.Arenas.{IsChanged, AreSame}
use Rattle.search_tree.specs.Calls.{IsUntouched}
use Rattle.tree_nodes.specs.Halvings.{IsPickedOut}
use Rattle.search_tree.specs.Splitting.{HasMoreNodes, HasSplit}
use Rattle.tree_nodes.specs.NewNodes.{IsPutOver, MoreTaken, left_of, right_of}
use Rattle.search_tree.specs.Trees.{PlainTree, IsSound, level_of, tree_of}
use Rattle.tree_answers.specs.declared.fault.TreeFault.{TreeFault}
use Rattle.search_tree.proofs.WalkSteps.{same_sound, untouched_call}

-- an option is not both `Some` and `None`
pub nothing_there : {T : Type 0} {o : Option T} {x : T} → o ≡ Some x → o ≡ None → ⊥
nothing_there some none = absurd (cc)

module _ {Key Item : Type 0} where
  -- a node keeps its level under another parent
  pub under_level : (parent : Handle) (o : Option (PlainNode Key Item)) → level_of (option_map (under parent) o) ≡ level_of o
  under_level parent None = refl
  under_level parent (Some node) = refl

  -- a change of one node keeps the counts of slots
  pub more_changed : {old mid new : Slots (PlainNode Key Item)} {at : Handle} {change : PlainNode Key Item → PlainNode Key Item} (more : ℕ) → MoreTaken old mid more → IsChanged mid new at change → MoreTaken old new more
  more_changed more before changed =
      let taken = changed.counts.taken in
      let slots = changed.counts.slots in
      let had = before.taken in
      let kept = before.slots_kept in
      let most = before.slots_most in
      record { taken = omega (arith, taken, had); slots_kept = omega (arith, slots, kept); slots_most = omega (arith, slots, most) }

  pub more_after : {old mid new : Slots (PlainNode Key Item)} (more : ℕ) → AreSame old mid → MoreTaken mid new more → MoreTaken old new more
  more_after more same after =
      let taken = same.counts.taken in
      let slots = same.counts.slots in
      let has = after.taken in
      let kept = after.slots_kept in
      let most = after.slots_most in
      record { taken = omega (arith, taken, has); slots_kept = omega (arith, slots, kept); slots_most = omega (arith, slots, most) }

  module _ (key_of : Item → Key) (picks : List Key → ℕ → Type 0) (old mid new : Slots (PlainNode Key Item)) (at right parent : Handle) (node made : PlainNode Key Item) (kept moved : PlainBody Key Item) (children : List Handle) (is : value_at old at ≡ Some node) (linked : node.place ≡ Linked parent false) (halves : IsHalved node.body kept moved) (picked : IsPickedOut key_of picks node.body kept moved) (made_is : made ≡ right_of node at moved) (children_are : children ≡ children_of made.body) (put : IsPutOver old mid made children right) (more : MoreTaken old mid 1) (changed : IsChanged mid new at (λ n. left_of n parent right kept)) where
    apart : at ≢ right
    apart e = nothing_there is (subst (λ h. value_at old h ≡ None) (sym e) put.fresh)

    moved_are : children ≡ children_of moved
    moved_are = children_are ∙ ap (λ (n : PlainNode Key Item). children_of n.body) made_is

    left_stands : Contains children at ⊎ (Contains children at → ⊥) → value_at new at ≡ Some (left_of node parent right kept)
    left_stands (inl has) = rw (changed.here, put.adopted at apart has, is) refl
    left_stands (inr not) = rw (changed.here, put.others at apart not, is) refl

    right_stands : Contains children right ⊎ (Contains children right → ⊥) → value_at mid right ≡ Some (right_of node at moved)
    right_stands (inl has) = put.here_under has ∙ ap (λ (n : PlainNode Key Item). Some (under right n)) made_is
    right_stands (inr not) = put.here not ∙ ap Some made_is

    pub split_done : HasSplit key_of picks old new at right
    split_done =
        record {
          node = node;
          is = is;
          parent = parent;
          linked = linked;
          kept = kept;
          moved = moved;
          halves = halves;
          picked = picked;
          fresh = put.fresh;
          left_now = left_stands (child_cases children at);
          right_now = changed.others right (λ e. apart (sym e)) ∙ right_stands (child_cases children right);
          children = λ h not_at not_right has. changed.others h not_at ∙ put.adopted h not_right (subst (λ xs. Contains xs h) (sym moved_are) has);
          others = λ h not_at not_right not. changed.others h not_at ∙ put.others h not_right (λ has. not (subst (λ xs. Contains xs h) moved_are has));
          more = more_changed 1 more changed;
        }

  -- a split after a reservation, which changes spare room alone
  pub split_after : (key_of : Item → Key) (picks : List Key → ℕ → Type 0) (old mid new : Slots (PlainNode Key Item)) (at right : Handle) → AreSame old mid → HasSplit key_of picks mid new at right → HasSplit key_of picks old new at right
  split_after key_of picks old mid new at right same split =
      record {
        node = split.node;
        is = sym (same.each at) ∙ split.is;
        parent = split.parent;
        linked = split.linked;
        kept = split.kept;
        moved = split.moved;
        halves = split.halves;
        picked = split.picked;
        fresh = sym (same.each right) ∙ split.fresh;
        left_now = split.left_now;
        right_now = split.right_now;
        children = λ h not_at not_right has. split.children h not_at not_right has ∙ ap (option_map (under right)) (same.each h);
        others = λ h not_at not_right not. split.others h not_at not_right not ∙ same.each h;
        more = more_after 1 same split.more;
      }

module _ {Key Query Item : Type 0} (C : Class Key Query Item) (t : PlainTree Key Query Item) (nodes : Slots (Node C)) (at : Handle) where
  abbrev parted : PlainTree Key Query Item
  parted = record t { nodes = nodes }

  module _ {picks : List Key → ℕ → Type 0} (right : Handle) (split : HasSplit C.key_of picks t.nodes nodes at right) where
    split_step : IsSplit (tree_of C t) (tree_of C parted) at right
    split_step =
        record {
          node = split.node;
          parent = split.parent;
          place = split.linked;
          kept = split.kept;
          moved = split.moved;
          halves = split.halves;
          attached = split.node.attached;
          numbers = record { keeps = λ s search is has. has; only = λ s has. inl has };
          before = split.is;
          fresh = split.fresh;
          left_now = split.left_now;
          right_now = split.right_now;
          children = split.children;
          others = split.others;
          searches = record { search = λ s. refl };
          clock = record { root = refl; counter = refl; next = refl };
        }

    split_sound : IsSound C t → IsSound C parted
    split_sound sound =
        record {
          invariant = record { shape = shape_split split_step sound.invariant.shape; searches = searches_split sound.invariant.shape sound.invariant.searches split_step };
          progress_of_each = sound.progress_of_each;
          progress_once = sound.progress_once;
          limited = sound.limited;
        }

    root_level_stays : IsSound C t → level_of (value_at nodes t.root) ≡ level_of (value_at t.nodes t.root)
    root_level_stays sound =
        elim (handle_cases t.root at) [
          | inl e ↦ subst (λ h. level_of (value_at nodes h) ≡ level_of (value_at t.nodes h)) (sym e) (ap level_of split.left_now ∙ sym (ap level_of split.is))
          | inr not_at ↦ elim (child_cases (children_of split.moved) t.root) [
            | inl has ↦ ap level_of (split.children t.root not_at not_right has) ∙ under_level right (value_at t.nodes t.root)
            | inr not ↦ ap level_of (split.others t.root not_at not_right not)
          ]
        ]
      where
        not_right : t.root ≢ right
        not_right e = nothing_there sound.invariant.shape.root_place.is (subst (λ h. value_at t.nodes h ≡ None) (sym e) split.fresh)

    split_call : IsSound C t → HasMoreNodes C t parted 1 0
    split_call sound =
        let level = root_level_stays sound in
        record {
          nodes_alone = refl;
          contents = λ xs. contents_split split_step;
          searches = λ s. refl;
          steps = λ s. refl;
          running = refl;
          limit = refl;
          counter = refl;
          level = omega (arith, level);
          more = split.more;
        }

  pub split_sound_either : (picks : List Key → ℕ → Type 0) (result : Result Handle TreeFault) → IfOk result (HasSplit C.key_of picks t.nodes nodes at) → OnErr result (AreSame t.nodes nodes) → IsSound C t → IsSound C parted
  split_sound_either picks (Ok right) split same sound = split_sound right split sound
  split_sound_either picks (Err fault) split same sound = same_sound C t nodes same sound

  pub split_call_ok : (picks : List Key → ℕ → Type 0) (result : Result Handle TreeFault) → IfOk result (HasSplit C.key_of picks t.nodes nodes at) → IsSound C t → OnOk result (HasMoreNodes C t parted 1 0)
  split_call_ok picks (Ok right) split sound = split_call right split sound
  split_call_ok picks (Err fault) split sound = tt

  pub split_call_err : (result : Result Handle TreeFault) → OnErr result (AreSame t.nodes nodes) → IsSound C t → OnErr result (IsUntouched C t parted)
  split_call_err (Ok right) same sound = tt
  split_call_err (Err fault) same sound = untouched_call C t nodes same sound
