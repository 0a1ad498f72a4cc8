-- The root's growth keeps the tree's invariant.
use Rattle.std.proofs.Common.{◌≡◌, ◌≢◌, ℕ, ◌+◌, ◌<◌, ◌≤◌, List, Contains, IsSome, Option, None, Some, Result, Ok, Err, OnOk, OnErr, refl, sym, ap, subst, ◌∙◌, inl, inr, arith}
use Rattle.std.specs.Option.{option_map}
use Rattle.node_arena.specs.Slots.{Slots, value_at}
use Rattle.node_arena.specs.declared.handle.Handle.{Handle}
use Rattle.tree_theory.proofs.ContentsKept.{stands_some, none_stands}
use Rattle.tree_theory.proofs.ContentsSplit.{contents_grown}
use Rattle.tree_theory.proofs.ListLemmas.{child_cases, one_in, other_in}
use Rattle.tree_theory.proofs.SearchSplit.{searches_grown}
use Rattle.tree_theory.proofs.ShapeGrow.{shape_grown}
use Rattle.tree_theory.proofs.ShapeLists.{parts_differ}
use Rattle.tree_theory.proofs.ShapeSplit.{child_in, entry_of_child}
use Rattle.tree_theory.specs.Changes.{IsHalved, IsGrown}
use Rattle.tree_theory.specs.KeyClasses.{Class}
use Rattle.tree_theory.specs.Nodes.{PlainBody, PlainNode, Body, Node, children_of, size_of, place_under, under}
use Rattle.tree_theory.specs.declared.TheConstants.{NODE_SIZE, TOP_LEVEL}
use Rattle.tree_theory.specs.declared.position.Position.TheVariants.{Root}
use Rattle.tree_nodes.specs.Arenas.{AreSame, Holds}
use Rattle.search_tree.specs.Calls.{IsUntouched}
use Rattle.tree_nodes.specs.Halvings.{IsPickedOut}
use Rattle.search_tree.specs.Splitting.{HasGrown, HasMoreNodes, HasPutBelow, IsFullRoot, IsLower, MayGrow, MayRise}
use Rattle.tree_nodes.specs.NewNodes.{IsPutOver, below}
use Rattle.search_tree.specs.Trees.{PlainTree, IsSound, level_of, tree_of}
use Rattle.tree_answers.specs.declared.fault.TreeFault.{TreeFault}
use Rattle.search_tree.proofs.SplitSteps.{nothing_there, more_after}
use Rattle.tree_nodes.proofs.ListEnds.{some_one}
use Rattle.search_tree.proofs.WalkSteps.{same_sound, untouched_call}

-- a mapped option is `None` only where the option is
map_nothing : {T : Type 0} (f : T → T) (o : Option T) → option_map f o ≡ None → o ≡ None
map_nothing f None e = refl
map_nothing f (Some x) e = absurd (cc)

module _ {Key Item : Type 0} where
  -- the root has no parent to change
  root_stays : (parent : Handle) (node : PlainNode Key Item) → node.place ≡ Root → under parent node ≡ node
  root_stays parent node place = ap (λ p. record node { place = p }) (subst (λ p. place_under parent p ≡ p) (sym place) refl)

  module _ {old new : Slots (PlainNode Key Item)} {made : PlainNode Key Item} {children : List Handle} {p : Handle} (put : IsPutOver old new made children p) where
    -- a handle that names a node is not the new one
    not_new : {h : Handle} {node : PlainNode Key Item} → value_at old h ≡ Some node → h ≢ p
    not_new is e = nothing_there is (subst (λ h. value_at old h ≡ None) (sym e) put.fresh)

    root_there : (root : Handle) (node : PlainNode Key Item) → value_at old root ≡ Some node → node.place ≡ Root → value_at new root ≡ Some node
    root_there root node is place = elim (child_cases children root) [
      | inl has ↦ put.adopted root (not_new is) has ∙ (ap (option_map (under p)) is ∙ ap Some (root_stays p node place))
      | inr not ↦ put.others root (not_new is) not ∙ is
    ]

    -- a handle other than the new node's that names nothing now named nothing before
    was_nothing : (h : Handle) → h ≢ p → value_at new h ≡ None → value_at old h ≡ None
    was_nothing h apart none = elim (child_cases children h) [
      | inl has ↦ map_nothing (under p) (value_at old h) (sym (put.adopted h apart has) ∙ none)
      | inr not ↦ sym (put.others h apart not) ∙ none
    ]

    new_stands : (now : PlainNode Key Item) × (value_at new p ≡ Some now)
    new_stands = elim (child_cases children p) [
      | inl has ↦ (under p made, put.here_under has)
      | inr not ↦ (made, put.here not)
    ]

    -- each old node is still there, on its level
    still_there : (h : Handle) (node : PlainNode Key Item) → value_at old h ≡ Some node → (now : PlainNode Key Item) × (value_at new h ≡ Some now) × (now.level ≡ node.level)
    still_there h node is = elim (child_cases children h) [
      | inl has ↦ (under p node, put.adopted h (not_new is) has ∙ ap (option_map (under p)) is, refl)
      | inr not ↦ (node, put.others h (not_new is) not ∙ is, refl)
    ]

  -- the node at a full root
  abbrev pub same_full : (nodes : Slots (PlainNode Key Item)) (root : Handle) → IsFullRoot nodes root → (node : PlainNode Key Item) → value_at nodes root ≡ Some node → IsFullRoot nodes root
  same_full nodes root full node is =
      let same = some_one full.is is in
      record {
        node = node;
        is = is;
        place = subst (λ (n : PlainNode Key Item). n.place ≡ Root) same full.place;
        full = subst (λ (n : PlainNode Key Item). size_of n.body ≡ NODE_SIZE) same full.full;
        low = subst (λ (n : PlainNode Key Item). n.level ≤ TOP_LEVEL) same full.low;
        children = subst (λ (n : PlainNode Key Item). (child : Handle) → Contains (children_of n.body) child → IsSome (value_at nodes child)) same full.children;
      }

  pub root_low : (nodes : Slots (PlainNode Key Item)) (root : Handle) (full : IsFullRoot nodes root) → level_of (value_at nodes root) ≢ TOP_LEVEL → full.node.level < TOP_LEVEL
  root_low nodes root full not_top =
      let low = full.low in
      let level : level_of (value_at nodes root) ≡ full.node.level = ap level_of full.is in
      omega (arith, low, level, not_top)

  pub may_rise : (nodes : Slots (PlainNode Key Item)) (root : Handle) → IsFullRoot nodes root → level_of (value_at nodes root) ≢ TOP_LEVEL → MayRise nodes root
  may_rise nodes root full not_top = record { node = full.node; is = full.is; below_top = root_low nodes root full not_top }

  pub still_rises : {old mid last : Slots (PlainNode Key Item)} {one two : PlainNode Key Item} {ones twos : List Handle} {a b : Handle} (root : Handle) → MayRise old root → IsPutOver old mid one ones a → IsPutOver mid last two twos b → Holds last root (λ n. n.level < TOP_LEVEL)
  still_rises root may put_one put_two node is =
      let first = still_there put_one root may.node may.is in
      let second = still_there put_two root first.0 first.1 in
      let same : second.0.level ≡ node.level = ap (λ (n : PlainNode Key Item). n.level) (some_one second.1 is) in
      let one = second.2 in
      let two = first.2 in
      let low = may.below_top in
      omega (arith, same, one, two, low)

  -- a part's children are those of the whole
  child_of_one : {whole one two : PlainBody Key Item} → IsHalved whole one two → (h : Handle) → Contains (children_of one) h → Contains (children_of whole) h
  child_of_one {whole = whole} {one = one} halves h has = let entry = entry_of_child one h has in child_in whole entry.0 h (one_in (entry.0, h) halves.entries entry.1)

  child_of_two : {whole one two : PlainBody Key Item} → IsHalved whole one two → (h : Handle) → Contains (children_of two) h → Contains (children_of whole) h
  child_of_two {whole = whole} {two = two} halves h has = let entry = entry_of_child two h has in child_in whole entry.0 h (other_in (entry.0, h) halves.entries entry.1)

module _ {Key Query Item : Type 0} (C : Class Key Query Item) (picks : List Key → ℕ → Type 0) (old new : Slots (Node C)) (root : Handle) (seq : ℕ) (full : IsFullRoot old root) (low : full.node.level < TOP_LEVEL) (one two : Body C) (halves : IsHalved full.node.body one two) (picked : IsPickedOut C.key_of picks full.node.body one two) (one_node two_node : Node C) (ones twos : List Handle) (one_key two_key : Key) (low_one : IsLower C (below full.node root seq one) one_node ones one_key) (low_two : IsLower C (below full.node root seq two) two_node twos two_key) (put : HasPutBelow old new root one_node ones one_key two_node twos two_key) where
  not_a : root ≢ put.a
  not_a = not_new put.put_one full.is

  root_mid : value_at put.mid root ≡ Some full.node
  root_mid = root_there put.put_one root full.node full.is full.place

  not_b : root ≢ put.b
  not_b = not_new put.put_two root_mid

  differ : put.a ≢ put.b
  differ = not_new put.put_two (new_stands put.put_one).1

  fresh_two : value_at old put.b ≡ None
  fresh_two = was_nothing put.put_one put.b (λ e. differ (sym e)) put.put_two.fresh

  -- the children are in the arena, so none of them is new
  not_child : (h : Handle) → value_at old h ≡ None → Contains (children_of full.node.body) h → ⊥
  not_child h none has = none_stands (value_at old h) none (full.children h has)

  in_one : (h : Handle) → Contains ones h → Contains (children_of one) h
  in_one h has = subst (λ xs. Contains xs h) low_one.children_are has

  in_two : (h : Handle) → Contains twos h → Contains (children_of two) h
  in_two h has = subst (λ xs. Contains xs h) low_two.children_are has

  of_one : (h : Handle) → Contains (children_of one) h → Contains ones h
  of_one h has = subst (λ xs. Contains xs h) (sym low_one.children_are) has

  of_two : (h : Handle) → Contains (children_of two) h → Contains twos h
  of_two h has = subst (λ xs. Contains xs h) (sym low_two.children_are) has

  pub grown_done : HasGrown C picks old new root seq
  grown_done =
      record {
        node = full.node;
        is = full.is;
        place = full.place;
        low = low;
        a = put.a;
        b = put.b;
        one = one;
        two = two;
        halves = halves;
        picked = picked;
        one_key = one_key;
        one_union = low_one.union;
        two_key = two_key;
        two_union = low_two.union;
        differ = differ;
        fresh_one = put.put_one.fresh;
        fresh_two = fresh_two;
        root_now = rw (put.risen.here, root_there put.put_two root full.node root_mid full.place) refl;
        one_now = put.risen.others put.a (λ e. not_a (sym e)) ∙ (put.put_two.others put.a differ (λ has. not_child put.a put.put_one.fresh (child_of_two halves put.a (in_two put.a has))) ∙ (put.put_one.here (λ has. not_child put.a put.put_one.fresh (child_of_one halves put.a (in_one put.a has))) ∙ ap Some low_one.is));
        two_now = put.risen.others put.b (λ e. not_b (sym e)) ∙ (put.put_two.here (λ has. not_child put.b fresh_two (child_of_two halves put.b (in_two put.b has))) ∙ ap Some low_two.is);
        one_children = λ h apart not_one not_two has not. put.risen.others h apart ∙ (put.put_two.others h not_two (λ there. not (in_two h there)) ∙ put.put_one.adopted h not_one (of_one h has));
        two_children = λ h apart not_one not_two has not. put.risen.others h apart ∙ (put.put_two.adopted h not_two (of_two h has) ∙ ap (option_map (under put.b)) (put.put_one.others h not_one (λ there. not (in_one h there))));
        others = λ h apart not_one not_two no_one no_two. put.risen.others h apart ∙ (put.put_two.others h not_two (λ there. no_two (in_two h there)) ∙ put.put_one.others h not_one (λ there. no_one (in_one h there)));
        more = put.more;
      }

-- growth after a reservation, which changes spare room alone
pub grown_after : {Key Query Item : Type 0} (C : Class Key Query Item) (picks : List Key → ℕ → Type 0) (old mid new : Slots (Node C)) (root : Handle) (seq : ℕ) → AreSame old mid → HasGrown C picks mid new root seq → HasGrown C picks old new root seq
grown_after C picks old mid new root seq same grown =
    record {
      node = grown.node;
      is = sym (same.each root) ∙ grown.is;
      place = grown.place;
      low = grown.low;
      a = grown.a;
      b = grown.b;
      one = grown.one;
      two = grown.two;
      halves = grown.halves;
      picked = grown.picked;
      one_key = grown.one_key;
      one_union = grown.one_union;
      two_key = grown.two_key;
      two_union = grown.two_union;
      differ = grown.differ;
      fresh_one = sym (same.each grown.a) ∙ grown.fresh_one;
      fresh_two = sym (same.each grown.b) ∙ grown.fresh_two;
      root_now = grown.root_now;
      one_now = grown.one_now;
      two_now = grown.two_now;
      one_children = λ h apart not_one not_two has not. grown.one_children h apart not_one not_two has not ∙ ap (option_map (under grown.a)) (same.each h);
      two_children = λ h apart not_one not_two has not. grown.two_children h apart not_one not_two has not ∙ ap (option_map (under grown.b)) (same.each h);
      others = λ h apart not_one not_two no_one no_two. grown.others h apart not_one not_two no_one no_two ∙ same.each h;
      more = more_after 2 same grown.more;
    }

module _ {Key Query Item : Type 0} (C : Class Key Query Item) (t : PlainTree Key Query Item) where
  -- the full root of a tree
  pub full_root : MayGrow C t → IsSound C t → IsFullRoot t.nodes t.root
  full_root may sound =
      let shape = sound.invariant.shape in
      let top = shape.root_place in
      record {
        node = may.node;
        is = may.is;
        place = ap (λ (n : Node C). n.place) (some_one may.is top.is) ∙ top.place;
        full = may.full;
        low = shape.top_level may.node may.is;
        children = λ child has.
            let entry = entry_of_child may.node.body child has in
            let below = shape.entry_down t.root may.node may.is entry.0 child entry.1 in
            stands_some (value_at t.nodes child) below.node below.is;
      }

  module _ (nodes : Slots (Node C)) where
    abbrev higher : PlainTree Key Query Item
    higher = record t { nodes = nodes }

    module _ {picks : List Key → ℕ → Type 0} (grown : HasGrown C picks t.nodes nodes t.root t.counter) (sound : IsSound C t) where
      apart_children : (h : Handle) → Contains (children_of grown.one) h → Contains (children_of grown.two) h → ⊥
      apart_children h in_one in_two =
          let one = entry_of_child grown.one h in_one in
          let two = entry_of_child grown.two h in_two in
          parts_differ grown.halves.entries (sound.invariant.shape.children_differ t.root grown.node grown.is) one.0 two.0 h one.1 two.1

      below_top : grown.node.level < TOP_LEVEL → IsGrown (tree_of C t) (tree_of C higher) grown.a grown.b
      below_top low =
          record {
            node = grown.node;
            place = grown.place;
            below_top = low;
            one = grown.one;
            two = grown.two;
            halves = grown.halves;
            one_key = grown.one_key;
            one_union = grown.one_union;
            two_key = grown.two_key;
            two_union = grown.two_union;
            one_attached = grown.node.attached;
            one_numbers = record { keeps = λ s search is has. has; only = λ s has. inl has };
            two_attached = grown.node.attached;
            two_numbers = record { keeps = λ s search is has. has; only = λ s has. inl has };
            differ = grown.differ;
            before = grown.is;
            fresh_one = grown.fresh_one;
            fresh_two = grown.fresh_two;
            root_now = grown.root_now;
            one_now = grown.one_now;
            two_now = grown.two_now;
            one_children = λ h apart not_a not_b has. grown.one_children h apart not_a not_b has (apart_children h has);
            two_children = λ h apart not_a not_b has. grown.two_children h apart not_a not_b has (λ there. apart_children h there has);
            others = grown.others;
            searches = record { search = λ s. refl };
            clock = record { root = refl; counter = refl; next = refl };
          }

      module _ (low : grown.node.level < TOP_LEVEL) where
        grown_sound : IsSound C higher
        grown_sound =
            let step = below_top low in
            record {
              invariant = record { shape = shape_grown step sound.invariant.shape; searches = searches_grown sound.invariant.shape sound.invariant.searches step };
              progress_of_each = sound.progress_of_each;
              progress_once = sound.progress_once;
              limited = sound.limited;
            }

        grown_call : HasMoreNodes C t higher 2 1
        grown_call =
            record {
              nodes_alone = refl;
              contents = λ xs. contents_grown (below_top low);
              searches = λ s. refl;
              steps = λ s. refl;
              running = refl;
              limit = refl;
              counter = refl;
              level = ap level_of grown.root_now ∙ ap (λ (o : Option (Node C)). level_of o + 1) (sym grown.is);
              more = grown.more;
            }

    pub grown_sound_either : (picks : List Key → ℕ → Type 0) {R : Type 0} (result : Result R TreeFault) → OnOk result (HasGrown C picks t.nodes nodes t.root t.counter) → OnErr result (AreSame t.nodes nodes) → IsSound C t → IsSound C higher
    grown_sound_either picks (Ok done) grown same sound = grown_sound grown sound grown.low
    grown_sound_either picks (Err fault) grown same sound = same_sound C t nodes same sound

    pub grown_call_ok : (picks : List Key → ℕ → Type 0) {R : Type 0} (result : Result R TreeFault) → OnOk result (HasGrown C picks t.nodes nodes t.root t.counter) → IsSound C t → OnOk result (HasMoreNodes C t higher 2 1)
    grown_call_ok picks (Ok done) grown sound = grown_call grown sound grown.low
    grown_call_ok picks (Err fault) grown sound = tt

    pub grown_call_err : {R : Type 0} (result : Result R TreeFault) → OnErr result (AreSame t.nodes nodes) → IsSound C t → OnErr result (IsUntouched C t higher)
    grown_call_err (Ok done) same sound = tt
    grown_call_err (Err fault) same sound = untouched_call C t nodes same sound
