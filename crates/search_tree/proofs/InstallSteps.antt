-- Installing a right node keeps the tree's invariant.
use Rattle.std.proofs.Common.{◌≡◌, ◌≢◌, ℕ, ◌+◌, ◌<◌, ◌∷◌, ◌++◌, [], true, false, Contains, length, slice_get, slice_set, IsTrue, Some, refl, sym, ap, subst, ◌∙◌, arith}
use Rattle.std.proofs.lemmas.List.{length-set}
use Rattle.std.proofs.lemmas.Option.{slice_get_within}
use Rattle.node_arena.specs.Slots.{Slots, value_at}
use Rattle.node_arena.specs.declared.handle.Handle.{Handle}
use Rattle.tree_theory.proofs.ContentsKept.{contents_installed}
use Rattle.tree_theory.proofs.ListLemmas.{got_in}
use Rattle.tree_theory.proofs.SearchSplit.{searches_installed}
use Rattle.tree_theory.proofs.ShapeInstall.{shape_installed}
use Rattle.tree_theory.specs.Changes.{IsInstalled}
use Rattle.tree_theory.specs.Invariant.{Right, Child}
use Rattle.tree_theory.specs.KeyClasses.{Class, Laws}
use Rattle.tree_theory.specs.Nodes.{Node, entries_of, size_of, is_marked}
use Rattle.tree_theory.specs.Nodes.PlainBody.{Inner}
use Rattle.tree_theory.specs.declared.TheConstants.{NODE_SIZE}
use Rattle.tree_theory.specs.declared.position.Position.{Position}
use Rattle.tree_theory.specs.declared.position.Position.TheVariants.{Linked, Unlinked}
use Rattle.tree_nodes.specs.Arenas.{IsChanged, Holds}
use Rattle.search_tree.specs.Calls.{SameContents}
use Rattle.search_tree.specs.Tends.{HasTended, MayInstall}
use Rattle.search_tree.specs.Trees.{PlainTree, IsSound, tree_of}
use Rattle.tree_nodes.specs.Bodies.{IsInner}
use Rattle.tree_answers.specs.declared.answers.Tending.TheVariants.{Installed}
use Rattle.search_tree.specs.declared.installing.NewEntry.{NewEntry}
use Rattle.tree_nodes.proofs.ListEnds.{some_one}
use Rattle.search_tree.proofs.TendSteps.{level_stays}

-- a linked node is not an unlinked one
places_apart : (place : Position) (p l : Handle) → place ≡ Linked p true → place ≡ Unlinked l → ⊥
places_apart place p l linked unlinked = absurd (cc)

module _ {Key Query Item : Type 0} (C : Class Key Query Item) (t : PlainTree Key Query Item) (e : NewEntry Key) (may : MayInstall C t e) where
  -- before anything is changed
  pub parent_inner : Holds t.nodes e.parent (λ n. IsInner n.body)
  parent_inner node is = (may.entries, ap (λ (n : Node C). n.body) (some_one is may.is) ∙ may.body)

  pub entry_there : Holds t.nodes e.parent (λ n. slice_get (entries_of n.body) e.place ≡ Some (may.old, e.left))
  entry_there node is = subst (λ b. slice_get (entries_of b) e.place ≡ Some (may.old, e.left)) (sym (ap (λ (n : Node C). n.body) (some_one is may.is) ∙ may.body)) may.entry

  pub place_within : Holds t.nodes e.parent (λ n. e.place < size_of n.body)
  place_within node is = subst (λ b. e.place < size_of b) (sym (ap (λ (n : Node C). n.body) (some_one is may.is) ∙ may.body)) (slice_get_within may.entries e.place (may.old, e.left) may.entry)

  -- when the left node's entry has its new key
  module _ (keyed_nodes : Slots (Node C)) (keyed : IsChanged t.nodes keyed_nodes e.parent (λ n. record n { body = Inner (slice_set (entries_of n.body) e.place (e.left_key, e.left)) })) where
    keyed_body : (node : Node C) → value_at keyed_nodes e.parent ≡ Some node → node.body ≡ Inner (slice_set may.entries e.place (e.left_key, e.left))
    keyed_body node is =
        let now : value_at keyed_nodes e.parent ≡ Some (record may.node { body = Inner (slice_set may.entries e.place (e.left_key, e.left)) }) = rw (keyed.here, may.is, may.body) refl in
        ap (λ (n : Node C). n.body) (some_one is now)

    pub keyed_inner : Holds keyed_nodes e.parent (λ n. IsInner n.body)
    keyed_inner node is = (slice_set may.entries e.place (e.left_key, e.left), keyed_body node is)

    pub keyed_room : Holds keyed_nodes e.parent (λ n. size_of n.body < NODE_SIZE)
    keyed_room node is =
        let long = length-set may.entries e.place (e.left_key, e.left) in
        let room = may.room in
        let fits : length (slice_set may.entries e.place (e.left_key, e.left)) < NODE_SIZE = omega (arith, long, room) in
        subst (λ b. size_of b < NODE_SIZE) (sym (keyed_body node is)) fits

  module _ (sound : IsSound C t) where
    entry_below : Child (tree_of C t) e.parent may.node e.left
    entry_below = sound.invariant.shape.entry_down e.parent may.node may.is may.old e.left (subst (λ b. Contains (entries_of b) (may.old, e.left)) (sym may.body) (got_in may.entries e.place (may.old, e.left) may.entry))

    left_level : may.node.level ≡ may.left.level + 1
    left_level = entry_below.level ∙ ap (λ (n : Node C). n.level + 1) (some_one entry_below.is may.left_is)

    beside : Right (tree_of C t) e.left may.left
    beside = sound.invariant.shape.mark_right e.left may.left may.left_is (subst (λ p. IsTrue (is_marked p)) (sym may.linked) refl)

    beside_is : value_at t.nodes e.right ≡ Some beside.node
    beside_is = subst (λ h. value_at t.nodes h ≡ Some beside.node) (some_one beside.is_right may.is_right) beside.is

    right_level : may.left.level ≡ may.right.level
    right_level = beside.level ∙ ap (λ (n : Node C). n.level) (some_one beside_is may.right_is)

    right_place : may.right.place ≡ Unlinked e.left
    right_place = ap (λ (n : Node C). n.place) (sym (some_one beside_is may.right_is)) ∙ beside.place

    parent_left : e.parent ≢ e.left
    parent_left same =
        let one : may.node ≡ may.left = some_one (subst (λ h. value_at t.nodes h ≡ Some may.node) same may.is) may.left_is in
        let level : may.node.level ≡ may.left.level = ap (λ (n : Node C). n.level) one in
        let above = left_level in
        absurd (omega (arith, level, above))

    parent_right : e.parent ≢ e.right
    parent_right same =
        let one : may.node ≡ may.right = some_one (subst (λ h. value_at t.nodes h ≡ Some may.node) same may.is) may.right_is in
        let level : may.node.level ≡ may.right.level = ap (λ (n : Node C). n.level) one in
        let above = left_level in
        let beside = right_level in
        absurd (omega (arith, level, above, beside))

    left_right : e.left ≢ e.right
    left_right same =
        let one : may.left ≡ may.right = some_one (subst (λ h. value_at t.nodes h ≡ Some may.left) same may.left_is) may.right_is in
        places_apart may.left.place e.parent e.left may.linked (ap (λ (n : Node C). n.place) one ∙ right_place)

    module _ (n1 n2 n3 n4 n5 : Slots (Node C)) (seq : ℕ) (keyed : IsChanged t.nodes n1 e.parent (λ n. record n { body = Inner (slice_set (entries_of n.body) e.place (e.left_key, e.left)) })) (pushed : IsChanged n1 n2 e.parent (λ n. record n { body = Inner (entries_of n.body ++ (e.right_key, e.right) ∷ []) })) (linked : IsChanged n2 n3 e.left (λ n. record n { place = Linked e.parent false })) (numbered : IsChanged n3 n4 e.left (λ n. record n { seq = seq })) (joined : IsChanged n4 n5 e.right (λ n. record n { place = Linked e.parent false })) (ticked : seq ≡ t.counter + 1) where
      abbrev put_in : PlainTree Key Query Item
      put_in = record t { nodes = n5; counter = seq }

      pub installed_step : IsInstalled (tree_of C t) (tree_of C put_in) e.parent e.left e.right
      installed_step =
          record {
            node = may.node;
            left = may.left;
            right = may.right;
            entries = may.entries;
            body = may.body;
            room = may.room;
            index = e.place;
            old = may.old;
            entry = may.entry;
            place = may.linked;
            is_right = may.is_right;
            left_key = e.left_key;
            for_left = may.for_left;
            right_key = e.right_key;
            for_right = may.for_right;
            parent_before = may.is;
            left_before = may.left_is;
            right_before = may.right_is;
            parent_now = rw (joined.others e.parent parent_right, numbered.others e.parent parent_left, linked.others e.parent parent_left, pushed.here, keyed.here, may.is, may.body) refl;
            left_now = rw (joined.others e.left left_right, numbered.here, linked.here, pushed.others e.left (λ s. parent_left (sym s)), keyed.others e.left (λ s. parent_left (sym s)), may.left_is, ticked) refl;
            right_now = rw (joined.here, numbered.others e.right (λ s. left_right (sym s)), linked.others e.right (λ s. left_right (sym s)), pushed.others e.right (λ s. parent_right (sym s)), keyed.others e.right (λ s. parent_right (sym s)), may.right_is) refl;
            others = λ x not_parent not_left not_right. joined.others x not_right ∙ (numbered.others x not_left ∙ (linked.others x not_left ∙ (pushed.others x not_parent ∙ keyed.others x not_parent)));
            searches = record { search = λ s. refl };
            clock = record { root = refl; counter = ticked; next = refl };
          }

      pub installed_sound : Laws C → IsSound C put_in
      installed_sound laws =
          record {
            invariant = record { shape = shape_installed laws installed_step sound.invariant.shape; searches = searches_installed laws sound.invariant.shape sound.invariant.searches installed_step };
            progress_of_each = sound.progress_of_each;
            progress_once = sound.progress_once;
            limited = sound.limited;
          }

      pub installed_same : SameContents C t put_in
      installed_same xs = contents_installed installed_step

      pub installed_call : HasTended C t put_in Installed
      installed_call =
          record {
            searches = λ s. refl;
            steps = λ s. refl;
            running = refl;
            limit = refl;
            level = level_stays t.root joined (λ n. refl) ∙ (level_stays t.root numbered (λ n. refl) ∙ (level_stays t.root linked (λ n. refl) ∙ (level_stays t.root pushed (λ n. refl) ∙ level_stays t.root keyed (λ n. refl))));
            slots = joined.counts.slots ∙ (numbered.counts.slots ∙ (linked.counts.slots ∙ (pushed.counts.slots ∙ keyed.counts.slots)));
            counter = ticked;
            taken = joined.counts.taken ∙ (numbered.counts.taken ∙ (linked.counts.taken ∙ (pushed.counts.taken ∙ keyed.counts.taken)));
          }
