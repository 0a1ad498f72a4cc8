-- A descent: searches join the child, and its right node where the child is marked, before the
-- entry is enlarged.
use Rattle.std.proofs.Common.{◌≡◌, ◌≢◌, ◌⊎◌, ◌∙◌, ℕ, List, [], ◌∷◌, Contains, Bool, true, false, if◌then◌else◌, filter, IsTrue, Option, None, Some, is_some, refl, sym, ap, subst, inl, inr, Result, Ok, Err, OnOk}
use Rattle.std.proofs.lemmas.Bool.{cases_eq}
use Rattle.std.specs.Option.{option_map}
use Rattle.node_arena.specs.Slots.{Slots, value_at}
use Rattle.node_arena.specs.declared.handle.Handle.{Handle}
use Rattle.predicate_locks.specs.Numbers.{with_numbers}
use Rattle.predicate_locks.specs.Searches.{does_run, search_at}
use Rattle.predicate_locks.specs.declared.running.RunningSearch.{RunningSearch}
use Rattle.tree_theory.proofs.ListLemmas.{first_in, later_in, in_cases, nothing_in, handle_cases}
use Rattle.tree_theory.specs.KeyClasses.{Class, Laws}
use Rattle.tree_theory.specs.Nodes.{PlainNode, Node, Search, entries_of, is_marked}
use Rattle.tree_theory.specs.Walks.{Done}
use Rattle.tree_theory.specs.declared.position.Position.{Position}
use Rattle.tree_theory.specs.declared.position.Position.TheVariants.{Unlinked}
use Rattle.tree_nodes.specs.Arenas.{Holds, IsChanged}
use Rattle.search_tree.specs.Calls.{IsAlike, IsUntouched}
use Rattle.tree_nodes.specs.Progresses.{PlainProgress}
use Rattle.search_tree.specs.Trees.{PlainTree, IsSound, progress_at, tree_of}
use Rattle.search_tree.specs.Walks.{HasMore, MoreAttached, MayJoinAll, HasJoined, MayJoinBelow, HasJoinedBelow}
use Rattle.tree_nodes.specs.Descents.{marked_right}
use Rattle.search_tree.proofs.Kept.{all_join, with_all_kept}
use Rattle.tree_nodes.proofs.ListEnds.{some_one}
use Rattle.search_tree.proofs.WalkSteps.{joined_sound, joined_call}

-- a node that is not linked has no mark
no_mark : (place : Position) (left : Handle) → place ≡ Unlinked left → IsTrue (is_marked place) → ⊥
no_mark place left is marked = let no : false ≡ true = (rw is at marked) in absurd (cc (no))

module _ {Key Query Item : Type 0} (C : Class Key Query Item) where
  -- `IsAlike` is reflexive
  pub alike_self : (t : PlainTree Key Query Item) → IsAlike C t t
  alike_self t = record { searches = λ s. refl; steps = λ s. refl; running = refl; contents = λ xs is. is; counts = record { counter = refl; limit = refl; level = refl; taken = refl; slots = refl } }

  pub untouched_self : (t : PlainTree Key Query Item) → IsUntouched C t t
  untouched_self t = record { alike = alike_self t; root = refl; nodes = record { look = λ h. refl }; searches = record { search = λ s. refl } }

  -- `IsAlike` is transitive
  pub alike_both : (t u v : PlainTree Key Query Item) → IsAlike C t u → IsAlike C u v → IsAlike C t v
  alike_both t u v one two =
      record {
        searches = λ s. two.searches s ∙ one.searches s;
        steps = λ s. two.steps s ∙ one.steps s;
        running = two.running ∙ one.running;
        contents = λ xs is. two.contents xs (one.contents xs is);
        counts = record {
          counter = two.counts.counter ∙ one.counts.counter;
          limit = two.counts.limit ∙ one.counts.limit;
          level = two.counts.level ∙ one.counts.level;
          taken = two.counts.taken ∙ one.counts.taken;
          slots = two.counts.slots ∙ one.counts.slots;
        };
      }

module _ {Key Query Item : Type 0} (C : Class Key Query Item) (t : PlainTree Key Query Item) (sound : IsSound C t) where
  -- a search that runs, as the theory has it
  pub record Known (s : ℕ) (run : RunningSearch Query) : Type 0 where
    pub search : Search C
    pub is : (tree_of C t).searches s ≡ Some search
    pub query : search.query ≡ run.query

  pub known : (s : ℕ) (run : RunningSearch Query) → search_at t.running s ≡ Some run → Known s run
  known s run is = by (progress_at s t.progress) refl
    where
      by : (o : Option (PlainProgress Item)) → progress_at s t.progress ≡ o → Known s run
      by (Some p) e = record { search = record { query = run.query; begun = run.begun; stack = p.stack; found = p.found }; is = rw (is, e) refl; query = refl }
      by None e = let no : false ≡ true = sym (ap is_some e) ∙ (sound.progress_of_each s ∙ ap is_some is) in absurd (cc (no))

  module _ (child : Handle) (searches : List ℕ) (may : MayJoinBelow C t child searches) (node : Node C) (is : value_at t.nodes child ≡ Some node) where
    -- the right node of a marked child
    pub may_right : IsTrue (is_marked node.place) → (r : Handle) → node.right ≡ Some r → MayJoinAll C t r searches
    may_right marked r leads =
        let right = sound.invariant.shape.mark_right child node is marked in
        record {
          node = right.node;
          is = subst (λ h. value_at t.nodes h ≡ Some right.node) (some_one right.is_right leads) right.is;
          each = λ s has.
              let led = may.each s has in
              let there = known s led.search led.runs in
              record {
                search = there.search;
                running = there.is;
                key = may.key;
                stands = record { parent = may.parent; node = may.node; is = may.is; child = child; entry = may.entry; behind = inr (node, is, marked, leads) };
                inconsistent = λ c. led.inconsistent (subst (λ q. C.Consistent may.key q) there.query c);
                right_done = λ twice. absurd (no_mark right.node.place child right.place twice);
              };
        }

    -- the child, once its right node is joined
    pub may_child : ((s : ℕ) → Contains searches s → IsTrue (is_marked node.place) → (r : Handle) → node.right ≡ Some r → Done (tree_of C t) s r) → MayJoinAll C t child searches
    may_child done =
        record {
          node = node;
          is = is;
          each = λ s has.
              let led = may.each s has in
              let there = known s led.search led.runs in
              record {
                search = there.search;
                running = there.is;
                key = may.key;
                stands = record { parent = may.parent; node = may.node; is = may.is; child = child; entry = may.entry; behind = inl refl };
                inconsistent = λ c. led.inconsistent (subst (λ q. C.Consistent may.key q) there.query c);
                right_done = done s has;
              };
        }

-- a weaker claim of a success
pub on_ok : {T E : Type 0} (r : Result T E) (P Q : Type 0) → (P → Q) → OnOk r P → OnOk r Q
on_ok (Ok x) P Q goes p = goes p
on_ok (Err e) P Q goes p = tt

-- a number is in a list or not
pub held_or_not : (n : ℕ) (xs : List ℕ) → Contains xs n ⊎ (Contains xs n → ⊥)
held_or_not n [] = inr (λ h. nothing_in n h)
held_or_not n (x ∷ xs) = elim (cases_eq x n) [
  | inl same ↦ inl (subst (Contains (x ∷ xs)) same (first_in x xs))
  | inr other ↦ elim (held_or_not n xs) [
    | inl there ↦ inl (later_in x xs n there)
    | inr not_there ↦ inr (λ h. elim (in_cases x xs n h) [ inl same ↦ other same | inr rest ↦ not_there rest ])
  ]
]

-- the right node of a marked node, in parts
pub record MarkedRight {Key Item : Type 0} (o : Option (PlainNode Key Item)) (r : Handle) : Type 0 where
  pub node : PlainNode Key Item
  pub is : o ≡ Some node
  pub marked : IsTrue (is_marked node.place)
  pub leads : node.right ≡ Some r

pub marked_parts : {Key Item : Type 0} (o : Option (PlainNode Key Item)) (r : Handle) → marked_right o ≡ Some r → MarkedRight o r
marked_parts None r e = absurd (cc (e))
marked_parts (Some node) r e = by (is_marked node.place) refl e
  where
    by : (b : Bool) → is_marked node.place ≡ b → (if b then node.right else None) ≡ Some r → MarkedRight (Some node) r
    by true test leads = record { node = node; is = refl; marked = test; leads = leads }
    by false test leads = absurd (cc (leads))

-- where no right node is found, a marked node has no rightlink
pub marked_none : {Key Item : Type 0} (node : PlainNode Key Item) → marked_right (Some node) ≡ None → IsTrue (is_marked node.place) → (r : Handle) → node.right ≡ Some r → ⊥
marked_none node e marked r leads = by (is_marked node.place) marked e
  where
    by : (b : Bool) → b ≡ true → (if b then node.right else None) ≡ None → ⊥
    by true test none = absurd (cc (none, leads))
    by false test none = absurd (cc (test))

-- a node gets the list that was made for it
pub list_set : {Key Item : Type 0} (runs : ℕ → Bool) (searches : List ℕ) (old new : Slots (PlainNode Key Item)) (at : Handle) (list : List ℕ)
    → Holds old at (λ n. list ≡ filter runs (with_numbers searches n.attached))
    → IsChanged old new at (λ n. record n { attached = list })
    → IsChanged old new at (λ n. record n { attached = filter runs (with_numbers searches n.attached) })
list_set {Key = Key} {Item = Item} runs searches old new at list made changed = record { here = by (value_at old at) refl; others = changed.others; counts = changed.counts }
  where
    by : (o : Option (PlainNode Key Item)) → value_at old at ≡ o → value_at new at ≡ option_map (λ (n : PlainNode Key Item). record n { attached = filter runs (with_numbers searches n.attached) }) (value_at old at)
    by None e = changed.here ∙ rw e refl
    by (Some n) e = changed.here ∙ rw e (ap (λ xs. Some (record n { attached = xs })) (made n e))

module _ {Key Query Item : Type 0} (C : Class Key Query Item) (t : PlainTree Key Query Item) (searches : List ℕ) where
  -- a node that has not changed
  no_more : (n : Node C) → HasMore C t searches n n
  no_more n = record { same = refl; numbers = record { keeps = λ s search is has. has; only = λ s has. inl has } }

  more_twice : (mid : Slots (Node C)) (one two three : Node C) → HasMore C t searches one two → HasMore C (record t { nodes = mid }) searches two three → HasMore C t searches one three
  more_twice mid one two three first second =
      record {
        same = second.same ∙ ap (λ (n : Node C). record n { attached = three.attached }) first.same;
        numbers = record {
          keeps = λ s search is has. second.numbers.keeps s search is (first.numbers.keeps s search is has);
          only = λ s has. elim (second.numbers.only s has) [ inl before ↦ first.numbers.only s before | inr new ↦ inr new ];
        };
      }

  pub more_both : (one two : Slots (Node C)) → MoreAttached C t searches one → MoreAttached C (record t { nodes = one }) searches two → MoreAttached C t searches two
  more_both one two first second =
      record {
        forth = λ h n is.
            let before = first.forth h n is in
            let after = second.forth h before.0 before.1 in
            (after.0, after.1, more_twice one n before.0 after.0 before.2 after.2);
      }

  abbrev joined : Node C → Node C
  joined n = record n { attached = filter (does_run t.running) (with_numbers searches n.attached) }

  module _ (nodes : Slots (Node C)) (at : Handle) where
    has_more : (n : Node C) → HasMore C t searches n (joined n)
    has_more n = record { same = refl; numbers = with_all_kept C t (λ s. Contains searches s) searches n.attached (λ s has. has) }

    pub more_from : IsChanged t.nodes nodes at joined → MoreAttached C t searches nodes
    more_from changed =
        record {
          forth = λ h n is. elim (handle_cases h at) [
            | inl same ↦ (joined n, subst (λ x. value_at nodes x ≡ Some (joined n)) (sym same) (changed.here ∙ ap (option_map joined) (subst (λ x. value_at t.nodes x ≡ Some n) same is)), has_more n)
            | inr apart ↦ (n, changed.others h apart ∙ is, no_more n)
          ];
        }

module _ {Key Query Item : Type 0} (C : Class Key Query Item) (t : PlainTree Key Query Item) where
  abbrev with_nodes : Slots (Node C) → PlainTree Key Query Item
  with_nodes nodes = record t { nodes = nodes }

  -- searches that are attached to a node are done with it
  joined_done : (nodes : Slots (Node C)) (at : Handle) (searches : List ℕ) (n : Node C) → value_at t.nodes at ≡ Some n → IsChanged t.nodes nodes at (λ n. record n { attached = filter (does_run t.running) (with_numbers searches n.attached) }) → (s : ℕ) → Contains searches s → does_run t.running s ≡ true → Done (tree_of C (with_nodes nodes)) s at
  joined_done nodes at searches n is changed s has runs =
      record {
        node = record n { attached = filter (does_run t.running) (with_numbers searches n.attached) };
        is = rw (changed.here, is) refl;
        attached = all_join C t searches n.attached s has runs;
      }

  -- the child's entry is the same after more searches are attached
  below_still : (nodes : Slots (Node C)) (child : Handle) (searches : List ℕ) → MoreAttached C t searches nodes → MayJoinBelow C t child searches → MayJoinBelow C (with_nodes nodes) child searches
  below_still nodes child searches more may =
      let there = more.forth may.parent may.node may.is in
      record {
        parent = may.parent;
        node = there.0;
        is = there.1;
        key = may.key;
        entry = subst (λ b. Contains (entries_of b) (may.key, child)) (sym (ap (λ (n : Node C). n.body) there.2.same)) may.entry;
        each = may.each;
      }

  module _ (laws : Laws C) (sound : IsSound C t) (child right : Handle) (searches : List ℕ) (may : MayJoinBelow C t child searches) (leads : marked_right (value_at t.nodes child) ≡ Some right) (one two : Slots (Node C)) (first : IsChanged t.nodes one right (λ n. record n { attached = filter (does_run t.running) (with_numbers searches n.attached) })) where
    parts : MarkedRight (value_at t.nodes child) right
    parts = marked_parts (value_at t.nodes child) right leads

    -- the right node is not the child
    child_apart : child ≢ right
    child_apart same =
        let beside = sound.invariant.shape.mark_right child parts.node parts.is parts.marked in
        let there : value_at t.nodes child ≡ Some beside.node = subst (λ h. value_at t.nodes h ≡ Some beside.node) (some_one beside.is_right parts.leads ∙ sym same) beside.is in
        no_mark parts.node.place child (ap (λ (n : Node C). n.place) (some_one parts.is there) ∙ beside.place) parts.marked

    -- the child gets its list after the right node has its own
    pub second_set : (list : List ℕ) → Holds t.nodes child (λ n. list ≡ filter (does_run t.running) (with_numbers searches n.attached)) → IsChanged one two child (λ n. record n { attached = list }) → IsChanged one two child (λ n. record n { attached = filter (does_run t.running) (with_numbers searches n.attached) })
    second_set list made = list_set (does_run t.running) searches one two child list (λ n is. made n (sym (first.others child child_apart) ∙ is))

    may_first : MayJoinAll C t right searches
    may_first = may_right C t sound child searches may parts.node parts.is parts.marked right parts.leads

    pub first_sound : IsSound C (with_nodes one)
    first_sound = joined_sound C t one laws right searches may_first first sound

    pub first_alike : IsAlike C t (with_nodes one)
    first_alike = (joined_call C t one right searches may_first first).alike

    first_more : MoreAttached C t searches one
    first_more = more_from C t searches one right first

    may_second : MayJoinAll C (with_nodes one) child searches
    may_second =
        let there = first_more.forth child parts.node parts.is in
        may_child C (with_nodes one) first_sound child searches (below_still one child searches first_more may) there.0 there.1
        (λ s has marked r to.
        let same : right ≡ r = some_one parts.leads (sym (ap (λ (n : Node C). n.right) there.2.same) ∙ to) in
        subst (Done (tree_of C (with_nodes one)) s) same (joined_done one right searches may_first.node may_first.is first s has (ap is_some (may.each s has).runs)))

    pub second_sound : IsChanged one two child (λ n. record n { attached = filter (does_run t.running) (with_numbers searches n.attached) }) → IsSound C (with_nodes two)
    second_sound second = joined_sound C (with_nodes one) two laws child searches may_second second first_sound

    -- searches that are attached to the right node are done with it, also after the child gets its
    -- list
    right_done : IsChanged one two child (λ n. record n { attached = filter (does_run t.running) (with_numbers searches n.attached) }) → ((s : ℕ) → Contains searches s → Done (tree_of C (with_nodes two)) s child) → (s : ℕ) → Contains searches s → Done (tree_of C (with_nodes two)) s right
    right_done second child_done s has =
        let before = joined_done one right searches may_first.node may_first.is first s has (ap is_some (may.each s has).runs) in
        elim (handle_cases right child) [
          | inl same ↦ subst (Done (tree_of C (with_nodes two)) s) (sym same) (child_done s has)
          | inr apart ↦ record { node = before.node; is = second.others right apart ∙ before.is; attached = before.attached }
        ]

    pub both_joined : IsChanged one two child (λ n. record n { attached = filter (does_run t.running) (with_numbers searches n.attached) }) → HasJoinedBelow C t (with_nodes two) child searches
    both_joined second =
        record {
          only_nodes = refl;
          more = more_both C t searches one two first_more (more_from C (with_nodes one) searches two child second);
          done = λ s has. let seen = joined_done2 s has second in seen;
          alike = alike_both C t (with_nodes one) (with_nodes two) first_alike (joined_call C (with_nodes one) two child searches may_second second).alike;
          beside = λ to leads_to s has. subst (Done (tree_of C (with_nodes two)) s) (some_one leads leads_to) (right_done second (λ s has. joined_done2 s has second) s has);
          others = λ h apart beyond. second.others h apart ∙ first.others h (λ e. beyond (leads ∙ ap Some (sym e)));
        }
      where
        joined_done2 : (s : ℕ) → Contains searches s → IsChanged one two child (λ n. record n { attached = filter (does_run t.running) (with_numbers searches n.attached) }) → Done (tree_of C (with_nodes two)) s child
        joined_done2 s has second =
            record {
              node = record may_second.node { attached = filter (does_run t.running) (with_numbers searches may_second.node.attached) };
              is = rw (second.here, may_second.is) refl;
              attached = all_join C t searches may_second.node.attached s has (ap is_some (may.each s has).runs);
            }

  module _ (laws : Laws C) (sound : IsSound C t) (child : Handle) (searches : List ℕ) (may : MayJoinBelow C t child searches) (alone : marked_right (value_at t.nodes child) ≡ None) where
    -- a child that is not marked
    pub may_alone : MayJoinAll C t child searches
    may_alone =
        let down = sound.invariant.shape.entry_down may.parent may.node may.is may.key child may.entry in
        may_child C t sound child searches may down.node down.is
        (λ s has marked r to. absurd (marked_none down.node (sym (ap marked_right down.is) ∙ alone) marked r to))

    pub alone_joined : (u : PlainTree Key Query Item) → HasJoined C t u child searches → HasJoinedBelow C t u child searches
    alone_joined u join =
        record {
          only_nodes = join.only_nodes;
          more = more_from C t searches u.nodes child join.changed;
          done = λ s has. record {
            node = record may_alone.node { attached = filter (does_run t.running) (with_numbers searches may_alone.node.attached) };
            is = rw (join.changed.here, may_alone.is) refl;
            attached = all_join C t searches may_alone.node.attached s has (ap is_some (may.each s has).runs);
          };
          alike = join.alike;
          beside = λ right leads s has. let no : ◌≡◌ {A = Option Handle} None (Some right) = sym alone ∙ leads in absurd (cc (no));
          others = λ h apart beyond. join.changed.others h apart;
        }
