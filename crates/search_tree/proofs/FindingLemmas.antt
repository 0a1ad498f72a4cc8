-- A walk over a tree that stays as it is misses no leaf that has the pair.
use Rattle.std.proofs.Common.{◌≡◌, ◌≢◌, ◌⊎◌, ℕ, zero, suc, ◌+◌, ◌≤◌, ◌==◌, ◌||◌, Bool, true, false, List, [], ◌∷◌, ◌++◌, Contains, Option, Some, None, Result, Ok, Err, OnOk, IfOk, IsTrue, refl, sym, ap, subst, ◌∙◌, inl, inr, arith, eq-eqb}
use Rattle.std.specs.List.{list_any}
use Rattle.std.proofs.lemmas.Bool.{cases_eq, ne_eqb}
use Rattle.std.proofs.lemmas.List.Elements.{Contains-append_cases, Contains-append_left, Contains-append_right}
use Rattle.node_arena.specs.Slots.{value_at}
use Rattle.node_arena.specs.declared.handle.Handle.{Handle}
use Rattle.search_tree.specs.Finding.{AddsCovering, HasAllSlots, HasNumber, HasSeen, HasSeenAt, IsNamed, IsSeeing, NamesSlot, Sees}
use Rattle.search_tree.specs.Trees.{PlainTree, IsSound, tree_of}
use Rattle.tree_theory.specs.Invariant.{Parent, Shape}
use Rattle.tree_theory.specs.KeyClasses.{Class, Laws}
use Rattle.tree_theory.specs.Nodes.{Node, Tree, is_marked, entries_of, pairs_of}
use Rattle.tree_theory.specs.declared.position.Position.{Position}
use Rattle.tree_theory.specs.declared.position.Position.TheVariants.{Root, Linked, Unlinked, Retired}
use Rattle.tree_theory.proofs.ListLemmas.{first_in, later_in, nothing_in, in_cases, in_one, handle_cases}
use Rattle.tree_theory.proofs.Ready.{marked_at, no_entry, no_pair}

pub ok_then : {T E : Type 0} (r : Result T E) {P Q : Type 0} → (P → Q) → OnOk r P → OnOk r Q
ok_then (Ok x) goes on = goes on
ok_then (Err e) goes on = tt

pub if_ok_map : {T E : Type 0} (r : Result T E) {P Q : T → Type 0} → ((x : T) → P x → Q x) → IfOk r P → IfOk r Q
if_ok_map (Ok x) goes p = goes x p
if_ok_map (Err e) goes p = tt

none_some : {T : Type 0} (x : T) → ◌≡◌ {A = Option T} None (Some x) → ⊥
none_some x e = absurd (cc (e))

-- of a list with one more element at its end
pub kept_in : {T : Type 0} (xs : List T) (y x : T) → Contains xs x → Contains (xs ++ y ∷ []) x
kept_in xs y x has = Contains-append_left xs (y ∷ []) x has

pub last_in : {T : Type 0} (xs : List T) (y : T) → Contains (xs ++ y ∷ []) y
last_in xs y = Contains-append_right xs (y ∷ []) y (first_in y [])

pub more_cases : {T : Type 0} (xs : List T) (y x : T) → Contains (xs ++ y ∷ []) x → Contains xs x ⊎ (y ≡ x)
more_cases xs y x has = elim (Contains-append_cases xs (y ∷ []) x has) [
  | inl before ↦ inl before
  | inr last ↦ inr (in_one y x last)
]

-- a list that was given one more element
pub pushed_keeps : {T : Type 0} (old new : List T) (y : T) → new ≡ old ++ y ∷ [] → (x : T) → Contains old x → Contains new x
pushed_keeps old new y is x has = subst (λ xs. Contains xs x) (sym is) (kept_in old y x has)

pub pushed_has : {T : Type 0} (old new : List T) (y : T) → new ≡ old ++ y ∷ [] → Contains new y
pushed_has old new y is = subst (λ xs. Contains xs y) (sym is) (last_in old y)

-- the numbers of pairs
module _ {Item : Type 0} (number : ℕ) where
  pub number_among : (pairs : List (ℕ × Item)) → list_any (λ (pair : ℕ × Item). pair.0 == number) pairs ≡ true → HasNumber number pairs
  number_among [] test = absurd (cc (test))
  number_among (pair ∷ pairs) test = elim (cases_eq pair.0 number) [
    | inl same ↦ record { item = pair.1; among = subst (λ n. Contains (pair ∷ pairs) (n, pair.1)) same (first_in pair pairs) }
    | inr other ↦
        let rest = number_among pairs (rw (ne_eqb pair.0 number other) at test) in
        record { item = rest.item; among = later_in pair pairs (number, rest.item) rest.among }
  ]

  pub among_number : (pairs : List (ℕ × Item)) (item : Item) → Contains pairs (number, item) → list_any (λ (pair : ℕ × Item). pair.0 == number) pairs ≡ true
  among_number [] item has = absurd (nothing_in (number, item) has)
  among_number (pair ∷ pairs) item has = elim (in_cases pair pairs (number, item) has) [
    | inl same ↦ ap (λ (b : Bool). b || list_any (λ (p : ℕ × Item). p.0 == number) pairs) (eq-eqb pair.0 number (ap (λ (p : ℕ × Item). p.0) same))
    | inr later ↦ or_true (pair.0 == number) _ (among_number pairs item later)
  ]
    where
      or_true : (a b : Bool) → b ≡ true → (a || b) ≡ true
      or_true true b e = refl
      or_true false b e = e

  -- no pair has the number: nothing is added
  pub names_none : (slot : ℕ) (pairs : List (ℕ × Item)) (slots : List ℕ) → list_any (λ (pair : ℕ × Item). pair.0 == number) pairs ≡ false → NamesSlot number slot pairs slots slots
  names_none slot pairs slots none = record {
    keeps = λ named has. has;
    adds = λ item has. let no : false ≡ true = sym none ∙ among_number pairs item has in absurd (cc (no));
    only = λ named has. inl has;
  }

  -- one has it: the slot is added
  pub names_one : (slot : ℕ) (pairs : List (ℕ × Item)) (old new : List ℕ) → new ≡ old ++ slot ∷ [] → list_any (λ (pair : ℕ × Item). pair.0 == number) pairs ≡ true → NamesSlot number slot pairs old new
  names_one slot pairs old new is some = record {
    keeps = pushed_keeps old new slot is;
    adds = λ item has. pushed_has old new slot is;
    only = λ named has. elim (more_cases old slot named (subst (λ xs. Contains xs named) is has)) [
      | inl before ↦ inl before
      | inr same ↦ inr (same, number_among pairs some)
    ];
  }

module _ {Key Query Item : Type 0} (C : Class Key Query Item) where
  -- the children, entry by entry
  pub covering_none : (key : Key) (left : List Handle) → AddsCovering C key [] left left
  covering_none key left = record { keeps = λ h has. has; adds = λ entry has covers. absurd (nothing_in entry has) }

  pub covering_more : (key : Key) (entries : List (Key × Handle)) (old mid : List Handle) (entry : Key × Handle) → AddsCovering C key entries old mid → AddsCovering C key (entries ++ entry ∷ []) old (mid ++ entry.1 ∷ [])
  covering_more key entries old mid entry adds = record {
    keeps = λ h has. kept_in mid entry.1 h (adds.keeps h has);
    adds = λ other has covers. elim (more_cases entries entry other has) [
      | inl before ↦ kept_in mid entry.1 other.1 (adds.adds other before covers)
      | inr same ↦ subst (λ (e : Key × Handle). Contains (mid ++ entry.1 ∷ []) e.1) same (last_in mid entry.1)
    ];
  }

  pub covering_past : (key : Key) (entries : List (Key × Handle)) (old mid : List Handle) (entry : Key × Handle) → AddsCovering C key entries old mid → (C.Covers entry.0 key → ⊥) → AddsCovering C key (entries ++ entry ∷ []) old mid
  covering_past key entries old mid entry adds never = record {
    keeps = adds.keeps;
    adds = λ other has covers. elim (more_cases entries entry other has) [
      | inl before ↦ adds.adds other before covers
      | inr same ↦ absurd (never (subst (λ (e : Key × Handle). C.Covers e.0 key) (sym same) covers))
    ];
  }

module _ {Key Query Item : Type 0} (C : Class Key Query Item) (number : ℕ) (item : Item) where
  -- the walk begins with the root
  sees_begun : (look : Handle → Option (Node C)) (root : Handle) → IsSeeing C number item look root [] (root ∷ []) []
  sees_begun look root = record {
    begun = inr (first_in root []);
    child = λ p node is has. absurd (nothing_in p has);
    mark = λ l node is has. absurd (nothing_in l has);
    found = λ h node is has. absurd (nothing_in h has);
    only = λ slot has. absurd (nothing_in slot has);
  }

  pub first_sees : (look : Handle → Option (Node C)) (root : Handle) → Sees C number item look root (root ∷ []) []
  first_sees look root = record { seen = []; seeing = sees_begun look root }

  -- what was seen or left is so still when the last one left is taken away and counts as seen
  moved : (seen rest after : List Handle) (x h : Handle) → ((y : Handle) → Contains rest y → Contains after y) → Contains seen h ⊎ Contains (rest ++ x ∷ []) h → Contains (x ∷ seen) h ⊎ Contains after h
  moved seen rest after x h keeps (inl was) = inl (later_in x seen h was)
  moved seen rest after x h keeps (inr was) = elim (more_cases rest x h was) [
    | inl before ↦ inr (keeps h before)
    | inr same ↦ inl (subst (Contains (x ∷ seen)) same (first_in x seen))
  ]

  -- a node that is gone
  sees_gone : (look : Handle → Option (Node C)) (root : Handle) (seen rest : List Handle) (slots : List ℕ) (x : Handle) → IsSeeing C number item look root seen (rest ++ x ∷ []) slots → look x ≡ None → IsSeeing C number item look root (x ∷ seen) rest slots
  sees_gone look root seen rest slots x seeing gone = record {
    begun = moved seen rest rest x root (λ y has. has) seeing.begun;
    child = λ p node is has entry among covers. moved seen rest rest x entry.1 (λ y z. z) (seeing.child p node is (there p node is has) entry among covers);
    mark = λ l node is has marked r right. moved seen rest rest x r (λ y z. z) (seeing.mark l node is (there l node is has) marked r right);
    found = λ h node is has among. seeing.found h node is (there h node is has) among;
    only = seeing.only;
  }
    where
      there : (h : Handle) (node : Node C) → look h ≡ Some node → Contains (x ∷ seen) h → Contains seen h
      there h node is has = elim (in_cases x seen h has) [
        | inl same ↦ absurd (none_some node (sym gone ∙ subst (λ y. look y ≡ Some node) (sym same) is))
        | inr was ↦ was
      ]

  -- a node that is seen
  sees_next : (look : Handle → Option (Node C)) (root : Handle) (seen rest after : List Handle) (slots slots_after : List ℕ) (x : Handle) (node : Node C) → IsSeeing C number item look root seen (rest ++ x ∷ []) slots → look x ≡ Some node → HasSeen C number item x.slot node rest after slots slots_after → IsSeeing C number item look root (x ∷ seen) after slots_after
  sees_next look root seen rest after slots slots_after x node seeing is step = record {
    begun = moved seen rest after x root step.keeps seeing.begun;
    child = λ p other at has entry among covers. elim (in_cases x seen p has) [
      | inl same ↦ inr (step.children entry (subst (λ (n : Node C). Contains (entries_of n.body) entry) (sym (that p other at same)) among) covers)
      | inr was ↦ moved seen rest after x entry.1 step.keeps (seeing.child p other at was entry among covers)
    ];
    mark = λ l other at has marked r right. elim (in_cases x seen l has) [
      | inl same ↦ inr (step.right (subst (λ (n : Node C). IsTrue (is_marked n.place)) (sym (that l other at same)) marked) r (subst (λ (n : Node C). n.right ≡ Some r) (sym (that l other at same)) right))
      | inr was ↦ moved seen rest after x r step.keeps (seeing.mark l other at was marked r right)
    ];
    found = λ h other at has among. elim (in_cases x seen h has) [
      | inl same ↦ subst (λ (y : Handle). Contains slots_after y.slot) same (step.names.adds item (subst (λ (n : Node C). Contains (pairs_of n.body) (number, item)) (sym (that h other at same)) among))
      | inr was ↦ step.names.keeps h.slot (seeing.found h other at was among)
    ];
    only = λ slot has. elim (step.names.only slot has) [
      | inl was ↦ seeing.only slot was
      | inr new ↦ record { handle = x; in_slot = new.0; node = node; is = is; has = new.1 }
    ];
  }
    where
      that : (h : Handle) (other : Node C) → look h ≡ Some other → x ≡ h → node ≡ other
      that h other at same = let here : look x ≡ Some other = subst (λ y. look y ≡ Some other) (sym same) at in cc (is, here)

  -- one step of the walk, at a handle that was last of those left
  pub step_sees : (look : Handle → Option (Node C)) (root : Handle) (before rest after : List Handle) (slots slots_after : List ℕ) (x : Handle) (o : Option (Node C)) → look x ≡ o → Sees C number item look root before slots → before ≡ rest ++ x ∷ [] → HasSeenAt C number item x.slot o rest after slots slots_after → Sees C number item look root after slots_after
  step_sees look root before rest after slots slots_after x None is sees popped step =
      let gone : Sees C number item look root rest slots = record {
        seen = x ∷ sees.seen;
        seeing = sees_gone look root sees.seen rest slots x (subst (λ l. IsSeeing C number item look root sees.seen l slots) popped sees.seeing) is;
      } in
      subst (λ l. Sees C number item look root l slots_after) (sym step.0) (subst (λ n. Sees C number item look root rest n) (sym step.1) gone)
  step_sees look root before rest after slots slots_after x (Some node) is sees popped step = record {
    seen = x ∷ sees.seen;
    seeing = sees_next look root sees.seen rest after slots slots_after x node (subst (λ l. IsSeeing C number item look root sees.seen l slots) popped sees.seeing) is step;
  }

  -- where nothing is left, every node that may have the pair has been seen
  module _ (laws : Laws C) {t : Tree C} (shape : Shape t) (seen : List Handle) (slots : List ℕ) (seeing : IsSeeing C number item t.look t.root seen [] slots) where
    all_seen : (h : Handle) → Contains seen h ⊎ Contains [] h → Contains seen h
    all_seen h (inl was) = was
    all_seen h (inr never) = absurd (nothing_in h never)

    root_seen : (h : Handle) (node : Node C) → t.look h ≡ Some node → node.place ≡ Root → Contains seen h
    root_seen h node is place = subst (Contains seen) (sym (shape.root_only h node is place)) (all_seen t.root seeing.begun)

    right_seen : (l : Handle) (left : Node C) → t.look l ≡ Some left → (parent : Handle) → left.place ≡ Linked parent true → (r : Handle) → left.right ≡ Some r → Contains seen l → Contains seen r
    right_seen l left is parent place r right was = all_seen r (seeing.mark l left is was (marked_at left.place parent place) r right)

    child_seen : (d : ℕ) (h : Handle) (node : Node C) (p : Handle) (above : Parent t h node p) (top : Node C) → t.look h ≡ Some node → t.look t.root ≡ Some top → top.level ≤ node.level + d → C.Covers above.key (C.key_of item) → Contains seen h
    child_seen zero h node p above top is is_top high covering = elim (handle_cases p t.root) [
      | inl at_root ↦
          let same : above.node ≡ top = cc (above.is, is_top, at_root) in
          let level : above.node.level ≡ node.level + 1 = above.level in
          let top_level : top.level ≡ node.level + 1 = subst (λ n. n.level ≡ node.level + 1) same level in
          absurd (omega arith)
      | inr below ↦
          let lower = shape.below_root p above.node top above.is is_top below in
          let level = above.level in
          absurd (omega arith)
    ]
    child_seen (suc d) h node p above top is is_top high covering = all_seen h (seeing.child p above.node above.is (parent_seen (λ g m q up at high covering. child_seen d g m q up top at is_top high covering) above.node.place refl) (above.key, h) above.entry covering)
      where
        parent_seen : ((g : Handle) (m : Node C) (q : Handle) (up : Parent t g m q) → t.look g ≡ Some m → top.level ≤ m.level + d → C.Covers up.key (C.key_of item) → Contains seen g) → (place : Position) → above.node.place ≡ place → Contains seen p
        parent_seen higher Root place = root_seen p above.node above.is place
        parent_seen higher (Linked q marked) place =
            let next = shape.entry_up p above.node above.is q marked place in
            let covers = (shape.cover q next.node next.is next.key p next.entry above.node above.is).entries (above.key, h) above.entry in
            let level = above.level in
            higher p above.node q next above.is (omega arith) (laws.transitive next.key above.key (C.key_of item) covers covering)
        parent_seen higher (Unlinked l) place =
            let left = shape.unlinked_left p above.node above.is l place in
            let next = shape.entry_up l left.node left.is left.parent true left.place in
            let covers = (shape.cover_marked left.parent next.node next.is next.key l next.entry left.node left.is (marked_at left.node.place left.parent left.place) p above.node left.right above.is).entries (above.key, h) above.entry in
            let level = above.level in
            let same_level = left.level in
            right_seen l left.node left.is left.parent left.place p left.right (higher l left.node left.parent next left.is (omega arith) (laws.transitive next.key above.key (C.key_of item) covers covering))
        parent_seen higher (Retired stamp) place = absurd (no_entry above.node.body (above.key, h) (shape.retired_empty p above.node above.is stamp place) above.entry)

    entry_seen : (h : Handle) (node : Node C) (p : Handle) (above : Parent t h node p) → t.look h ≡ Some node → C.Covers above.key (C.key_of item) → Contains seen h
    entry_seen h node p above is covering = child_seen shape.root_place.node.level h node p above shape.root_place.node is shape.root_place.is (omega arith) covering

    leaf_seen : (h : Handle) (node : Node C) → t.look h ≡ Some node → Contains (pairs_of node.body) (number, item) → Contains seen h
    leaf_seen h node is has = go node.place refl
      where
        go : (place : Position) → node.place ≡ place → Contains seen h
        go Root place = root_seen h node is place
        go (Linked p marked) place =
            let next = shape.entry_up h node is p marked place in
            entry_seen h node p next is ((shape.cover p next.node next.is next.key h next.entry node is).pairs (number, item) has)
        go (Unlinked l) place =
            let left = shape.unlinked_left h node is l place in
            let next = shape.entry_up l left.node left.is left.parent true left.place in
            let covers = (shape.cover_marked left.parent next.node next.is next.key l next.entry left.node left.is (marked_at left.node.place left.parent left.place) h node left.right is).pairs (number, item) has in
            right_seen l left.node left.is left.parent left.place h left.right (entry_seen l left.node left.parent next left.is covers)
        go (Retired stamp) place = absurd (no_pair node.body (number, item) (shape.retired_empty h node is stamp place) has)

    pub slot_named : (h : Handle) (node : Node C) → t.look h ≡ Some node → Contains (pairs_of node.body) (number, item) → Contains slots h.slot
    slot_named h node is has = seeing.found h node is (leaf_seen h node is has) has

  -- so every leaf that has the pair is named
  pub sees_all : (t : PlainTree Key Query Item) (slots : List ℕ) → Laws C → IsSound C t → Sees C number item (value_at t.nodes) t.root [] slots → HasAllSlots C number item t slots
  sees_all t slots laws sound sees h node is has = slot_named laws sound.invariant.shape sees.seen slots sees.seeing h node is has
