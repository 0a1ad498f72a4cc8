-- A whole search of a tree that stays as it is misses nothing.
use Rattle.std.proofs.Common.{◌≡◌, ◌⊎◌, ℕ, zero, suc, ◌+◌, ◌≤◌, true, List, [], ◌∷◌, ◌++◌, Contains, Option, Some, None, Result, Ok, Err, OnOk, IfOk, IsTrue, refl, sym, subst, ◌∙◌, inl, inr, arith}
use Rattle.std.proofs.lemmas.List.Elements.{Contains-append_cases, Contains-append_left, Contains-append_right}
use Rattle.node_arena.specs.declared.handle.Handle.{Handle}
use Rattle.tree_reading.specs.Reading.{HasAllBelow, HasOnly, LeadsOn, OneOf, FindsIn, HasRead, HasReadAt, IsReading, Reads}
use Rattle.tree_theory.specs.Contents.{InContents}
use Rattle.tree_theory.specs.Invariant.{Parent, Shape}
use Rattle.tree_theory.specs.KeyClasses.{Class, Laws}
use Rattle.tree_theory.specs.Nodes.{Node, Tree, is_marked, entries_of, pairs_of}
use Rattle.tree_theory.specs.declared.position.Position.{Position}
use Rattle.tree_theory.specs.declared.position.Position.TheVariants.{Root, Linked, Unlinked, Retired}
use Rattle.tree_theory.proofs.ContentsKept.{contents_have}
use Rattle.tree_theory.proofs.ListLemmas.{first_in, later_in, nothing_in, in_cases, in_one, handle_cases}
use Rattle.tree_theory.proofs.Ready.{marked_at, no_entry, no_pair}

-- of a list with one more element at its end
pub kept_in : {T : Type 0} (xs : List T) (y x : T) → Contains xs x → Contains (xs ++ y ∷ []) x
kept_in xs y x has = Contains-append_left xs (y ∷ []) x has

pub ok_then : {T E : Type 0} (r : Result T E) {P Q : Type 0} → (P → Q) → OnOk r P → OnOk r Q
ok_then (Ok x) goes on = goes on
ok_then (Err e) goes on = tt

pub if_ok_map : {T E : Type 0} (r : Result T E) {P Q : T → Type 0} → ((x : T) → P x → Q x) → IfOk r P → IfOk r Q
if_ok_map (Ok x) goes p = goes x p
if_ok_map (Err e) goes p = tt

none_some : {T : Type 0} (x : T) → ◌≡◌ {A = Option T} None (Some x) → ⊥
none_some x e = absurd (cc (e))

pub last_in : {T : Type 0} (xs : List T) (y : T) → Contains (xs ++ y ∷ []) y
last_in xs y = Contains-append_right xs (y ∷ []) y (first_in y [])

pub more_cases : {T : Type 0} (xs : List T) (y x : T) → Contains (xs ++ y ∷ []) x → Contains xs x ⊎ (y ≡ x)
more_cases xs y x has = elim (Contains-append_cases xs (y ∷ []) x has) [
  | inl before ↦ inl before
  | inr last ↦ inr (in_one y x last)
]

module _ {Key Query Item : Type 0} (C : Class Key Query Item) (query : Query) where
  -- the children, entry by entry
  pub leads_none : (left : List Handle) → LeadsOn C query [] left left
  leads_none left = record { keeps = λ h has. has; adds = λ entry has consistent. absurd (nothing_in entry has) }

  pub leads_more : (entries : List (Key × Handle)) (old mid : List Handle) (entry : Key × Handle) → LeadsOn C query entries old mid → LeadsOn C query (entries ++ entry ∷ []) old (mid ++ entry.1 ∷ [])
  leads_more entries old mid entry leads = record {
    keeps = λ h has. kept_in mid entry.1 h (leads.keeps h has);
    adds = λ other has consistent. elim (more_cases entries entry other has) [
      | inl before ↦ kept_in mid entry.1 other.1 (leads.adds other before consistent)
      | inr same ↦ subst (λ (e : Key × Handle). Contains (mid ++ entry.1 ∷ []) e.1) same (last_in mid entry.1)
    ];
  }

  pub leads_past : (entries : List (Key × Handle)) (old mid : List Handle) (entry : Key × Handle) → LeadsOn C query entries old mid → (C.Consistent entry.0 query → ⊥) → LeadsOn C query (entries ++ entry ∷ []) old mid
  leads_past entries old mid entry leads never = record {
    keeps = leads.keeps;
    adds = λ other has consistent. elim (more_cases entries entry other has) [
      | inl before ↦ leads.adds other before consistent
      | inr same ↦ absurd (never (subst (λ (e : Key × Handle). C.Consistent e.0 query) (sym same) consistent))
    ];
  }

  -- the numbers, pair by pair
  pub finds_none : (ids : List ℕ) → FindsIn C query [] ids ids
  finds_none ids = record {
    keeps = λ id has. has;
    adds = λ pair has matches. absurd (nothing_in pair has);
    only = λ id has. inl has;
  }

  wider : (pairs : List (ℕ × Item)) (pair : ℕ × Item) (id : ℕ) → OneOf C query pairs id → OneOf C query (pairs ++ pair ∷ []) id
  wider pairs pair id one = record { pair = one.pair; is = one.is; among = kept_in pairs pair one.pair one.among; matches = one.matches }

  pub finds_more : (pairs : List (ℕ × Item)) (old mid : List ℕ) (pair : ℕ × Item) → FindsIn C query pairs old mid → C.Matches pair.1 query → FindsIn C query (pairs ++ pair ∷ []) old (mid ++ pair.0 ∷ [])
  finds_more pairs old mid pair finds matches = record {
    keeps = λ id has. kept_in mid pair.0 id (finds.keeps id has);
    adds = λ other has fits. elim (more_cases pairs pair other has) [
      | inl before ↦ kept_in mid pair.0 other.0 (finds.adds other before fits)
      | inr same ↦ subst (λ (p : ℕ × Item). Contains (mid ++ pair.0 ∷ []) p.0) same (last_in mid pair.0)
    ];
    only = λ id has. elim (more_cases mid pair.0 id has) [
      | inl before ↦ elim (finds.only id before) [
        | inl old ↦ inl old
        | inr one ↦ inr (wider pairs pair id one)
      ]
      | inr same ↦ inr (record { pair = pair; is = same; among = last_in pairs pair; matches = matches })
    ];
  }

  pub finds_past : (pairs : List (ℕ × Item)) (old mid : List ℕ) (pair : ℕ × Item) → FindsIn C query pairs old mid → (C.Matches pair.1 query → ⊥) → FindsIn C query (pairs ++ pair ∷ []) old mid
  finds_past pairs old mid pair finds never = record {
    keeps = finds.keeps;
    adds = λ other has fits. elim (more_cases pairs pair other has) [
      | inl before ↦ finds.adds other before fits
      | inr same ↦ absurd (never (subst (λ (p : ℕ × Item). C.Matches p.1 query) (sym same) fits))
    ];
    only = λ id has. elim (finds.only id has) [
      | inl old ↦ inl old
      | inr one ↦ inr (wider pairs pair id one)
    ];
  }

  -- the search begins with the root
  pub reads_first : (look : Handle → Option (Node C)) (root : Handle) → IsReading C query look root [] (root ∷ []) []
  reads_first look root = record {
    begun = inr (first_in root []);
    child = λ p node is has. absurd (nothing_in p has);
    mark = λ l node is has. absurd (nothing_in l has);
    found = λ h node is has. absurd (nothing_in h has);
    only = λ id has. absurd (nothing_in id has);
  }

  -- what was seen or left is so still when the last one left is taken away and counts as seen
  moved : (seen rest after : List Handle) (x h : Handle) → ((y : Handle) → Contains rest y → Contains after y) → Contains seen h ⊎ Contains (rest ++ x ∷ []) h → Contains (x ∷ seen) h ⊎ Contains after h
  moved seen rest after x h keeps (inl was) = inl (later_in x seen h was)
  moved seen rest after x h keeps (inr was) = elim (more_cases rest x h was) [
    | inl before ↦ inr (keeps h before)
    | inr same ↦ inl (subst (Contains (x ∷ seen)) same (first_in x seen))
  ]

  -- a node that is gone
  pub reads_gone : (look : Handle → Option (Node C)) (root : Handle) (seen rest : List Handle) (ids : List ℕ) (x : Handle) → IsReading C query look root seen (rest ++ x ∷ []) ids → look x ≡ None → IsReading C query look root (x ∷ seen) rest ids
  reads_gone look root seen rest ids x reading gone = record {
    begun = moved seen rest rest x root (λ y has. has) reading.begun;
    child = λ p node is has entry among consistent. moved seen rest rest x entry.1 (λ y z. z) (reading.child p node is (there p node is has) entry among consistent);
    mark = λ l node is has marked r right. moved seen rest rest x r (λ y z. z) (reading.mark l node is (there l node is has) marked r right);
    found = λ h node is has pair among matches. reading.found h node is (there h node is has) pair among matches;
    only = reading.only;
  }
    where
      there : (h : Handle) (node : Node C) → look h ≡ Some node → Contains (x ∷ seen) h → Contains seen h
      there h node is has = elim (in_cases x seen h has) [
        | inl same ↦ absurd (none_some node (sym gone ∙ subst (λ y. look y ≡ Some node) (sym same) is))
        | inr was ↦ was
      ]

  -- a node that is seen
  pub reads_next : (look : Handle → Option (Node C)) (root : Handle) (seen rest after : List Handle) (ids ids_after : List ℕ) (x : Handle) (node : Node C) → IsReading C query look root seen (rest ++ x ∷ []) ids → look x ≡ Some node → HasRead C query node rest after ids ids_after → IsReading C query look root (x ∷ seen) after ids_after
  reads_next look root seen rest after ids ids_after x node reading is read = record {
    begun = moved seen rest after x root read.keeps reading.begun;
    child = λ p other at has entry among consistent. elim (in_cases x seen p has) [
      | inl same ↦ inr (read.children entry (subst (λ (n : Node C). Contains (entries_of n.body) entry) (sym (that p other at same)) among) consistent)
      | inr was ↦ moved seen rest after x entry.1 read.keeps (reading.child p other at was entry among consistent)
    ];
    mark = λ l other at has marked r right. elim (in_cases x seen l has) [
      | inl same ↦ inr (read.right (subst (λ (n : Node C). IsTrue (is_marked n.place)) (sym (that l other at same)) marked) r (subst (λ (n : Node C). n.right ≡ Some r) (sym (that l other at same)) right))
      | inr was ↦ moved seen rest after x r read.keeps (reading.mark l other at was marked r right)
    ];
    found = λ h other at has pair among matches. elim (in_cases x seen h has) [
      | inl same ↦ read.finds.adds pair (subst (λ (n : Node C). Contains (pairs_of n.body) pair) (sym (that h other at same)) among) matches
      | inr was ↦ read.finds.keeps pair.0 (reading.found h other at was pair among matches)
    ];
    only = λ id has. elim (read.finds.only id has) [
      | inl was ↦ reading.only id was
      | inr one ↦ record { pair = one.pair; number = one.is; handle = x; node = node; is = is; pair_in = one.among; matches = one.matches }
    ];
  }
    where
      that : (h : Handle) (other : Node C) → look h ≡ Some other → x ≡ h → node ≡ other
      that h other at same = let here : look x ≡ Some other = subst (λ y. look y ≡ Some other) (sym same) at in cc (is, here)

  -- where nothing is left, every node that has something for the query has been seen
  module _ (laws : Laws C) {t : Tree C} (shape : Shape t) (seen : List Handle) (ids : List ℕ) (reading : IsReading C query t.look t.root seen [] ids) where
    all_seen : (h : Handle) → Contains seen h ⊎ Contains [] h → Contains seen h
    all_seen h (inl was) = was
    all_seen h (inr never) = absurd (nothing_in h never)

    root_seen : (h : Handle) (node : Node C) → t.look h ≡ Some node → node.place ≡ Root → Contains seen h
    root_seen h node is place = subst (Contains seen) (sym (shape.root_only h node is place)) (all_seen t.root reading.begun)

    right_seen : (l : Handle) (left : Node C) → t.look l ≡ Some left → (parent : Handle) → left.place ≡ Linked parent true → (r : Handle) → left.right ≡ Some r → Contains seen l → Contains seen r
    right_seen l left is parent place r right was = all_seen r (reading.mark l left is was (marked_at left.place parent place) r right)

    child_seen : (d : ℕ) (h : Handle) (node : Node C) (p : Handle) (above : Parent t h node p) (top : Node C) → t.look h ≡ Some node → t.look t.root ≡ Some top → top.level ≤ node.level + d → C.Consistent above.key query → Contains seen h
    child_seen zero h node p above top is is_top high consistent = elim (handle_cases p t.root) [
      | inl at_root ↦
          let same : above.node ≡ top = cc (above.is, is_top, at_root) in
          let level : above.node.level ≡ node.level + 1 = above.level in
          let top_level : top.level ≡ node.level + 1 = subst (λ n. n.level ≡ node.level + 1) same level in
          absurd (omega arith)
      | inr below ↦
          let lower = shape.below_root p above.node top above.is is_top below in
          let level = above.level in
          absurd (omega arith)
    ]
    child_seen (suc d) h node p above top is is_top high consistent = all_seen h (reading.child p above.node above.is (parent_seen (λ g m q up at high consistent. child_seen d g m q up top at is_top high consistent) above.node.place refl) (above.key, h) above.entry consistent)
      where
        parent_seen : ((g : Handle) (m : Node C) (q : Handle) (up : Parent t g m q) → t.look g ≡ Some m → top.level ≤ m.level + d → C.Consistent up.key query → Contains seen g) → (place : Position) → above.node.place ≡ place → Contains seen p
        parent_seen higher Root place = root_seen p above.node above.is place
        parent_seen higher (Linked q marked) place =
            let next = shape.entry_up p above.node above.is q marked place in
            let covers = (shape.cover q next.node next.is next.key p next.entry above.node above.is).entries (above.key, h) above.entry in
            let level = above.level in
            higher p above.node q next above.is (omega arith) (laws.monotone next.key above.key query covers consistent)
        parent_seen higher (Unlinked l) place =
            let left = shape.unlinked_left p above.node above.is l place in
            let next = shape.entry_up l left.node left.is left.parent true left.place in
            let covers = (shape.cover_marked left.parent next.node next.is next.key l next.entry left.node left.is (marked_at left.node.place left.parent left.place) p above.node left.right above.is).entries (above.key, h) above.entry in
            let level = above.level in
            let same_level = left.level in
            right_seen l left.node left.is left.parent left.place p left.right (higher l left.node left.parent next left.is (omega arith) (laws.monotone next.key above.key query covers consistent))
        parent_seen higher (Retired stamp) place = absurd (no_entry above.node.body (above.key, h) (shape.retired_empty p above.node above.is stamp place) above.entry)

    entry_seen : (h : Handle) (node : Node C) (p : Handle) (above : Parent t h node p) → t.look h ≡ Some node → C.Consistent above.key query → Contains seen h
    entry_seen h node p above is consistent = child_seen shape.root_place.node.level h node p above shape.root_place.node is shape.root_place.is (omega arith) consistent

    leaf_seen : (h : Handle) (node : Node C) → t.look h ≡ Some node → (pair : ℕ × Item) → Contains (pairs_of node.body) pair → C.Matches pair.1 query → Contains seen h
    leaf_seen h node is pair has matches = go node.place refl
      where
        go : (place : Position) → node.place ≡ place → Contains seen h
        go Root place = root_seen h node is place
        go (Linked p marked) place =
            let next = shape.entry_up h node is p marked place in
            let covers = (shape.cover p next.node next.is next.key h next.entry node is).pairs pair has in
            entry_seen h node p next is (laws.monotone next.key (C.key_of pair.1) query covers (laws.sound pair.1 query matches))
        go (Unlinked l) place =
            let left = shape.unlinked_left h node is l place in
            let next = shape.entry_up l left.node left.is left.parent true left.place in
            let covers = (shape.cover_marked left.parent next.node next.is next.key l next.entry left.node left.is (marked_at left.node.place left.parent left.place) h node left.right is).pairs pair has in
            right_seen l left.node left.is left.parent left.place h left.right (entry_seen l left.node left.parent next left.is (laws.monotone next.key (C.key_of pair.1) query covers (laws.sound pair.1 query matches)))
        go (Retired stamp) place = absurd (no_pair node.body pair (shape.retired_empty h node is stamp place) has)

    pub in_ids : (pair : ℕ × Item) → InContents t pair → C.Matches pair.1 query → Contains ids pair.0
    in_ids pair has matches = reading.found has.handle has.node has.is (leaf_seen has.handle has.node has.is pair has.pair_in matches) pair has.pair_in matches

  -- so the search has found all that matches, and nothing else
  pub reads_all : (look : Handle → Option (Node C)) (root : Handle) (ids : List ℕ) → Laws C → Reads C query look root [] ids → HasAllBelow C query look root ids
  reads_all look root ids laws reads t same_look same_root shape xs contents pair has matches =
      let over : IsReading C query t.look root reads.seen [] ids = subst (λ (l : Handle → Option (Node C)). IsReading C query l root reads.seen [] ids) (sym same_look) reads.reading in
      let from : IsReading C query t.look t.root reads.seen [] ids = subst (λ r. IsReading C query t.look r reads.seen [] ids) (sym same_root) over in
      in_ids laws shape reads.seen ids from pair ((contents_have t xs contents pair).0 has) matches

  pub reads_only : (look : Handle → Option (Node C)) (root : Handle) (ids : List ℕ) → Reads C query look root [] ids → HasOnly C query look ids
  reads_only look root ids reads = reads.reading.only

  -- one step of the search, at a handle that was last of those left
  pub next_reads : (look : Handle → Option (Node C)) (root : Handle) (before rest after : List Handle) (ids ids_after : List ℕ) (x : Handle) (node : Node C) → Reads C query look root before ids → before ≡ rest ++ x ∷ [] → look x ≡ Some node → HasRead C query node rest after ids ids_after → Reads C query look root after ids_after
  next_reads look root before rest after ids ids_after x node reads popped is read = record {
    seen = x ∷ reads.seen;
    reading = reads_next look root reads.seen rest after ids ids_after x node (subst (λ l. IsReading C query look root reads.seen l ids) popped reads.reading) is read;
  }

  pub gone_reads : (look : Handle → Option (Node C)) (root : Handle) (before rest : List Handle) (ids : List ℕ) (x : Handle) → Reads C query look root before ids → before ≡ rest ++ x ∷ [] → look x ≡ None → Reads C query look root rest ids
  gone_reads look root before rest ids x reads popped gone = record {
    seen = x ∷ reads.seen;
    reading = reads_gone look root reads.seen rest ids x (subst (λ l. IsReading C query look root reads.seen l ids) popped reads.reading) gone;
  }

  pub first_reads : (look : Handle → Option (Node C)) (root : Handle) → Reads C query look root (root ∷ []) []
  first_reads look root = record { seen = []; reading = reads_first look root }

  pub step_reads : (look : Handle → Option (Node C)) (root : Handle) (before rest after : List Handle) (ids ids_after : List ℕ) (x : Handle) (o : Option (Node C)) → look x ≡ o → Reads C query look root before ids → before ≡ rest ++ x ∷ [] → HasReadAt C query o rest after ids ids_after → Reads C query look root after ids_after
  step_reads look root before rest after ids ids_after x None is reads popped read =
      subst (λ l. Reads C query look root l ids_after) (sym read.0) (subst (λ n. Reads C query look root rest n) (sym read.1) (gone_reads look root before rest ids x reads popped is))
  step_reads look root before rest after ids ids_after x (Some node) is reads popped read =
      next_reads look root before rest after ids ids_after x node reads popped is read
