-- Slots that are noted: the world keeps what is in them, whatever happens.
use Rattle.std.proofs.Common.{◌≡◌, ◌⊎◌, ℕ, Bool, true, false, ◌||◌, List, [], ◌∷◌, ◌++◌, Contains, Option, Some, None, IsSome, IsTrue, Result, Ok, Err, if◌then◌else◌, inl, inr, refl, sym, ap, subst}
use Rattle.std.specs.List.{list_any}
use Rattle.std.specs.Option.{is_some}
use Rattle.node_arena.specs.Slots.{value_at}
use Rattle.node_arena.specs.declared.handle.Handle.{Handle}
use Rattle.plane.specs.declared.point.Point.{Point}
use Rattle.features.specs.declared.rows.Change.{Change}
use Rattle.features.specs.declared.rows.Feature.{Feature}
use Rattle.plain_world.specs.Keeping.{brings, is_kept, is_staged, stands}
use Rattle.plain_world.specs.Staging.{TransactionData, staged, with_step}
use Rattle.plain_world.specs.States.{WorldData}
use Rattle.search_tree.specs.Dues.{NothingDue}
use Rattle.search_tree.specs.Tends.{StepsAt}
use Rattle.search_tree.specs.Trees.{tree_of}
use Rattle.tree_answers.specs.declared.answers.Tending.{Tending}
use Rattle.tree_answers.specs.declared.answers.Tending.TheVariants.{Idle, Freed, Installed, Cleaned, Retired}
use Rattle.tree_answers.specs.declared.fault.TreeFault.{TreeFault}
use Rattle.tree_theory.specs.Changes.{OneNode, SameNodes, IsCleaned, IsFreed, IsInstalled, IsRetired}
use Rattle.tree_theory.specs.Contents.{pairs_at}
use Rattle.tree_theory.specs.Nodes.{Node, Tree, pairs_of}
use Rattle.tree_theory.proofs.ListLemmas.{handle_cases, nothing_in, picked_from}
use Rattle.world.specs.Index.{Index, frames}
use Rattle.world.specs.Kept.{AreKept, TendsBy, is_idle, is_noted}
use Rattle.world.specs.Stepping.{KeepsPair}
use Rattle.world.specs.declared.kept_slots.KeptSlots.{KeptSlots}

abbrev Pair : Type 0
Pair = ℕ × List Point

-- ---- steps after which no node has more pairs

-- each pair of a node of u was in the node at that handle of t
abbrev pub Fewer : Tree frames → Tree frames → Type 0
Fewer t u = (h : Handle) (pair : Pair) → Contains (pairs_at (u.look h)) pair → Contains (pairs_at (t.look h)) pair

pub fewer_same : {t u : Tree frames} → SameNodes t u → Fewer t u
fewer_same same h pair has = subst (λ (o : Option (Node frames)). Contains (pairs_at o) pair) (same.look h) has

module _ (t u : Tree frames) where
  kept_there : {h : Handle} (pair : Pair) → u.look h ≡ t.look h → Contains (pairs_at (u.look h)) pair → Contains (pairs_at (t.look h)) pair
  kept_there pair same has = subst (λ (o : Option (Node frames)). Contains (pairs_at o) pair) same has

  node_there : {h : Handle} (old new : Node frames) (pair : Pair) → t.look h ≡ Some old → u.look h ≡ Some new → (Contains (pairs_of new.body) pair → Contains (pairs_of old.body) pair) → Contains (pairs_at (u.look h)) pair → Contains (pairs_at (t.look h)) pair
  node_there old new pair before after were has =
      subst (λ (o : Option (Node frames)). Contains (pairs_at o) pair) (sym before) (were (subst (λ (o : Option (Node frames)). Contains (pairs_at o) pair) after has))

  at_this : {x h : Handle} (pair : Pair) → h ≡ x → (Contains (pairs_at (u.look x)) pair → Contains (pairs_at (t.look x)) pair) → Contains (pairs_at (u.look h)) pair → Contains (pairs_at (t.look h)) pair
  at_this pair e were has = subst (λ (k : Handle). Contains (pairs_at (t.look k)) pair) (sym e) (were (subst (λ (k : Handle). Contains (pairs_at (u.look k)) pair) e has))

  pub fewer_one : {x : Handle} {old new : Node frames} → OneNode t u x old new → ((pair : Pair) → Contains (pairs_of new.body) pair → Contains (pairs_of old.body) pair) → Fewer t u
  fewer_one {x = x} {old = old} {new = new} change were h pair has = elim (handle_cases h x) [
    | inl e ↦ at_this pair e (node_there old new pair change.before change.after (were pair)) has
    | inr apart ↦ kept_there pair (change.others h apart) has
  ]

  fewer_freed : {x : Handle} → IsFreed t u x → Fewer t u
  fewer_freed {x = x} change h pair has = elim (handle_cases h x) [
    | inl e ↦ at_this pair e (λ gone. absurd (nothing_in pair (subst (λ (o : Option (Node frames)). Contains (pairs_at o) pair) change.gone gone))) has
    | inr apart ↦ kept_there pair (change.others h apart) has
  ]

  fewer_installed : {p l r : Handle} → IsInstalled t u p l r → Fewer t u
  fewer_installed {p = p} {l = l} {r = r} change h pair has = elim (handle_cases h p) [
    | inl e ↦ at_this pair e (node_there change.node _ pair change.parent_before change.parent_now (λ none. absurd (nothing_in pair none))) has
    | inr not_parent ↦ elim (handle_cases h l) [
      | inl e ↦ at_this pair e (node_there change.left _ pair change.left_before change.left_now (λ same. same)) has
      | inr not_left ↦ elim (handle_cases h r) [
        | inl e ↦ at_this pair e (node_there change.right _ pair change.right_before change.right_now (λ same. same)) has
        | inr not_right ↦ kept_there pair (change.others h not_parent not_left not_right) has
      ]
    ]
  ]

  fewer_cleaned : {Kept : Pair → Type 0} {x : Handle} → IsCleaned t u Kept x → Fewer t u
  fewer_cleaned change =
      fewer_one change.nodes
      (λ pair has. subst (λ body. Contains (pairs_of body) pair) (sym change.body) (picked_from pair change.kept has).0)

  fewer_retired : {l p : Handle} → IsRetired t u l p → Fewer t u
  fewer_retired {l = l} {p = p} change h pair has = elim (handle_cases h l) [
    | inl e ↦ at_this pair e (node_there change.leaf _ pair change.leaf_before change.leaf_now (λ same. same)) has
    | inr not_leaf ↦ elim (handle_cases h p) [
      | inl e ↦ at_this pair e (node_there change.node _ pair change.parent_before change.parent_now (λ none. absurd (nothing_in pair none))) has
      | inr not_parent ↦ kept_there pair (change.others h not_leaf not_parent) has
    ]
  ]

fewer_tended : (t u : Index) (Kept : Pair → Type 0) (x : Handle) (tending : Tending) → StepsAt frames t Kept x u tending → Fewer (tree_of frames t) (tree_of frames u)
fewer_tended t u Kept x Idle same = λ h pair has. subst (λ (i : Index). Contains (pairs_at (value_at i.nodes h)) pair) same has
fewer_tended t u Kept x Freed change = fewer_freed (tree_of frames t) (tree_of frames u) change.0
fewer_tended t u Kept x Installed change = fewer_installed (tree_of frames t) (tree_of frames u) change.2
fewer_tended t u Kept x Cleaned change = fewer_cleaned (tree_of frames t) (tree_of frames u) change
fewer_tended t u Kept x Retired change = fewer_retired (tree_of frames t) (tree_of frames u) change.1

-- ---- a slot is tended

not_false : (b : Bool) → ((b ≡ true → ⊥) → ⊥) → b ≡ true
not_false true clash = refl
not_false false clash = absurd (clash (λ e. absurd (cc (e))))

module _ (Kept : Pair → Type 0) (slot : ℕ) (t u : Index) where
  -- what holds whether the slot has a node, or has none and nothing changes
  by_node : (b : Bool) (answer : Result Tending TreeFault) → TendsBy Kept slot t u answer → ((at : Handle) → at.slot ≡ slot → IsSome (value_at t.nodes at) → b ≡ true) → (u ≡ t → b ≡ true) → b ≡ true
  by_node true answer tends node none = refl
  by_node false answer tends node none = none (tends.untouched (λ at is some. let wrong = node at is some in absurd (cc (wrong))))

  -- where the world has kept what is in noted slots, it does so afterwards
  pub kept_tended : (w : WorldData) (notes : KeptSlots) (answer : Result Tending TreeFault) → TendsBy Kept slot t u answer → AreKept w t notes → AreKept w u notes
  kept_tended w notes (Err fault) tends h = subst (λ (i : Index). AreKept w i notes) (sym tends.refused) h
  kept_tended w notes (Ok tending) tends h = λ at noted pair has.
      by_node (is_kept pair.0 pair.1 w) (Ok tending) tends (λ x is some. h at noted pair (fewer_tended t u Kept x tending (tends.step x is some) at pair has))
      (λ same. h at noted pair (subst (λ (i : Index). Contains (pairs_at (value_at i.nodes at)) pair) same has))

module _ (w : WorldData) (slot : ℕ) (t u : Index) where
  -- a node where nothing is due has only pairs that the world keeps
  kept_here : TendsBy (KeepsPair w) slot t u (Ok Idle) → (at : Handle) → at.slot ≡ slot → (pair : Pair) → Contains (pairs_at (value_at t.nodes at)) pair → KeepsPair w pair
  kept_here tends at is pair has = go (value_at t.nodes at) refl has
    where
      go : (o : Option (Node frames)) → value_at t.nodes at ≡ o → Contains (pairs_at o) pair → KeepsPair w pair
      go None e has = absurd (nothing_in pair has)
      go (Some node) e has =
          let due = tends.first at is (ap is_some e) in
          not_false (is_kept pair.0 pair.1 w) (λ unkept. due.clean (record { node = node; is = e; pair = pair; holds = has; unkept = unkept }))

  -- where nothing is found to do, the slot may be noted
  pub kept_noted : TendsBy (KeepsPair w) slot t u (Ok Idle) → (old new : KeptSlots) → ((other : ℕ) → is_noted new other ≡ true → (is_noted old other ≡ true) ⊎ (other ≡ slot)) → AreKept w u old → AreKept w u new
  kept_noted tends old new noted h at is pair has = elim (noted at.slot is) [
    | inl before ↦ h at before pair has
    | inr this ↦
        by_node (KeepsPair w) slot t u (is_kept pair.0 pair.1 w) (Ok Idle) tends
        (λ x there some. kept_here tends at this pair (subst (λ (i : Index). Contains (pairs_at (value_at i.nodes at)) pair) (tends.step x there some) has))
        (λ same. kept_here tends at this pair (subst (λ (i : Index). Contains (pairs_at (value_at i.nodes at)) pair) same has))
  ]

-- a keeper of every pair does at a slot whose pairs the world keeps what the world would do
module _ (w : WorldData) (slot : ℕ) (t u : Index) (Every : Pair → Type 0) (every : (pair : Pair) → Every pair) (kept : (at : Handle) → at.slot ≡ slot → (pair : Pair) → Contains (pairs_at (value_at t.nodes at)) pair → KeepsPair w pair) where
  none_due : (at : Handle) → at.slot ≡ slot → NothingDue frames t Every at → NothingDue frames t (KeepsPair w) at
  none_due at is due = record {
    stays = due.stays;
    linked = due.linked;
    clean = λ has. has.unkept (kept at is has.pair (subst (λ (o : Option (Node frames)). Contains (pairs_at o) has.pair) (sym has.is) has.holds));
    needed = due.needed;
  }

  none_cleaned : TendsBy Every slot t u (Ok Cleaned) → ⊥
  none_cleaned tends = let wrong = tends.nobody (λ at is some. let due = tends.first at is some in due.0.unkept (every due.0.pair)) in absurd (cc (wrong))

  pub tends_by_all : (answer : Result Tending TreeFault) → TendsBy Every slot t u answer → TendsBy (KeepsPair w) slot t u answer
  tends_by_all (Ok Idle) tends = record { tended = tends.tended; contents = tends.contents; first = λ at is some. none_due at is (tends.first at is some); step = tends.step; refused = tends.refused; nobody = tends.nobody; untouched = tends.untouched }
  tends_by_all (Ok Freed) tends = record { tended = tends.tended; contents = tends.contents; first = tends.first; step = tends.step; refused = tends.refused; nobody = tends.nobody; untouched = tends.untouched }
  tends_by_all (Ok Installed) tends = record { tended = tends.tended; contents = tends.contents; first = tends.first; step = tends.step; refused = tends.refused; nobody = tends.nobody; untouched = tends.untouched }
  tends_by_all (Ok Cleaned) tends = absurd (none_cleaned tends)
  tends_by_all (Ok Retired) tends = record { tended = tends.tended; contents = tends.contents; first = tends.first; step = tends.step; refused = tends.refused; nobody = tends.nobody; untouched = tends.untouched }
  tends_by_all (Err fault) tends = record { tended = tends.tended; contents = tends.contents; first = tends.first; step = tends.step; refused = tends.refused; nobody = tends.nobody; untouched = tends.untouched }

-- the same for an equal answer
pub tends_when : {Kept : Pair → Type 0} {slot : ℕ} {t u : Index} {one other : Result Tending TreeFault} → one ≡ other → TendsBy Kept slot t u one → TendsBy Kept slot t u other
tends_when {Kept = Kept} {slot = slot} {t = t} {u = u} e tends = subst (λ (answer : Result Tending TreeFault). TendsBy Kept slot t u answer) e tends

pub idle_answer : (answer : Result Tending TreeFault) → is_idle answer ≡ true → answer ≡ Ok Idle
idle_answer (Ok Idle) e = refl
idle_answer answer e = absurd cc
