-- One node is replaced: what stays done and owed.
use Rattle.std.proofs.Common.{◌≡◌, ◌≢◌, ◌⊎◌, ℕ, Contains, Some, inl, inr}
use Rattle.node_arena.specs.declared.handle.Handle.{Handle}
use Rattle.tree_theory.specs.Changes.{OneNode, SameNodes, Numbers}
use Rattle.tree_theory.specs.KeyClasses.{Class}
use Rattle.tree_theory.specs.Nodes.{Node, Search, Tree}
use Rattle.tree_theory.specs.Walks.{Step, Leads, Done, Owed}
use Rattle.tree_theory.specs.Walks.Leads.{here, along}
use Rattle.tree_theory.proofs.ListLemmas.{handle_cases}
use Rattle.tree_theory.proofs.Leads.{leads_map}

module _ {Key Query Item : Type 0} {C : Class Key Query Item} where
  -- the old node of each new one, and the new node of each old one
  pub node_from : {t u : Tree C} {h : Handle} {old new : Node C} → OneNode t u h old new → (x : Handle) (n : Node C) → u.look x ≡ Some n → ((x ≡ h) × (new ≡ n)) ⊎ (t.look x ≡ Some n)
  node_from {t = t} {u = u} {h = h} {old = old} {new = new} r x n is = go (handle_cases x h)
    where
      go : (x ≡ h) ⊎ (x ≢ h) → ((x ≡ h) × (new ≡ n)) ⊎ (t.look x ≡ Some n)
      go (inl e) = inl (e, cc (r.after, is))
      go (inr ne) = inr (cc (r.others x ne, is))

  pub node_to : {t u : Tree C} {h : Handle} {old new : Node C} → OneNode t u h old new → (x : Handle) (n : Node C) → t.look x ≡ Some n → ((x ≡ h) × (old ≡ n)) ⊎ (u.look x ≡ Some n)
  node_to {t = t} {u = u} {h = h} {old = old} {new = new} r x n is = go (handle_cases x h)
    where
      go : (x ≡ h) ⊎ (x ≢ h) → ((x ≡ h) × (old ≡ n)) ⊎ (u.look x ≡ Some n)
      go (inl e) = inl (e, cc (r.before, is))
      go (inr ne) = inr (cc (r.others x ne, is))

  -- A running search stays done with its nodes, and wherever a step with one of its memos led,
  -- steps still lead there.
  pub record Keeps (t u : Tree C) : Type 0 where
    pub done : (s : ℕ) (runs : Search C) → t.searches s ≡ Some runs → (h : Handle) → Done t s h → Done u s h
    pub steps : (s : ℕ) (runs : Search C) → t.searches s ≡ Some runs → (from : Handle) (memo : ℕ) → Contains runs.stack (from, memo) → (a b : Handle) → Step t memo a b → Leads u memo b a

  pub owed_kept : {t u : Tree C} → Keeps t u → (s : ℕ) (runs : Search C) → t.searches s ≡ Some runs → (h : Handle) → Owed t s runs h → Owed u s runs h
  owed_kept k s runs is h (inl done) = inl (k.done s runs is h done)
  owed_kept k s runs is h (inr stacked) =
      inr (record {
        from = stacked.from;
        memo = stacked.memo;
        on_stack = stacked.on_stack;
        leads = leads_map (k.steps s runs is stacked.from stacked.memo stacked.on_stack) stacked.leads;
      })

  -- a step from a node that keeps its place, number and rightlink
  pub step_kept : {t u : Tree C} {h : Handle} {old new : Node C} → OneNode t u h old new → new.place ≡ old.place → new.seq ≡ old.seq → new.right ≡ old.right → (memo : ℕ) (a b : Handle) → Step t memo a b → Leads u memo b a
  step_kept {t = t} {u = u} {h = h} {old = old} {new = new} r place seq right memo a b step = go (node_to r a step.node step.is)
    where
      go : ((a ≡ h) × (old ≡ step.node)) ⊎ (u.look a ≡ Some step.node) → Leads u memo b a
      go (inl e) =
          along (record {
            node = new;
            is = cc (r.after, e.0);
            follows = rw (place, seq, e.1) step.follows;
            right = cc (right, e.1, step.right);
          }) here
      go (inr stays) = along (record { node = step.node; is = stays; follows = step.follows; right = step.right }) here

  pub done_kept : {t u : Tree C} {h : Handle} {old new : Node C} → OneNode t u h old new → (s : ℕ) → (Contains old.attached s → Contains new.attached s) → (x : Handle) → Done t s x → Done u s x
  done_kept {t = t} {u = u} {h = h} {old = old} {new = new} r s keeps x done = go (node_to r x done.node done.is)
    where
      go : ((x ≡ h) × (old ≡ done.node)) ⊎ (u.look x ≡ Some done.node) → Done u s x
      go (inl e) = record { node = new; is = cc (r.after, e.0); attached = keeps (rw e.1 done.attached) }
      go (inr stays) = record { node = done.node; is = stays; attached = done.attached }

  -- one node is replaced that keeps its place, number, rightlink and running searches
  pub one_node_keeps : {t u : Tree C} {h : Handle} {old new : Node C} {Also : ℕ → Type 0} → OneNode t u h old new → new.place ≡ old.place → new.seq ≡ old.seq → new.right ≡ old.right → Numbers t Also old.attached new.attached → Keeps t u
  one_node_keeps r place seq right numbers =
      record {
        done = λ s runs is. done_kept r s (numbers.keeps s runs is);
        steps = λ s runs is from memo on_stack. step_kept r place seq right memo;
      }

  pub same_nodes_keeps : {t u : Tree C} → SameNodes t u → Keeps t u
  same_nodes_keeps same =
      record {
        done = λ s runs is h done. record { node = done.node; is = cc (same.look h, done.is); attached = done.attached };
        steps = λ s runs is from memo on_stack a b step. along (record { node = step.node; is = cc (same.look a, step.is); follows = step.follows; right = step.right }) here;
      }
