-- Where a search gets along rightlinks, and which nodes it is done with or owed.
use Rattle.std.specs.Prelude.{◌≡◌, ◌⊎◌, ℕ, List, Contains, Some, IsTrue}
use Rattle.node_arena.specs.declared.handle.Handle.{Handle}
use Rattle.tree_theory.specs.KeyClasses.{Class}
use Rattle.tree_theory.specs.Nodes.{Node, Search, Tree, is_followed}

module _ {Key Query Item : Type 0} {C : Class Key Query Item} where
  -- a search that comes to x with this memo follows to its right node y
  pub record Step (t : Tree C) (memo : ℕ) (x y : Handle) : Type 0 where
    pub node : Node C
    pub is : t.look x ≡ Some node
    pub follows : IsTrue (is_followed node.place node.seq memo)
    pub right : node.right ≡ Some y

  -- such steps lead from a handle to `last`
  pub data Leads (t : Tree C) (memo : ℕ) (last : Handle) : Handle → Type 0 where
    here : Leads t memo last last
    along : {x y : Handle} → Step t memo x y → Leads t memo last y → Leads t memo last x

  -- from some handle on the stack, steps with its memo lead to `last`
  pub record StackLeads (t : Tree C) (stack : List (Handle × ℕ)) (last : Handle) : Type 0 where
    pub from : Handle
    pub memo : ℕ
    pub on_stack : Contains stack (from, memo)
    pub leads : Leads t memo last from

  -- the search with this number is attached to the node, so it is done with it: it has seen the
  -- node's contents, or has found, or will come to, whatever it looks for there
  pub record Done (t : Tree C) (s : ℕ) (h : Handle) : Type 0 where
    pub node : Node C
    pub is : t.look h ≡ Some node
    pub attached : Contains node.attached s

  -- the search is done with the node, or will come to it
  abbrev pub Owed : Tree C → ℕ → Search C → Handle → Type 0
  Owed t s search h = Done t s h ⊎ StackLeads t search.stack h
