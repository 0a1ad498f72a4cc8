-- The nodes that a new tree, a split and the root's growth make, and how one is put into the arena
-- over its children.
use Rattle.std.specs.Prelude.{◌≡◌, ◌≢◌, ℕ, ◌+◌, ◌≤◌, false, true, List, [], Contains, None, Some}
use Rattle.std.specs.Option.{option_map}
use Rattle.node_arena.specs.Slots.{Slots, SameCounts, value_at, taken_count, slot_count}
use Rattle.node_arena.specs.declared.handle.Handle.{Handle}
use Rattle.tree_theory.specs.Nodes.{PlainBody, PlainNode, under}
use Rattle.tree_theory.specs.Nodes.PlainBody.{Leaf}
use Rattle.tree_theory.specs.declared.position.Position.TheVariants.{Root, Linked, Unlinked}

module _ {Key Item : Type 0} where
  -- the root of a new tree
  abbrev pub first_leaf : ℕ → PlainNode Key Item
  first_leaf seq =
      record {
        level = 0;
        body = Leaf [];
        seq = seq;
        right = None;
        place = Root;
        attached = [];
      }

  -- a new right node of this one, with this body. No entry names it yet
  abbrev pub right_of : PlainNode Key Item → Handle → PlainBody Key Item → PlainNode Key Item
  right_of node left body = record node { body = body; place = Unlinked left }

  -- the left node of a split, under this parent, with this body
  abbrev pub left_of : PlainNode Key Item → Handle → Handle → PlainBody Key Item
      → PlainNode Key Item
  left_of node parent right body =
      record node { body = body; right = Some right; place = Linked parent true }

  -- a new node under the growing root, with this body
  abbrev pub below : PlainNode Key Item → Handle → ℕ → PlainBody Key Item → PlainNode Key Item
  below root at seq body =
      record {
        level = root.level;
        body = body;
        seq = seq;
        right = None;
        place = Linked at false;
        attached = root.attached;
      }

  -- these nodes have another parent, if they were linked; nothing else changes
  pub record HasAdopted (old new : Slots (PlainNode Key Item)) (children : List Handle)
      (parent : Handle) : Type 0 where
    pub adopted : (h : Handle) → Contains children h
        → value_at new h ≡ option_map (under parent) (value_at old h)
    pub others : (h : Handle) → (Contains children h → ⊥) → value_at new h ≡ value_at old h
    pub counts : SameCounts old new
    pub places : new.places ≡ old.places

  -- a new node is at a handle that named none, and its linked children are under it; nothing else
  -- changes
  pub record IsPutOver (old new : Slots (PlainNode Key Item)) (node : PlainNode Key Item)
      (children : List Handle) (at : Handle) : Type 0 where
    pub fresh : value_at old at ≡ None
    pub here : (Contains children at → ⊥) → value_at new at ≡ Some node
    pub here_under : Contains children at → value_at new at ≡ Some (under at node)
    pub adopted : (h : Handle) → h ≢ at → Contains children h
        → value_at new h ≡ option_map (under at) (value_at old h)
    pub others : (h : Handle) → h ≢ at → (Contains children h → ⊥) → value_at new h ≡ value_at old h

  -- `more` more slots are taken
  pub record MoreTaken (old new : Slots (PlainNode Key Item)) (more : ℕ) : Type 0 where
    pub taken : taken_count new ≡ taken_count old + more
    pub slots_kept : slot_count old ≤ slot_count new
    pub slots_most : slot_count new ≤ slot_count old + more
