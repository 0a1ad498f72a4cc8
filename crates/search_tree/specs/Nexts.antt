-- What is next for a walk, and what its steps need.
use Rattle.std.specs.Prelude.{◌≡◌, ◌<◌, ◌≤◌, ℕ, List, true, Some, Result, Ok, Err, if◌then◌else◌, ⊤}
use Rattle.node_arena.specs.Slots.{value_at}
use Rattle.node_arena.specs.declared.handle.Handle.{Handle}
use Rattle.search_tree.specs.Advances.{IsHeldBy}
use Rattle.search_tree.specs.Cases.{Answers, Change, BeginsWith, IsAtLeaf, IsFree, IsWayDown, Wants}
use Rattle.search_tree.specs.Cases.Change.{Linking, Parting, Growing}
use Rattle.search_tree.specs.Splitting.{MayGrow, MaySplit}
use Rattle.tree_nodes.specs.Standings.{IsAside, IsNowhere}
use Rattle.search_tree.specs.Tends.{MayInstall}
use Rattle.search_tree.specs.Trees.{PlainTree}
use Rattle.search_tree.specs.Walks.{IsHolder, MayDescend, MayPlace}
use Rattle.search_tree.specs.declared.advancing.Arrival.{Arrival}
use Rattle.tree_answers.specs.declared.answers.Step.{Step}
use Rattle.tree_answers.specs.declared.fault.TreeFault.{TreeFault}
use Rattle.search_tree.specs.declared.nexts.Next.{Next}
use Rattle.search_tree.specs.declared.nexts.Next.TheVariants.{Restart, Climb, Descend, Hold, Place, Make}
use Rattle.search_tree.specs.declared.rooms.Room.{Room}
use Rattle.search_tree.specs.declared.rooms.Room.TheVariants.{Install, Split, Grow, Behind, Nothing}
use Rattle.tree_theory.specs.KeyClasses.{Class}
use Rattle.tree_theory.specs.Nodes.{Node, size_of}
use Rattle.tree_theory.specs.declared.TheConstants.{NODE_SIZE, TOP_LEVEL}
use Rattle.tree_theory.specs.declared.position.Position.{Position as NodePlace}
use Rattle.tree_theory.specs.declared.position.Position.TheVariants.{Root, Linked, Unlinked, Retired}

-- what makes room in a full node, by its place
abbrev pub room_by_place : {Key : Type 0} → Handle → NodePlace → Room Key
room_by_place at Root = Grow
room_by_place at (Linked parent marked) = if marked then Behind at else Split at
room_by_place at (Unlinked left) = Behind left
room_by_place at (Retired stamp) = Nothing

-- a change itself, not something that has to come before it
abbrev pub IsChange : {Key : Type 0} → Room Key → Type 0
IsChange (Install entry) = ⊤
IsChange (Split at) = ⊤
IsChange Grow = ⊤
IsChange (Behind left) = ⊥
IsChange Nothing = ⊥

module _ {Key Query Item : Type 0} (C : Class Key Query Item) (t : PlainTree Key Query Item) where
  -- the change may be made
  abbrev pub MayMake : Room Key → Type 0
  MayMake (Install entry) = MayInstall C t entry
  MayMake (Split at) = MaySplit C t at
  MayMake Grow = MayGrow C t
  MayMake (Behind left) = ⊤
  MayMake Nothing = ⊤

  -- what is next for a walk of this item at this node may be done
  abbrev pub MayGo : Handle → Item → Next Key → Type 0
  MayGo at item Restart = ⊤
  MayGo at item (Climb parent) = ⊤
  MayGo at item (Descend way) = MayDescend C t way (C.key_of item)
  MayGo at item (Hold number) = IsHeldBy C t item number
  MayGo at item Place = (key : ℕ) → MayPlace C t at (key, item)
  MayGo at item (Make room) = MayMake room

  -- the change that is made for this room
  abbrev pub ComesTo : Room Key → Change → Type 0
  ComesTo (Install entry) change = change ≡ Linking entry.left
  ComesTo (Split at) change = change ≡ Parting at
  ComesTo Grow change = change ≡ Growing
  ComesTo (Behind left) change = BeginsWith C t change left
  ComesTo Nothing change = ⊥

  -- a marked node of this level or a higher one, below the highest
  pub record IsMarkedFrom (level : ℕ) (at : Handle) : Type 0 where
    pub node : Node C
    pub is : value_at t.nodes at ≡ Some node
    pub parent : Handle
    pub linked : node.place ≡ Linked parent true
    pub level_is : level ≤ node.level
    pub low : node.level < TOP_LEVEL

  -- a change, or a marked node of this level or a higher one whose right node has to get its entry
  -- first
  abbrev pub LooksFrom : ℕ → Room Key → Type 0
  LooksFrom level (Install entry) = ⊤
  LooksFrom level (Split at) = ⊤
  LooksFrom level Grow = ⊤
  LooksFrom level (Behind left) = IsMarkedFrom level left
  LooksFrom level Nothing = ⊥

  -- what is next for a walk of this item at this node: the first case that holds
  abbrev pub IsNext : (growth second_growth : Key → Key → ℕ) → Handle → Item → Next Key → Type 0
  IsNext growth second_growth at item Restart = IsNowhere t.nodes at
  IsNext growth second_growth at item (Climb parent) = IsAside C t.nodes at parent (C.key_of item)
  IsNext growth second_growth at item (Descend way) =
      (way.parent ≡ at) × IsWayDown C t growth second_growth at (C.key_of item) way.child way.key
  IsNext growth second_growth at item (Hold number) =
      (leaf : Node C) × IsAtLeaf C t at item leaf × IsHolder C t.running leaf.attached item number
  IsNext growth second_growth at item Place =
      (leaf : Node C) × IsFree C t at item leaf × (size_of leaf.body < NODE_SIZE)
  IsNext growth second_growth at item (Make room) =
      IsChange room × ((change : Change) → ComesTo room change → Wants C t at item change)

module _ {Key Query Item : Type 0} (C : Class Key Query Item) (t u : PlainTree Key Query Item)
    (at now : Handle) where
  -- what is returned where this room is made
  abbrev pub Makes : (picks : List Key → ℕ → Type 0) → Room Key → Result Step TreeFault → Type 0
  Makes picks (Install entry) answer = Answers C t u at now picks (Linking entry.left) answer
  Makes picks (Split full) answer = Answers C t u at now picks (Parting full) answer
  Makes picks Grow answer = Answers C t u at now picks Growing answer
  Makes picks (Behind left) answer = ⊥
  Makes picks Nothing answer = ⊥

-- what a step returns
abbrev pub answer_in : Result Arrival TreeFault → Result Step TreeFault
answer_in (Ok arrival) = Ok arrival.step
answer_in (Err fault) = Err fault

-- where the walk is after the step
abbrev pub place_in : Handle → Result Arrival TreeFault → Handle
place_in at (Ok arrival) = arrival.at
place_in at (Err fault) = at
