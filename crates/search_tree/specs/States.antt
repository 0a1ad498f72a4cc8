-- The state of a search before a step.
use Rattle.std.specs.Prelude.{◌≡◌, ℕ, None}
use Rattle.search_tree.specs.Calls.{IsOverrun, IsReadyIn, IsUnderWay, MayVisit}
use Rattle.search_tree.specs.Trees.{PlainTree, search_in}
use Rattle.search_tree.specs.declared.visiting.State.{State}
use Rattle.search_tree.specs.declared.visiting.State.TheVariants.{Gone, Ready, Spent, Waits}

abbrev pub IsState : {Key Query Item : Type 0} → PlainTree Key Query Item → ℕ → State → Type 0
IsState t search Gone = search_in t search ≡ None
IsState t search Ready = IsReadyIn t search
IsState t search Spent = IsOverrun t search
IsState t search (Waits at) = IsUnderWay t search × MayVisit t search at
