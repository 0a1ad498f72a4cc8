-- The two copies of the last published policy: their rule, and what is learned in a step that shows
-- or reads a copy.
use Rattle.std.specs.Prelude.{◌≡◌, ℕ, List, Option, None, Some}
use mathlib.Core.Option.{some}
use mathlib.Core.List.{IsPrefix}
use lib.ListN.{get_elem?}
use Rattle.logbook.specs.Pages.{Book}
use Rattle.published_policies.specs.Lists.{SeenData}

-- a reader or the writer knows no list yet, or a prefix of the list that is shown
abbrev pub Fits : SeenData → Option SeenData → Type 0
Fits shown None = Unit {0}
Fits shown (Some known) = (known.book ≡ shown.book) × IsPrefix known.list shown.list

-- what holds at any time, of the list that is shown and of what each of them knows
abbrev pub AllFit : SeenData → List (Option SeenData) → Type 0
AllFit shown views = (seat : ℕ) (known : Option SeenData) → get_elem? views seat ≡ some known
    → Fits shown known

-- what was known before fits the list that is shown then, and that list is known afterwards
pub record Learns (old : Option SeenData) (shown : SeenData) (new : Option SeenData) : Type 0 where
  pub fits : Fits shown old
  pub learned : new ≡ Some shown

-- a list of this book is known
abbrev pub KnowsOf : Book → Option SeenData → Type 0
KnowsOf book None = ⊥
KnowsOf book (Some known) = known.book ≡ book
