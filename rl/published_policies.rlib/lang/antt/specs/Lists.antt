-- Lists of the policies that were put in force, oldest first, each as its decider.
use Rattle.std.specs.Prelude.{◌≡◌, ◌<◌, ◌+◌, ℕ, List, [], ◌∷◌, length, Option, None, Some}
use Rattle.std.specs.List.{last_or}
use Rattle.logbook.specs.Pages.{Book}
use Rattle.decision.specs.Deciders.{DeciderData}

-- the editions are n, n + 1, and so on
abbrev pub IsNumbered : ℕ → List DeciderData → Type 0
IsNumbered n [] = Unit {0}
IsNumbered n (decider ∷ later) = (decider.edition ≡ n) × IsNumbered (n + 1) later

-- the editions follow one another, from a first one that is not 0
pub record AreEditions (list : List DeciderData) : Type 0 where
  pub first : ℕ
  pub from_one : 0 < first
  pub numbered : IsNumbered first list

-- a published list has a policy, and its editions follow one another
pub record IsPublished (list : List DeciderData) : Type 0 where
  pub editions : AreEditions list
  pub not_empty : 0 < length list

abbrev pub edition_of : Option DeciderData → ℕ
edition_of None = 0
edition_of (Some decider) = decider.edition

-- the edition of a list's last policy; 0 where there is none
abbrev pub last_edition : List DeciderData → ℕ
last_edition list = edition_of (last_or None list)

-- An edition that may come next in a list: the one after the last; where there is no last one, any
-- but 0.
pub record IsNextEdition (list : List DeciderData) (edition : ℕ) : Type 0 where
  pub from_one : 0 < edition
  pub follows : 0 < length list → edition ≡ last_edition list + 1

-- a prefix of a list that was seen, and the book of the list
pub record SeenData : Type 0 where
  pub book : Book
  pub list : List DeciderData

abbrev pub seen_in : Book → List DeciderData → SeenData
seen_in book list = record { book = book; list = list }
