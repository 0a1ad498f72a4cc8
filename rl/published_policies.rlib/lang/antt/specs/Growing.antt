-- How a list grows: the rule of its book, and what is learned in the step that adds a policy.
use Rattle.std.specs.Prelude.{◌≡◌, ℕ, ◌==◌, true, List, [], ◌∷◌, ◌++◌, length}
use Rattle.std.specs.Bool.{MatchBool}
use Rattle.logbook.specs.Pages as pages
use Rattle.logbook.specs.Pages.{Cell, Step, Book, Named}
use Rattle.decision.specs.Deciders.{DeciderData}
use Rattle.published_policies.specs.Lists.{AreEditions}

-- A book has two words. The first one is the length of the list, and the second stays 0.
abbrev pub cells_of : List DeciderData → List Cell
cells_of list = (length list, true) ∷ (0, true) ∷ []

-- what holds of a book at any time: its first word is the list's length, and the list's editions
-- follow one another
pub record IsKept (cells : List Cell) (list : List DeciderData) : Type 0 where
  pub words : cells ≡ cells_of list
  pub editions : AreEditions list

-- the word that is the length of a book's list
abbrev pub length_word : Book → Named
length_word book = record { tracked = true; key = 0; book = book }

-- if the length was the expected one, the policy was added to all that had been seen; otherwise the
-- list, of the length that was found, was seen
abbrev pub Adds : Step DeciderData → pages.View DeciderData ℕ → ℕ → pages.View DeciderData ℕ
    → Type 0
Adds step old found new = MatchBool (found == step.old) ((new.0 ≡ old.0 ++ step.ask ∷ [])
    × AreEditions new.0) ((length new.0 ≡ found) × AreEditions new.0)
