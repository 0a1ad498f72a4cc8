-- The state of a session and of its world, and worlds between two lines.
use Rattle.std.specs.Prelude.{◌≡◌, ℕ, ◌+◌, List, [], map, Option}
use Rattle.features.specs.declared.rows.Change.{Change}
use Rattle.plain_world.specs.Laws.{AreGiven}
use Rattle.plain_world.specs.States.{WorldData}

-- a world that serves one session, and the session's seat from HELLO on
pub record SoloIn (W : Type 0) : Type 0 where
  pub world : W
  pub seat : Option ℕ

abbrev pub solo : {W : Type 0} → W → Option ℕ → SoloIn W
solo world seat = record { world = world; seat = seat }

-- the same with a plain world
abbrev pub SoloState : Type 0
SoloState = SoloIn WorldData

-- a session of a script: its label, its seat from HELLO on, its open search if it has one, and its
-- staged changes
pub record SessionState : Type 0 where
  pub label : List ℕ
  pub seat : Option ℕ
  pub search : Option ℕ
  pub staged : List Change

-- a session of a script, and the world that serves it
pub record SessionIn (W : Type 0) : Type 0 where
  pub session : SessionState
  pub world : W

abbrev pub session_in : {W : Type 0} → SessionState → W → SessionIn W
session_in session world = record { session = session; world = world }

-- no search and no transaction is open, as in a world that has just been opened
pub record IsIdle (w : WorldData) : Type 0 where
  pub searches : w.searches ≡ []
  pub transactions : w.transactions ≡ []

-- No transaction is open, and the numbers of the open searches rise and lie below the next one.
-- Worlds are at rest between two lines; their open searches are those that sessions have opened.
pub record IsAtRest (w : WorldData) : Type 0 where
  pub searches : AreGiven w.next_search (map (λ s. s.number) w.searches)
  pub transactions : w.transactions ≡ []

-- the number of one more search is used up
abbrev pub searched : WorldData → WorldData
searched w = record w { next_search = w.next_search + 1 }

-- the number of one more transaction is used up
abbrev pub begun : WorldData → WorldData
begun w = record w { next_transaction = w.next_transaction + 1 }

-- a call of a world at rest leaves it at rest, and `Stands` holds
abbrev pub WhereAtRest : WorldData → WorldData → Type 0 → Type 0
WhereAtRest old new Stands = IsAtRest old → IsAtRest new × Stands
