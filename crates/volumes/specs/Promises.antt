-- The words in which a volume's promises are stated.
use Rattle.std.specs.Prelude.{◌≡◌, ℕ, IsTrue, List}
use Rattle.sqlite_trees.specs.Tree.{Trees}
use Rattle.sqlite_trees.specs.View.{View, IsClean}
use Rattle.sqlite_value.specs.Order.{Row}
use Rattle.volumes.specs.Volumes.{VolumeData, VolumeView, HoldsAt}

-- the disk has told no lie that was taken as true: nothing else has written the volume's files, and
-- what is read is what was written
abbrev pub IsHonest : {S : Type 0} → (S → View) → VolumeView S → Type 0
IsHonest view v = IsClean (view v.store)

-- no failure has shut the store: it takes further calls
abbrev pub IsOpen : {S : Type 0} → (S → View) → VolumeView S → Type 0
IsOpen view v = IsTrue (view v.store).is_open

-- the tables as the last commit left them
abbrev pub told : {S : Type 0} → (S → View) → VolumeView S → Trees
told view v = (view v.store).committed

-- the lives among them
abbrev pub told_lives : {S : Type 0} → (S → View) → VolumeView S → List Row
told_lives view v = told view v v.tables.lives

-- a crash at this moment may leave these tables
abbrev pub MayBeLeft : {S : Type 0} → (S → Trees → Type 0) → VolumeView S → Trees → Type 0
MayBeLeft recovers v db = recovers v.store db

-- the volume keeps this on its disk
abbrev pub Keeps : {S : Type 0} → (S → View) → VolumeView S → VolumeData → Type 0
Keeps view v content = HoldsAt v.tables (told view v) v.next content
