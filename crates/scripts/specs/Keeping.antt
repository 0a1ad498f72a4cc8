-- The lines of a script whose records are kept before their replies are written.
use Rattle.std.specs.Prelude.{◌≡◌, ℕ, ◌+◌, List, [], length}
use Rattle.line_streams.specs.declared.streams.Next.{Next}
use Rattle.line_streams.specs.declared.streams.Next.TheVariants.{Line, End}
use Rattle.plain_world.specs.States.{WorldData}
use Rattle.scripts.specs.Indexed.{IndexedScript, LineRuns}

-- the number of the record after the last one of the trail
abbrev pub next_record : WorldData → ℕ
next_record world = world.first + length world.trail

-- a script over a world with its index, and the number of the record that is kept next
pub record KeptScript : Type 0 where
  pub script : IndexedScript
  pub kept : ℕ

abbrev pub kept_script : IndexedScript → ℕ → KeptScript
kept_script script kept = record { script = script; kept = kept }

-- A line is answered, and before anything of its reply is written every record of the trail is kept.
-- Or they could not be kept: then nothing is written, and no further line is answered.
abbrev pub RunsKept : List ℕ → KeptScript → KeptScript → List ℕ → Next → Type 0
RunsKept line old new said Line = LineRuns line old.script new.script said
    × (new.kept ≡ next_record new.script.world.plain)
RunsKept line old new said End =
    (answer : List ℕ) × LineRuns line old.script new.script answer × (said ≡ [])
