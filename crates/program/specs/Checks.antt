-- What is written where a configuration is looked at, a script drawn, and a page printed.
use Rattle.std.specs.Prelude.{◌≡◌, ◌++◌, ◌⊎◌, ℕ, List, Option, None, Some, IfSome, Result, Ok, Err, codes}
use Rattle.std.specs.Io.KnownBytes.{Appends}
use Rattle.byte_streams.specs.declared.writing.Flushed.{Flushed}
use Rattle.command_line.specs.CommandLine.{AskFor, given_by, shell_at}
use Rattle.command_line.specs.declared.shells.Shell.{Shell}
use Rattle.configuration.specs.Checking.{IsCheckOf, IsRight, IsWrong, checked_text, grid_part, web_part, wrong_text}
use Rattle.configuration.specs.ConfigFiles.{IsReadFault}
use Rattle.configuration.specs.Summaries.{summary_text}
use Rattle.configuration.specs.Web.{WebData}
use Rattle.configuration.specs.declared.checking.Checked.{Checked}
use Rattle.configuration.specs.declared.config_faults.ConfigFault.{ConfigFault}
use Rattle.configuration.specs.declared.config_faults.ConfigFault.TheVariants.{Memory}
use Rattle.configuration.specs.declared.files.ReadFault.TheVariants.{NotOpened}
use Rattle.configuration.specs.declared.summaries.Summary.{Summary}
use Rattle.grid.specs.declared.grids.Grid.{Grid}
use Rattle.drawing.specs.Drawings.{Draws, DrawsAll}
use Rattle.manual.specs.Printing.{IsPageFor}
use Rattle.program.specs.declared.faults.ProgramFault.{ProgramFault}
use Rattle.program.specs.declared.faults.ProgramFault.TheVariants as faults

-- what is found of the configuration in the file of a name; or why nothing is
abbrev pub Finds : {A : Type 0} → (List ℕ → Option (List ℕ)) → (List ℕ → Type 0) → List ℕ
    → Result (Checked A) ProgramFault → Type 0
Finds held closed name (Ok checked) = IfSome (held name) (λ text. IsCheckOf text checked)
Finds held closed name (Err (faults.CannotRead told (NotOpened failed))) =
    (told.now ≡ name) × closed name
Finds held closed name (Err (faults.CannotRead told fault)) =
    (told.now ≡ name) × IsReadFault fault (held name)
Finds held closed name (Err (faults.Config (Memory refused))) = Unit {0}
Finds held closed name (Err _) = ⊥

-- all of what was found was written, or a write failed
abbrev pub FindingWritten : {A E : Type 0} → Checked A → Result Flushed E → Option (List ℕ)
    → Option (List ℕ) → Type 0
FindingWritten checked (Ok flushed) before after = Appends before after (checked_text checked)
FindingWritten checked (Err failed) before after = Unit {0}

-- the configuration in a file is right, and what it has was written
abbrev pub IsFoundRight : Option (List ℕ) → Option (List ℕ) → Option (List ℕ) → Type 0
IsFoundRight held before after =
    (summary : Summary) × (grid : Option Grid) × (web : WebData)
    × IfSome held (IsRight summary grid web)
    × Appends before after (summary_text summary ++ (grid_part grid ++ web_part web))

-- it is wrong, and its first fault was written, with its place
abbrev pub IsFoundWrong : ConfigFault → Option (List ℕ) → Option (List ℕ) → Option (List ℕ) → Type 0
IsFoundWrong (Memory refused) held before after = Unit {0}
IsFoundWrong fault held before after =
    IfSome held (IsWrong fault) × Appends before after (wrong_text fault)

-- why looking at the configuration in the file of a name ended with a fault
abbrev pub LookBroke : (List ℕ → Option (List ℕ)) → (List ℕ → Type 0) → List ℕ → Option (List ℕ)
    → Option (List ℕ) → ProgramFault → Type 0
LookBroke held closed name before after (faults.CannotRead told (NotOpened failed)) =
    (told.now ≡ name) × closed name × (after ≡ before)
LookBroke held closed name before after (faults.CannotRead told fault) =
    (told.now ≡ name) × IsReadFault fault (held name) × (after ≡ before)
LookBroke held closed name before after (faults.CannotWrite failed) = Unit {0}
LookBroke held closed name before after (faults.Config fault) =
    IsFoundWrong fault (held name) before after
LookBroke held closed name before after _ = ⊥

abbrev pub Looks : (List ℕ → Option (List ℕ)) → (List ℕ → Type 0) → List ℕ → Option (List ℕ)
    → Option (List ℕ) → Result Flushed ProgramFault → Type 0
Looks held closed name before after (Ok flushed) = IsFoundRight (held name) before after
Looks held closed name before after (Err fault) = LookBroke held closed name before after fault

-- the script in the file of a name was drawn, with the replies in the file `-`, as far as their
-- bytes are known
abbrev pub IsDrawn : (List ℕ → Option (List ℕ)) → List ℕ → Option (List ℕ) → Option (List ℕ)
    → Type 0
IsDrawn held name before after = (script_then : Option (List ℕ)) × (replies_then : Option (List ℕ))
    × DrawsAll (held name) script_then (held (codes "-")) replies_then before after

-- why it was not
abbrev pub DrawBroke : (List ℕ → Option (List ℕ)) → (List ℕ → Type 0) → List ℕ → Option (List ℕ)
    → Option (List ℕ) → ProgramFault → Type 0
DrawBroke held closed name before after (faults.CannotRead told (NotOpened failed)) =
    ((told.now ≡ name) ⊎ (told.now ≡ codes "-")) × closed told.now × (after ≡ before)
DrawBroke held closed name before after (faults.CannotWrite failed) = Unit {0}
DrawBroke held closed name before after (faults.Draw fault) =
    (script_then : Option (List ℕ)) × (replies_then : Option (List ℕ))
    × Draws {T = Flushed} (Err fault) (held name) script_then (held (codes "-")) replies_then
    before after
DrawBroke held closed name before after _ = ⊥

abbrev pub DrawsNamed : (List ℕ → Option (List ℕ)) → (List ℕ → Type 0) → List ℕ → Option (List ℕ)
    → Option (List ℕ) → Result Flushed ProgramFault → Type 0
DrawsNamed held closed name before after (Ok flushed) = IsDrawn held name before after
DrawsNamed held closed name before after (Err fault) = DrawBroke held closed name before after fault

-- the words ask for the manual page, or for the completions for a shell
abbrev pub AskForPage : List (List ℕ) → Option Shell → Type 0
AskForPage words None = AskFor (codes "man") words
AskForPage words (Some shell) =
    AskFor (codes "completions") words × (shell_at (given_by words) (codes "SHELL") ≡ Some shell)

-- the page was written whole
abbrev pub IsWritten : Option Shell → Option (List ℕ) → Option (List ℕ) → Type 0
IsWritten shell before after = (text : List ℕ) × IsPageFor shell text × Appends before after text

-- why it was not: there was no memory for it, or a write failed behind a front of it
abbrev pub PageBroke : Option Shell → Option (List ℕ) → Option (List ℕ) → ProgramFault → Type 0
PageBroke shell before after (faults.Memory refused) = after ≡ before
PageBroke shell before after (faults.CannotWrite failed) =
    (text : List ℕ) × (front : List ℕ) × (left : List ℕ) × IsPageFor shell text
    × (text ≡ front ++ left) × Appends before after front
PageBroke shell before after _ = ⊥

abbrev pub Prints : Option Shell → Option (List ℕ) → Option (List ℕ) → Result Flushed ProgramFault
    → Type 0
Prints shell before after (Ok flushed) = IsWritten shell before after
Prints shell before after (Err fault) = PageBroke shell before after fault
