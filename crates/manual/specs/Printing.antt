-- The page that is printed.
use Rattle.std.specs.Prelude.{◌≡◌, ℕ, List, [], ◌++◌, map, Option, None, Some, Result, Ok, Err}
use Rattle.std.specs.Io.KnownBytes.{Appends}
use Rattle.byte_streams.specs.declared.writing.Flushed.{Flushed}
use Rattle.command_line.specs.CommandLine.{subcommands}
use Rattle.command_line.specs.Tables.{line_words, table_words}
use Rattle.command_line.specs.declared.shells.Shell.{Shell}
use Rattle.command_line.specs.declared.tables.HelpTable.{HelpTable}
use Rattle.manual.specs.Pages.{completions_for, man_page}
use Rattle.manual.specs.declared.printing.PageFault.{PageFault}
use Rattle.manual.specs.declared.printing.PageFault.TheVariants.{Memory, Write}

-- the table has just the commands of the command line, and of each just its arguments
abbrev pub IsTable : HelpTable → Type 0
IsTable table = map table_words table.commands ≡ map line_words subcommands

-- the page of a table: the completions for a shell, or the manual page
abbrev pub page_of : Option Shell → HelpTable → List ℕ
page_of None table = man_page [] table
page_of (Some shell) table = completions_for shell table

abbrev pub IsPageFor : Option Shell → List ℕ → Type 0
IsPageFor shell text = (table : HelpTable) × IsTable table × (text ≡ page_of shell table)

-- What a writer has taken: the whole page; nothing, since there was no memory for it; or a front of
-- it, since a write failed.
abbrev pub IsPrinted : Option Shell → Result Flushed PageFault → Option (List ℕ) → Option (List ℕ)
    → Type 0
IsPrinted shell (Ok flushed) before after =
    (text : List ℕ) × IsPageFor shell text × Appends before after text
IsPrinted shell (Err (Memory refused)) before after = after ≡ before
IsPrinted shell (Err (Write failed)) before after =
    (text : List ℕ) × (front : List ℕ) × (left : List ℕ) × IsPageFor shell text
    × (text ≡ front ++ left) × Appends before after front
