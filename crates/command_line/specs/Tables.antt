-- What a table of help has of a command, and what the command line has of it.
use Rattle.std.specs.Prelude.{Bool, List, codes, map, is_some}
use Rattle.std.specs.Str.{bytes_eq}
use Rattle.clap.specs.Words.{App, Text}
use Rattle.command_line.specs.declared.tables.CommandText.{CommandText}

-- a command's name and its arguments: the name of each, and whether it is an option
abbrev pub Words : Type 0
Words = Text × List (Text × Bool)

abbrev pub table_words : CommandText → Words
table_words command = (
  command.name.now,
  map
      (λ argument. (argument.name.now, bytes_eq argument.dashes.now (codes "--")))
      command.arguments.now,
)

abbrev pub line_words : App → Words
line_words line = (line.top.name, map (λ rule. (rule.id, is_some rule.long)) line.top.rules)
