-- The manual page and the completions of a table of help. Each part is put behind the page so far.
use Rattle.std.specs.Prelude.{ℕ, List, [], ◌++◌, ◌==◌, codes, fold, length, if◌then◌else◌}
use Rattle.std.specs.List.{flat_map}
use Rattle.command_line.specs.declared.shells.Shell.{Shell}
use Rattle.command_line.specs.declared.shells.Shell.TheVariants as shells
use Rattle.command_line.specs.declared.tables.ArgumentText.{ArgumentText}
use Rattle.command_line.specs.declared.tables.CommandText.{CommandText}
use Rattle.command_line.specs.declared.tables.HelpTable.{HelpTable}
use Rattle.manual.specs.Spelling.{spelled}
use Rattle.manual.specs.declared.texts.Style.TheVariants.{Fish, Roff, Zsh}

abbrev roff : List ℕ → List ℕ
roff = flat_map (spelled Roff)

abbrev zsh : List ℕ → List ℕ
zsh = flat_map (spelled Zsh)

abbrev fish : List ℕ → List ℕ
fish = flat_map (spelled Fish)

-- ---- the manual page

abbrev pub man_argument : List ℕ → ArgumentText → List ℕ
man_argument page a =
    page ++ codes ".TP\n.BI \"" ++ roff a.dashes.now ++ roff a.name.now ++ codes " \" \"" ++ roff
    a.value.now ++ codes "\"\n" ++ roff a.help.now ++ codes "\n"

abbrev pub man_command : List ℕ → CommandText → List ℕ
man_command page c =
    fold man_argument (page ++ codes ".SS landmap " ++ roff c.name.now ++ codes "\n.nf\n" ++ roff
    c.long_about.now ++ codes "\n.fi\n") c.arguments.now
    ++ codes ".PP\n.nf\n" ++ roff c.examples.now ++ codes "\n.fi\n"

abbrev pub man_head : List ℕ → HelpTable → List ℕ
man_head page t =
    page ++ codes ".TH LANDMAP 1\n.SH NAME\nlandmap \\- " ++ roff t.about.now ++ codes
    "\n.SH SYNOPSIS\n.B landmap\n.I COMMAND\n.SH DESCRIPTION\n.nf\n" ++ roff t.long_about.now
    ++ codes "\n.fi\n.SH COMMANDS\n"

abbrev pub man_page : List ℕ → HelpTable → List ℕ
man_page page t = fold man_command (man_head page t) t.commands ++ codes ".SH EXAMPLES\n.nf\n"
    ++ roff t.examples.now ++ codes "\n.fi\n"

-- ---- bash

abbrev pub bash_word : List ℕ → CommandText → List ℕ
bash_word page c = page ++ c.name.now ++ codes " "

abbrev pub bash_option : List ℕ → ArgumentText → List ℕ
bash_option page a = page ++ a.dashes.now ++ a.name.now ++ codes " "

abbrev pub bash_case : List ℕ → CommandText → List ℕ
bash_case page c = fold bash_option (page ++ codes "        " ++ c.name.now ++ codes ") options='")
    c.arguments.now ++ codes "--help' ;;\n"

abbrev pub bash_page : List ℕ → HelpTable → List ℕ
bash_page page t =
    fold bash_case
    (fold bash_word (page ++ codes
    "_landmap() {\n    local word=${COMP_WORDS[COMP_CWORD]} options=\n    if [ \"$COMP_CWORD\" = 1 ]; then\n        COMPREPLY=($(compgen -W '") t.commands
    ++ codes "help --help' -- \"$word\"))\n        return\n    fi\n    case ${COMP_WORDS[1]} in\n")
    t.commands
    ++ codes "    esac\n    case $word in\n        -*) COMPREPLY=($(compgen -W \"$options\" -- \"$word\")) ;;\n        *) COMPREPLY=($(compgen -f -- \"$word\")) ;;\n    esac\n}\ncomplete -o filenames -F _landmap landmap\n"

-- ---- zsh

abbrev pub zsh_word : List ℕ → CommandText → List ℕ
zsh_word page c = page ++ codes "        '" ++ c.name.now ++ codes ":" ++ zsh c.about.now ++ codes
    "'\n"

abbrev pub zsh_option : List ℕ → ArgumentText → List ℕ
zsh_option page a = page ++ codes "'" ++ a.dashes.now ++ a.name.now ++ codes ":" ++ zsh
    a.help.now ++ codes "' "

abbrev pub zsh_case : List ℕ → CommandText → List ℕ
zsh_case page c = fold zsh_option (page ++ codes "        " ++ c.name.now ++ codes ") options=(")
    c.arguments.now ++ codes "--help) ;;\n"

abbrev pub zsh_page : List ℕ → HelpTable → List ℕ
zsh_page page t =
    fold zsh_case
    (fold zsh_word (page ++ codes
    "#compdef landmap\n_landmap() {\n    local -a commands options\n    commands=(\n")
    t.commands
    ++ codes "    )\n    if (( CURRENT == 2 )); then\n        _describe command commands\n        return\n    fi\n    case $words[2] in\n")
    t.commands
    ++ codes "    esac\n    if [[ $PREFIX == -* ]]; then\n        _describe option options\n    else\n        _files\n    fi\n}\n_landmap \"$@\"\n"

-- ---- fish

-- an option of the command of this name; an argument that is no option is left out
abbrev pub fish_option : List ℕ → List ℕ → ArgumentText → List ℕ
fish_option name page a =
    if length a.dashes.now == 0 then page
    else page ++ codes "complete -c landmap -n '__fish_seen_subcommand_from " ++ name ++ codes
    "' -l " ++ a.name.now ++ codes " -d '" ++ fish a.help.now ++ codes "'\n"

abbrev pub fish_command : List ℕ → CommandText → List ℕ
fish_command page c =
    fold (fish_option c.name.now)
    (page ++ codes "complete -c landmap -n __fish_use_subcommand -f -a " ++ c.name.now ++ codes
    " -d '" ++ fish c.about.now ++ codes "'\n") c.arguments.now

abbrev pub fish_page : List ℕ → HelpTable → List ℕ
fish_page page t = fold fish_command page t.commands

-- the completions for a shell
abbrev pub completions_for : Shell → HelpTable → List ℕ
completions_for shells.Bash t = bash_page [] t
completions_for shells.Zsh t = zsh_page [] t
completions_for shells.Fish t = fish_page [] t
