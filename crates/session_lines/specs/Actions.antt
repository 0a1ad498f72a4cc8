-- The action that a word of a session line names.
use Rattle.std.specs.Prelude.{codes, ℕ, List, Option, None, Some, if◌then◌else◌}
use Rattle.std.specs.Str.{bytes_eq}
use Rattle.features.specs.declared.actors.Action.{Action}
use Rattle.features.specs.declared.actors.Action.TheVariants.{Read, Add, Reshape, Delete}

-- the action that a word names
abbrev pub action_of : List ℕ → Option Action
action_of word =
    if bytes_eq word (codes "read") then Some Read
    else if bytes_eq word (codes "add") then Some Add
    else if bytes_eq word (codes "reshape") then Some Reshape
    else if bytes_eq word (codes "delete") then Some Delete
    else None
