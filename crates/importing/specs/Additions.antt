-- The session lines of a list of additions.
use Rattle.std.specs.Prelude.{ℕ, List, ◌++◌, codes, decimal}
use Rattle.std.specs.List.{flat_map}
use Rattle.wkt.specs.Printing.{printed}
use Rattle.importing.specs.declared.additions.Addition.{Addition}

-- the line that stages an addition
abbrev pub addition_text : Addition → List ℕ
addition_text addition =
    codes "ADD " ++ decimal addition.id ++ codes " " ++ addition.class ++ codes " "
    ++ printed addition.shape ++ codes "\n"

-- the lines that stage them all and commit them
abbrev pub list_text : List Addition → List ℕ
list_text list = flat_map addition_text list ++ codes "COMMIT\n"
