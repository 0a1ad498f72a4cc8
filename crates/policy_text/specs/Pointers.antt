-- How a path is printed: as a JSON Pointer (RFC 6901, section 3). No key of a document has a `~` or
-- a `/`, so no key is escaped.
use Rattle.std.specs.Prelude.{ℕ, List, ◌++◌, codes}
use Rattle.std.specs.Fmt.{decimal}
use Rattle.std.specs.List.{flat_map}
use Rattle.policy_text.specs.Keys.{key_text}
use Rattle.policy_text.specs.declared.paths.PathPart.{PathPart}
use Rattle.policy_text.specs.declared.paths.PathPart.TheVariants.{Member, Item}

-- a part: `/`, then its key or its index in decimal
abbrev pub part_text : PathPart → List ℕ
part_text (Member key) = codes "/" ++ key_text key
part_text (Item index) = codes "/" ++ decimal index

-- the parts, one after another; the path of the document itself is empty
abbrev pub path_text : List PathPart → List ℕ
path_text = flat_map part_text
