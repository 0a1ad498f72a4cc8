-- Where in a document a fault is, and what is there.
use Rattle.std.specs.Prelude.{◌≡◌, ◌+◌, ◌*◌, ℕ, List, [], ◌∷◌, length, IsTrue, Option, Some, None, is_some, option_and_then, Err}
use Rattle.serde_json.specs.Data.{Data, string}
use Rattle.serde_json.specs.Find.{at}
use Rattle.wkt.specs.Reading.{shape_of}
use Rattle.policy_documents.specs.declared.documents.TheConstants.{DEPTH_LIMIT}
use Rattle.policy_text.specs.Reading.{value_of}
use Rattle.policy_text.specs.declared.paths.PathPart.{PathPart}
use Rattle.policy_text.specs.declared.paths.PathPart.TheVariants.{Member, Item}
use Rattle.policy_text.specs.declared.faults.TextFault.{TextFault}
use Rattle.policy_text.specs.declared.faults.TextFault.TheVariants.{NotJson, Form, UnknownKey, NameTwice, NoZone, BadZone, TooDeep, TooMany, Memory}

-- the path of a fault; none, if there is no value that it could lead through
abbrev pub path_of : TextFault → Option (List PathPart)
path_of NotJson = None
path_of (Form path) = Some path
path_of (UnknownKey path) = Some path
path_of (NameTwice path name) = Some path
path_of (NoZone path name) = Some path
path_of (BadZone path name fault) = Some path
path_of (TooDeep path) = Some path
path_of (TooMany path) = Some path
path_of (Memory refused) = None

-- the value to which a part leads
abbrev pub value_after : PathPart → Data → Option Data
value_after (Member key) d = value_of key d
value_after (Item index) d = at index d

-- the value to which a path leads
abbrev pub value_at : List PathPart → Data → Option Data
value_at [] d = Some d
value_at (part ∷ rest) d = option_and_then (value_at rest) (value_after part d)

-- the path leads to a value
abbrev pub IsThere : List PathPart → Data → Type 0
IsThere path d = IsTrue (is_some (value_at path d))

-- the path leads to this text
abbrev pub IsTextAt : List PathPart → List ℕ → Data → Type 0
IsTextAt path text d = value_at path d ≡ Some (string text)

-- what is at the path of a fault: the name that stands twice, that of a zone which is not there, the
-- text that spells no shape, a value as deep as none may be, any other value. What is missing (D2)
-- is not there
abbrev pub LeadsTo : TextFault → Data → Type 0
LeadsTo (NameTwice path name) d = IsTextAt path name d
LeadsTo (NoZone path name) d = IsTextAt path name d
LeadsTo (BadZone path name fault) d =
    (text : List ℕ) × IsTextAt path text d × (shape_of text ≡ Err fault)
LeadsTo (TooDeep path) d = IsThere path d × (length path ≡ 1 + 2 * DEPTH_LIMIT)
LeadsTo (TooMany path) d = IsThere path d
LeadsTo (UnknownKey path) d = IsThere path d
LeadsTo (Form path) d = Unit {0}
LeadsTo NotJson d = Unit {0}
LeadsTo (Memory refused) d = Unit {0}
