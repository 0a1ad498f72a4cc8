-- The codes of the faults.
use Rattle.std.specs.Prelude.{ℕ, List, codes}
use Rattle.policy_text.specs.declared.faults.TextFault.{TextFault}
use Rattle.policy_text.specs.declared.faults.TextFault.TheVariants.{NotJson, Form, UnknownKey, NameTwice, NoZone, BadZone, TooDeep, TooMany, Memory}

abbrev pub code_of : TextFault → List ℕ
code_of NotJson = codes "D1"
code_of (Form path) = codes "D2"
code_of (UnknownKey path) = codes "D3"
code_of (NameTwice path name) = codes "D4"
code_of (NoZone path name) = codes "D5"
code_of (BadZone path name fault) = codes "D6"
code_of (TooDeep path) = codes "D7"
code_of (TooMany path) = codes "D8"
code_of (Memory refused) = codes "D9"
