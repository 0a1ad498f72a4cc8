-- Faults of a list of changes.
use Rattle.std.specs.Prelude.{◌≡◌, ℕ, List, Bool, false, codes, Result, Ok, Err, MatchBool, ⊤}
use Rattle.geojson.specs.Faults.{fault_at, is_memory as is_memory_cause}
use Rattle.geojson.specs.declared.faults.Cause.TheVariants as causes
use Rattle.geojson.specs.declared.faults.Member.TheVariants as members
use Rattle.map_changes.specs.Faults.{is_memory as is_memory_change}
use Rattle.map_changes.specs.declared.faults.ChangeFault.{ChangeFault}
use Rattle.map_changes.specs.declared.faults.ChangeFault.TheVariants as changes
use Rattle.map_lists.specs.declared.faults.ItemFault.{ItemFault}
use Rattle.map_lists.specs.declared.faults.ListFault.{ListFault}
use Rattle.map_lists.specs.declared.faults.ListFault.TheVariants.{Parameter, Media, Unread, Form, Empty, TooMany, Item, Twice}
use Rattle.map_lists.specs.declared.faults.Part.{Part}
use Rattle.map_lists.specs.declared.faults.Part.TheVariants as parts

-- the parts of a change as JSON pointers (RFC 6901)
abbrev pub pointer_of : Part → List ℕ
pointer_of parts.Whole = codes ""
pointer_of parts.Action = codes "/action"
pointer_of parts.Id = codes "/id"
pointer_of parts.Version = codes "/version"
pointer_of parts.Feature = codes "/feature"

-- a value that has not the form that is wanted
abbrev pub no_form : ChangeFault
no_form = changes.Feature (fault_at members.Text causes.Form)

-- a part that is not there, or has not the form that is wanted
abbrev pub form_at : Part → ItemFault
form_at part = record { part = part; fault = no_form }

-- a fault in a part of a change
abbrev pub in_part : {T : Type 0} → Part → Result T ChangeFault → Result T ItemFault
in_part part (Ok x) = Ok x
in_part part (Err fault) = Err (record { part = part; fault = fault })

-- a fault of the change at an index
abbrev pub in_item : {T : Type 0} → ℕ → Result T ItemFault → Result T ListFault
in_item n (Ok x) = Ok x
in_item n (Err fault) = Err (Item n fault)

-- an allocation was refused
abbrev pub is_memory : ListFault → Bool
is_memory Parameter = false
is_memory Media = false
is_memory (Unread cause) = is_memory_cause cause
is_memory Form = false
is_memory Empty = false
is_memory TooMany = false
is_memory (Item n fault) = is_memory_change fault.fault
is_memory (Twice n) = false

-- the outcome is that of the reading, or an allocation was refused: of what a part says, of a
-- change, and of a list
abbrev pub GivesPart : {T : Type 0} → Result T ChangeFault → Result T ChangeFault → Type 0
GivesPart (Ok x) reading = reading ≡ Ok x
GivesPart (Err fault) reading = MatchBool (is_memory_change fault) ⊤ (reading ≡ Err fault)

abbrev pub GivesItem : {T : Type 0} → Result T ItemFault → Result T ItemFault → Type 0
GivesItem (Ok x) reading = reading ≡ Ok x
GivesItem (Err fault) reading = MatchBool (is_memory_change fault.fault) ⊤ (reading ≡ Err fault)

abbrev pub Gives : {T : Type 0} → Result T ListFault → Result T ListFault → Type 0
Gives (Ok x) reading = reading ≡ Ok x
Gives (Err fault) reading = MatchBool (is_memory fault) ⊤ (reading ≡ Err fault)
