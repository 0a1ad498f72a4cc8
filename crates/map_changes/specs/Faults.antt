-- Faults of requests, and what is said of a reading that may want memory.
use Rattle.std.specs.Prelude.{◌≡◌, Bool, false, Option, Some, None, Result, Ok, Err, MatchBool, ⊤}
use Rattle.geojson.specs.Faults.{is_memory as is_memory_cause}
use Rattle.map_changes.specs.declared.edits.Edit.{Edit}
use Rattle.map_changes.specs.declared.faults.ChangeFault.{ChangeFault}
use Rattle.map_changes.specs.declared.faults.ChangeFault.TheVariants.{NoPage, Method, Parameter, NoVersion, WrongTag, Media, Feature, Id, Class, Parts, Shape}

infixl 10 ◌>>=◌
abbrev pub ◌>>=◌ : {A B : Type 0} → Result A ChangeFault → (A → Result B ChangeFault)
    → Result B ChangeFault
(Ok x) >>= f = f x
(Err fault) >>= f = Err fault

-- a value, or this fault where there is none
abbrev pub or_fault : {T : Type 0} → ChangeFault → Option T → Result T ChangeFault
or_fault fault None = Err fault
or_fault fault (Some x) = Ok x

-- an allocation was refused
abbrev pub is_memory : ChangeFault → Bool
is_memory NoPage = false
is_memory Method = false
is_memory Parameter = false
is_memory NoVersion = false
is_memory WrongTag = false
is_memory Media = false
is_memory (Feature fault) = is_memory_cause fault.cause
is_memory Id = false
is_memory Class = false
is_memory Parts = false
is_memory (Shape fault) = false

-- the outcome is that of the reading, or an allocation was refused
abbrev pub Gives : Result Edit ChangeFault → Result Edit ChangeFault → Type 0
Gives (Ok edit) reading = reading ≡ Ok edit
Gives (Err fault) reading = MatchBool (is_memory fault) ⊤ (reading ≡ Err fault)
