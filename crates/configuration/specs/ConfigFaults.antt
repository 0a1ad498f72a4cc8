-- The faults of configurations: their codes, and what a reader returns.
use Rattle.std.specs.Prelude.{◌≡◌, ℕ, List, codes, Result, Ok, Err}
use Rattle.features.specs.FaultCodes.{subjects_code}
use Rattle.memory.specs.declared.json.JsonFault.{JsonFault}
use Rattle.memory.specs.declared.json.JsonFault.TheVariants as unread
use Rattle.policy_text.specs.FaultCodes.{code_of}
use Rattle.policy_text.specs.declared.faults.TextFault.{TextFault}
use Rattle.policy_text.specs.declared.faults.TextFault.TheVariants as texts
use Rattle.configuration.specs.declared.config_faults.ConfigFault.{ConfigFault}
use Rattle.configuration.specs.declared.config_faults.ConfigFault.TheVariants.{NotJson, Form, Subjects, Policies, Memory}

abbrev pub config_code_of : ConfigFault → List ℕ
config_code_of NotJson = codes "B1"
config_code_of (Form path) = codes "B2"
config_code_of (Subjects fault path) = subjects_code fault
config_code_of (Policies fault) = code_of fault
config_code_of (Memory refused) = codes "B5"

-- why no JSON value was read: out of memory, or the text is not JSON
abbrev pub unread_fault : JsonFault → ConfigFault
unread_fault (unread.Text error) = NotJson
unread_fault (unread.Memory refused) = Memory refused

-- why no document was read: out of memory, or a fault of the document
abbrev pub policies_fault : TextFault → ConfigFault
policies_fault (texts.Memory refused) = Memory refused
policies_fault texts.NotJson = Policies texts.NotJson
policies_fault (texts.Form path) = Policies (texts.Form path)
policies_fault (texts.UnknownKey path) = Policies (texts.UnknownKey path)
policies_fault (texts.NameTwice path name) = Policies (texts.NameTwice path name)
policies_fault (texts.NoZone path name) = Policies (texts.NoZone path name)
policies_fault (texts.BadZone path name fault) = Policies (texts.BadZone path name fault)
policies_fault (texts.TooDeep path) = Policies (texts.TooDeep path)
policies_fault (texts.TooMany path) = Policies (texts.TooMany path)

-- the fault is the one that reading gives, or `Memory`
abbrev pub Fails : {Y : Type 0} → ConfigFault → Result Y ConfigFault → Type 0
Fails (Memory refused) reading = Unit {0}
Fails NotJson reading = reading ≡ Err NotJson
Fails (Form path) reading = reading ≡ Err (Form path)
Fails (Subjects fault path) reading = reading ≡ Err (Subjects fault path)
Fails (Policies fault) reading = reading ≡ Err (Policies fault)

-- the function's result, seen through `view`, is what reading gives, or the error is `Memory`
abbrev pub Gives : {X Y : Type 0} → (X → Y) → Result X ConfigFault → Result Y ConfigFault → Type 0
Gives view (Ok x) reading = reading ≡ Ok (view x)
Gives view (Err e) reading = Fails e reading

-- the same for a function that allocates nothing
abbrev pub Shows : {X Y E : Type 0} → (X → Y) → Result X E → Result Y E → Type 0
Shows view (Ok x) reading = reading ≡ Ok (view x)
Shows view (Err e) reading = reading ≡ Err e
