-- Faults of a feature, and among the coordinates of its geometry.
use Rattle.std.specs.Prelude.{◌≡◌, ℕ, Bool, true, false, Some, None, Result, Ok, Err, MatchBool, ⊤}
use Rattle.json.specs.declared.error.Error.{Error}
use Rattle.json.specs.declared.error.Error.TheVariants as errors
use Rattle.geojson.specs.declared.faults.Cause.{Cause}
use Rattle.geojson.specs.declared.faults.Cause.TheVariants.{NotJson, Form, Kind, Number, Memory, Json}
use Rattle.geojson.specs.declared.faults.CoordinatesFault.{CoordinatesFault}
use Rattle.geojson.specs.declared.faults.FeatureFault.{FeatureFault}
use Rattle.geojson.specs.declared.faults.JsonRefused.{JsonRefused}
use Rattle.geojson.specs.declared.faults.Member.{Member}
use Rattle.geojson.specs.declared.faults.Spot.{Spot}

abbrev pub nowhere : Spot
nowhere = record { polygon = None; path = None; point = None; axis = None }

abbrev pub fault_here : Cause → CoordinatesFault
fault_here cause = record { cause = cause; spot = nowhere }

-- a fault of a whole member
abbrev pub fault_at : Member → Cause → FeatureFault
fault_at member cause = record { cause = cause; member = member; spot = nowhere }

abbrev pub at_axis : {T : Type 0} → ℕ → Result T Cause → Result T CoordinatesFault
at_axis axis (Ok x) = Ok x
at_axis axis (Err cause) = Err (record { cause = cause; spot = record nowhere { axis = Some axis } })

abbrev pub in_point : {T : Type 0} → ℕ → Result T CoordinatesFault → Result T CoordinatesFault
in_point index (Ok x) = Ok x
in_point index (Err fault) = Err (record { cause = fault.cause; spot = record fault.spot { point = Some index } })

abbrev pub in_path : {T : Type 0} → ℕ → Result T CoordinatesFault → Result T CoordinatesFault
in_path index (Ok x) = Ok x
in_path index (Err fault) = Err (record { cause = fault.cause; spot = record fault.spot { path = Some index } })

abbrev pub in_polygon : {T : Type 0} → ℕ → Result T CoordinatesFault → Result T CoordinatesFault
in_polygon index (Ok x) = Ok x
in_polygon index (Err fault) = Err (record { cause = fault.cause; spot = record fault.spot { polygon = Some index } })

infixl 10 ◌>>=◌
abbrev pub ◌>>=◌ : {A B F : Type 0} → Result A F → (A → Result B F) → Result B F
(Ok x) >>= f = f x
(Err e) >>= f = Err e

-- an allocation was refused
abbrev pub is_memory : Cause → Bool
is_memory NotJson = false
is_memory Form = false
is_memory Kind = false
is_memory (Number fault) = false
is_memory (Memory no_memory) = true
is_memory (Json refused) = true

-- an allocation that the reader of JSON wanted was refused
abbrev pub json_refused : JsonRefused
json_refused = record { seal = tt }

-- why the reader of JSON read no value
abbrev pub unread_cause : Error → Cause
unread_cause errors.Invalid = NotJson
unread_cause errors.OutOfMemory = Json json_refused
unread_cause errors.TooLong = NotJson
unread_cause errors.DuplicateKey = NotJson

-- the returned value, seen through `view`, is that of the reading; or an allocation was refused
abbrev pub Gives : {X Y : Type 0} → (X → Y) → Result X CoordinatesFault → Result Y CoordinatesFault → Type 0
Gives view (Ok x) reading = reading ≡ Ok (view x)
Gives view (Err fault) reading = MatchBool (is_memory fault.cause) ⊤ (reading ≡ Err fault)
