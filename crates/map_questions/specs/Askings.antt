-- What a query asks of the policy.
use Rattle.std.specs.Prelude.{◌≡◌, ⊤, ℕ, List, codes, Option, None, Some, Result, Ok, Err, if◌then◌else◌}
use Rattle.std.specs.Str.{bytes_eq}
use Rattle.form_urlencoded.specs.Form.{raw_pairs}
use Rattle.plane.specs.declared.point.Point.{Point}
use Rattle.features.specs.Names.{name_of}
use Rattle.features.specs.declared.actors.Action.{Action}
use Rattle.features.specs.declared.actors.Action.TheVariants.{Read, Add, Reshape, Delete}
use Rattle.grid.specs.declared.grids.Grid.{Grid}
use Rattle.geojson.specs.Faults.{is_memory}
use Rattle.geojson.specs.Given.{GivenData, feature_read}
use Rattle.geojson.specs.declared.faults.Cause.{Cause}
use Rattle.geojson.specs.declared.faults.FeatureFault.{FeatureFault}
use Rattle.map_changes.specs.Shapes.{shape_in}
use Rattle.map_changes.specs.declared.faults.ChangeFault.{ChangeFault}
use Rattle.map_questions.specs.Queries.{◌>>=◌, has_known_names, or_fault, text_given}
use Rattle.map_questions.specs.declared.askings.Asking.{Asking}
use Rattle.map_questions.specs.declared.askings.TheConstants.{GEOMETRY_ALONE}
use Rattle.map_questions.specs.declared.faults.AskingFault.{AskingFault}
use Rattle.map_questions.specs.declared.faults.AskingFault.TheVariants.{UnknownParameter, Value, Memory}
use Rattle.map_questions.specs.declared.faults.Parameter.{Parameter}
use Rattle.map_questions.specs.declared.faults.Parameter.TheVariants as parameters

-- what was returned is what the reading gives, or an allocation was refused
abbrev pub Tells : {X : Type 0} → Result X AskingFault → Result X AskingFault → Type 0
Tells (Ok x) reading = reading ≡ Ok x
Tells (Err Memory) reading = ⊤
Tells (Err fault) reading = reading ≡ Err fault

-- the action that a text names
abbrev pub action_of : List ℕ → Option Action
action_of text =
    if bytes_eq text (codes "read") then Some Read
    else if bytes_eq text (codes "add") then Some Add
    else if bytes_eq text (codes "reshape") then Some Reshape
    else if bytes_eq text (codes "delete") then Some Delete
    else None

abbrev pub action_given : List ℕ → Result Action AskingFault
action_given query =
    text_given parameters.Action query
    >>= λ text. or_fault (Value parameters.Action) (action_of text)

abbrev pub name_given : Parameter → List ℕ → Result (List ℕ) AskingFault
name_given parameter query =
    text_given parameter query >>= λ text. or_fault (Value parameter) (name_of text)

-- the fault of a text that is no geometry
abbrev pub fault_of : Cause → AskingFault
fault_of cause = if is_memory cause then Memory else Value parameters.Geometry

-- a shape, or the fault of a geometry that is none
abbrev pub shaped : Result (List Point) ChangeFault → Result (List Point) AskingFault
shaped (Ok shape) = Ok shape
shaped (Err fault) = Err (Value parameters.Geometry)

-- the one shape of what was read
abbrev pub shape_read : Result GivenData FeatureFault → Result (List Point) AskingFault
shape_read (Ok given) = shaped (shape_in given.paths)
shape_read (Err fault) = Err (Value parameters.Geometry)

-- the one shape that the geometry of a text is
unfoldable pub shape_of : Grid → List ℕ → Result (List Point) AskingFault
shape_of grid text = shape_read (feature_read grid GEOMETRY_ALONE text)

abbrev pub shape_given : Grid → List ℕ → Result (List Point) AskingFault
shape_given grid query = text_given parameters.Geometry query >>= shape_of grid

-- what a query asks whose names are all known
abbrev pub named_asking : Grid → List ℕ → Result Asking AskingFault
named_asking grid query =
    action_given query >>= λ action. name_given parameters.Office query
    >>= λ office. name_given parameters.Class query >>= λ class. shape_given grid query
    >>= λ shape. Ok (record { action = action; office = office; class = class; shape = shape })

-- what a query asks: each of four parameters is given once, and no other
unfoldable pub asking_of : Grid → List ℕ → Result Asking AskingFault
asking_of grid query =
    if has_known_names (raw_pairs query) then named_asking grid query else Err UnknownParameter
