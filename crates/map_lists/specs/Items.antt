-- A change of a list, read from its JSON value, or its first fault.
use Rattle.std.specs.Prelude.{ℕ, List, codes, Option, None, Some, option_and_then, ok_or, Result, Ok, Err, if◌then◌else◌}
use Rattle.std.specs.Str.{bytes_eq}
use Rattle.json.specs.Find.{get, as_str}
use Rattle.json.specs.Json.{Json}
use Rattle.plane.specs.declared.point.Point.{Point}
use Rattle.features.specs.declared.rows.Change.{Change}
use Rattle.features.specs.declared.rows.Change.TheVariants.{Reshape, Delete}
use Rattle.grid.specs.declared.grids.Grid.{Grid}
use Rattle.geojson.specs.Faults.{◌>>=◌}
use Rattle.geojson.specs.Given.{feature_in, geometry_of, whole_number}
use Rattle.map_asks.specs.declared.asks.Layer.TheVariants.{All}
use Rattle.map_changes.specs.Changing.{body_given}
use Rattle.map_changes.specs.Givens.{added_by}
use Rattle.map_changes.specs.Shapes.{shape_in}
use Rattle.map_changes.specs.declared.edits.Edit.{Edit}
use Rattle.map_changes.specs.declared.faults.ChangeFault.{ChangeFault}
use Rattle.map_changes.specs.declared.reading.TheConstants.{FOR_ADDING}
use Rattle.map_lists.specs.Faults.{form_at, in_part}
use Rattle.map_lists.specs.declared.changes.Action.{Action}
use Rattle.map_lists.specs.declared.changes.Action.TheVariants as actions
use Rattle.map_lists.specs.declared.faults.ItemFault.{ItemFault}
use Rattle.map_lists.specs.declared.faults.Part.{Part}
use Rattle.map_lists.specs.declared.faults.Part.TheVariants as parts

-- the action of this name
abbrev pub action_of : List ℕ → Option Action
action_of name =
    if bytes_eq name (codes "add") then Some actions.Add
    else if bytes_eq name (codes "reshape") then Some actions.Reshape
    else if bytes_eq name (codes "delete") then Some actions.Delete
    else None

-- what is to be done
abbrev pub action_named : Json → Option Action
action_named j = option_and_then action_of (option_and_then as_str (get (codes "action") j))

unfoldable pub action_in : Json → Result Action ItemFault
action_in j = ok_or (action_named j) (form_at parts.Action)

-- a member that is a whole number
unfoldable pub number_in : Part → List ℕ → Json → Result ℕ ItemFault
number_in part name j = ok_or (option_and_then whole_number (get name j)) (form_at part)

-- the addition of a feature, as `POST` adds it to the collection of all
abbrev pub feature_added : Grid → Json → Result Edit ChangeFault
feature_added grid j = body_given (feature_in grid FOR_ADDING j) >>= added_by All

-- the change that an edit is
abbrev pub change_of : Result Edit ItemFault → Result Change ItemFault
change_of (Ok edit) = Ok edit.change
change_of (Err fault) = Err fault

abbrev pub added_of : Grid → Option Json → Result Change ItemFault
added_of grid None = Err (form_at parts.Feature)
added_of grid (Some j) = change_of (in_part parts.Feature (feature_added grid j))

-- the feature of the member `feature` is added
unfoldable pub added : Grid → Json → Result Change ItemFault
added grid j = added_of grid (get (codes "feature") j)

-- the shape of the member `geometry`, as `PUT` reads that of a Feature
abbrev pub shape_of : Grid → Json → Result (List Point) ChangeFault
shape_of grid j = body_given (geometry_of grid j) >>= shape_in

-- the feature of this id and version gets the shape
unfoldable pub reshaped : Grid → Json → Result Change ItemFault
reshaped grid j =
    number_in parts.Id (codes "id") j >>= λ id.
    number_in parts.Version (codes "version") j >>= λ version.
    in_part parts.Whole (shape_of grid j) >>= λ shape. Ok (Reshape id version shape)

-- the feature of this id and version is removed
unfoldable pub deleted : Json → Result Change ItemFault
deleted j =
    number_in parts.Id (codes "id") j >>= λ id.
    number_in parts.Version (codes "version") j >>= λ version. Ok (Delete id version)

abbrev pub change_by : Grid → Json → Action → Result Change ItemFault
change_by grid j actions.Add = added grid j
change_by grid j actions.Reshape = reshaped grid j
change_by grid j actions.Delete = deleted j

-- the change that a value says
unfoldable pub change_in : Grid → Json → Result Change ItemFault
change_in grid j = action_in j >>= change_by grid j
