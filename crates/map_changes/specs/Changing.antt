-- What a request asks to change.
use Rattle.std.specs.Prelude.{ℕ, List, Result, Ok, Err, if◌then◌else◌}
use Rattle.features.specs.declared.rows.Change.TheVariants.{Delete}
use Rattle.geojson.specs.Given.{GivenData, feature_read}
use Rattle.geojson.specs.declared.faults.FeatureFault.{FeatureFault}
use Rattle.geojson.specs.declared.given.Wished.{Wished}
use Rattle.grid.specs.declared.grids.Grid.{Grid}
use Rattle.map_asks.specs.Queries.{is_empty_query}
use Rattle.map_asks.specs.declared.asks.Layer.{Layer}
use Rattle.map_asks.specs.declared.asks.Layer.TheVariants.{All}
use Rattle.map_changes.specs.Faults.{◌>>=◌, Gives}
use Rattle.map_changes.specs.Givens.{added_by, reshaped_by}
use Rattle.map_changes.specs.Media.{is_read_by}
use Rattle.map_changes.specs.Requests.{RequestData}
use Rattle.map_changes.specs.Tags.{version_in}
use Rattle.map_changes.specs.Targets.{target_of}
use Rattle.map_changes.specs.declared.edits.Edit.{Edit}
use Rattle.map_changes.specs.declared.faults.ChangeFault.{ChangeFault}
use Rattle.map_changes.specs.declared.faults.ChangeFault.TheVariants.{Parameter, Media, Feature}
use Rattle.map_changes.specs.declared.reading.TheConstants.{FOR_ADDING, FOR_RESHAPING}
use Rattle.map_changes.specs.declared.targets.Target.{Target}
use Rattle.map_changes.specs.declared.targets.Target.TheVariants as targets

-- what a body says of a feature
abbrev pub body_given : {T : Type 0} → Result T FeatureFault → Result T ChangeFault
body_given (Ok given) = Ok given
body_given (Err fault) = Err (Feature fault)

-- what is said of a feature by the body of a request, if it is of a type that is read
abbrev pub given_in : Grid → Wished → RequestData → Result GivenData ChangeFault
given_in grid wished request =
    if is_read_by request.method request.media
    then body_given (feature_read grid wished request.body) else Err Media

-- a feature is added
abbrev pub added : Grid → Layer → RequestData → Result Edit ChangeFault
added grid layer request = given_in grid FOR_ADDING request >>= added_by layer

-- this version of a feature gets another shape
abbrev pub reshaped : Grid → ℕ → RequestData → ℕ → Result Edit ChangeFault
reshaped grid id request version = given_in grid FOR_RESHAPING request >>= reshaped_by id version

-- this version of a feature is removed
abbrev pub deleted : ℕ → ℕ → Edit
deleted id version = record { layer = All; change = Delete id version }

-- the change at what a request changes
abbrev pub change_at : Grid → Target → RequestData → Result Edit ChangeFault
change_at grid (targets.Added layer) request = added grid layer request
change_at grid (targets.Reshaped id) request =
    version_in request.if_match >>= reshaped grid id request
change_at grid (targets.Deleted id) request =
    version_in request.if_match >>= λ version. Ok (deleted id version)

-- without parameters
abbrev pub unqueried : List ℕ → Result Edit ChangeFault → Result Edit ChangeFault
unqueried query edit = if is_empty_query query then edit else Err Parameter

-- the change that a request asks for, or its first fault
unfoldable pub change_read : Grid → List (List ℕ) → RequestData → Result Edit ChangeFault
change_read grid classes request =
    target_of classes request.method request.path
    >>= λ target. unqueried request.query (change_at grid target request)

-- the outcome is that change or that fault, or an allocation was refused
abbrev pub ReadsChange : Grid → List (List ℕ) → RequestData → Result Edit ChangeFault
    → Type 0
ReadsChange grid classes request outcome = Gives outcome (change_read grid classes request)
