-- What a feature in a request changes.
use Rattle.std.specs.Prelude.{ℕ, ◌==◌, Bool, true, List, nat_eq, Option, None, Some, Result, Ok, Err, if◌then◌else◌}
use Rattle.std.specs.Cmp.Lexicographic.{pointwise}
use Rattle.features.specs.declared.rows.Change.TheVariants.{Add, Reshape}
use Rattle.geojson.specs.Given.{GivenData}
use Rattle.map_asks.specs.declared.asks.Layer.{Layer}
use Rattle.map_asks.specs.declared.asks.Layer.TheVariants.{All, Class}
use Rattle.map_changes.specs.Faults.{◌>>=◌, or_fault}
use Rattle.map_changes.specs.Shapes.{shape_in}
use Rattle.map_changes.specs.declared.edits.Edit.{Edit}
use Rattle.map_changes.specs.declared.faults.ChangeFault.{ChangeFault}
use Rattle.map_changes.specs.declared.faults.ChangeFault.TheVariants as faults

-- what is said of a feature's id, if anything, is this one
abbrev pub is_of : ℕ → Option ℕ → Bool
is_of id None = true
is_of id (Some other) = other == id

-- the class of a feature that is added: that of the collection, where the collection is a class;
-- else the one that the feature says
abbrev pub class_in : Layer → Option (List ℕ) → Result (List ℕ) ChangeFault
class_in All None = Err faults.Class
class_in All (Some class) = Ok class
class_in (Class class) None = Ok class
class_in (Class class) (Some other) =
    if pointwise nat_eq other class then Ok class else Err faults.Class

-- the addition of a feature, which says its id
abbrev pub added_by : Layer → GivenData → Result Edit ChangeFault
added_by layer given =
    or_fault faults.Id given.id >>= λ id. class_in layer given.class
    >>= λ class. shape_in given.paths
    >>= λ shape. Ok (record { layer = layer; change = Add id class shape })

-- the change of a feature's shape
abbrev pub reshaped_by : ℕ → ℕ → GivenData → Result Edit ChangeFault
reshaped_by id version given =
    if is_of id given.id then
    (shape_in given.paths
    >>= λ shape. Ok (record { layer = All; change = Reshape id version shape }))
    else Err faults.Id
