-- What a text says of a feature (RFC 7946), or its first fault.
use Rattle.std.specs.Prelude.{◌≡◌, ℕ, Bool, true, false, List, [], ◌∷◌, codes, map, flat_map, Option, None, Some, option_and_then, ok_or, Result, Ok, Err, MatchBool, ⊤, if◌then◌else◌}
use Rattle.std.specs.Str.{bytes_eq}
use Rattle.json.specs.Find.{get, is_null, as_str, as_array, as_object}
use Rattle.json.specs.Json.{Json, null, boolean, number, string, array, object, Items}
use Rattle.line_words.specs.Words.{number_of}
use Rattle.features.specs.Names.{name_of}
use Rattle.plane.specs.declared.point.Point.{Point}
use Rattle.grid.specs.declared.grids.Grid.{Grid}
use Rattle.geojson.specs.declared.faults.Cause.{Cause}
use Rattle.geojson.specs.declared.faults.Cause.TheVariants as causes
use Rattle.geojson.specs.declared.faults.CoordinatesFault.{CoordinatesFault}
use Rattle.geojson.specs.declared.faults.FeatureFault.{FeatureFault}
use Rattle.geojson.specs.declared.faults.Member.{Member}
use Rattle.geojson.specs.declared.faults.Member.TheVariants as places
use Rattle.geojson.specs.declared.geometries.Layout.TheVariants.{Lines, Rings}
use Rattle.geojson.specs.declared.geometries.Role.{Role}
use Rattle.geojson.specs.declared.geometries.Role.TheVariants as roles
use Rattle.geojson.specs.declared.given.Given.{Given}
use Rattle.geojson.specs.declared.given.Kind.{Kind}
use Rattle.geojson.specs.declared.given.Kind.TheVariants as kinds
use Rattle.geojson.specs.declared.given.Said.{Said}
use Rattle.geojson.specs.declared.given.Wished.{Wished}
use Rattle.geojson.specs.Documents.{json_in}
use Rattle.geojson.specs.Faults.{fault_here, fault_at, in_polygon, is_memory, ◌>>=◌}
use Rattle.geojson.specs.Paths.{path_view}
use Rattle.geojson.specs.Reading.{PathOf, list_from, position_in, points_in, paths_in}

-- what was read of a feature
pub record GivenData : Type 0 where
  pub id : Option ℕ
  pub version : Option ℕ
  pub office : Option (List ℕ)
  pub class : Option (List ℕ)
  pub paths : List PathOf

abbrev pub given_view : {A : Type 0} → Given A → GivenData
given_view given = record {
  id = given.id;
  version = given.version;
  office = given.office;
  class = given.class;
  paths = map path_view given.geometry.paths.items;
}

-- the type of geometry with this name
abbrev pub kind_of : List ℕ → Option Kind
kind_of name =
    if bytes_eq name (codes "Point") then Some kinds.Point
    else if bytes_eq name (codes "LineString") then Some kinds.LineString
    else if bytes_eq name (codes "Polygon") then Some kinds.Polygon
    else if bytes_eq name (codes "MultiLineString") then Some kinds.MultiLineString
    else if bytes_eq name (codes "MultiPolygon") then Some kinds.MultiPolygon
    else None

-- a geometry of one path
abbrev pub one_path : Role → Result (List Point) CoordinatesFault
    → Result (List PathOf) CoordinatesFault
one_path what (Ok points) = Ok ((what, points) ∷ [])
one_path what (Err fault) = Err fault

-- the one point of a position
abbrev pub one_point : Result Point CoordinatesFault → Result (List Point) CoordinatesFault
one_point (Ok point) = Ok (point ∷ [])
one_point (Err fault) = Err fault

-- the paths of a point, and of a line
abbrev pub point_in : Grid → Json → Result (List PathOf) CoordinatesFault
point_in grid j = one_path roles.Point (one_point (position_in grid j))

abbrev pub line_in : Grid → Json → Result (List PathOf) CoordinatesFault
line_in grid j = one_path roles.Line (points_in grid j)

-- the paths of the polygon at an index
abbrev pub polygon_at : Grid → ℕ → Json → Result (List PathOf) CoordinatesFault
polygon_at grid n j = in_polygon n (paths_in grid Rings j)

-- several lists as one
abbrev pub joined : {T : Type 0} → Result (List (List T)) CoordinatesFault
    → Result (List T) CoordinatesFault
joined (Ok lists) = Ok (flat_map (λ list. list) lists)
joined (Err fault) = Err fault

-- the paths of an array of polygons
abbrev pub polygons_of_array : Grid → Option Items → Result (List PathOf) CoordinatesFault
polygons_of_array grid None = Err (fault_here causes.Form)
polygons_of_array grid (Some items) = joined (list_from (polygon_at grid) 0 items)

abbrev pub polygons_in : Grid → Json → Result (List PathOf) CoordinatesFault
polygons_in grid j = polygons_of_array grid (as_array j)

-- the paths of the coordinates of a geometry of this type
abbrev pub coordinates_in : Grid → Kind → Json → Result (List PathOf) CoordinatesFault
coordinates_in grid kinds.Point j = point_in grid j
coordinates_in grid kinds.LineString j = line_in grid j
coordinates_in grid kinds.Polygon j = paths_in grid Rings j
coordinates_in grid kinds.MultiLineString j = paths_in grid Lines j
coordinates_in grid kinds.MultiPolygon j = polygons_in grid j

-- the members of a geometry: one that is the whole text is `bare`
abbrev pub whole_member : Bool → Member
whole_member true = places.Text
whole_member false = places.Geometry

abbrev pub type_member : Bool → Member
type_member true = places.Type
type_member false = places.GeometryType

abbrev pub coordinates_member : Bool → Member
coordinates_member true = places.BareCoordinates
coordinates_member false = places.Coordinates

-- the name of a value's type
abbrev pub type_name : Json → Option (List ℕ)
type_name j = option_and_then as_str (get (codes "type") j)

-- the type of a geometry, which is an object
unfoldable pub kind_in : Bool → Json → Result Kind FeatureFault
kind_in bare j =
    ok_or (as_object j) (fault_at (whole_member bare) causes.Form) >>= λ members.
    ok_or (type_name j) (fault_at (type_member bare) causes.Form) >>= λ name.
    ok_or (kind_of name) (fault_at (type_member bare) causes.Kind)

-- a fault among the coordinates, with the member that holds them
abbrev pub in_member : {T : Type 0} → Member → Result T CoordinatesFault → Result T FeatureFault
in_member member (Ok x) = Ok x
in_member member (Err fault) = Err (record {
  cause = fault.cause;
  member = member;
  spot = fault.spot;
})

-- the paths of the coordinates, if they are there
abbrev pub listed_in : Grid → Bool → Kind → Option Json → Result (List PathOf) FeatureFault
listed_in grid bare kind None = Err (fault_at (coordinates_member bare) causes.Form)
listed_in grid bare kind (Some j) =
    in_member (coordinates_member bare) (coordinates_in grid kind j)

-- the paths of a geometry
unfoldable pub geometry_in : Grid → Bool → Json → Result (List PathOf) FeatureFault
geometry_in grid bare j =
    kind_in bare j >>= λ kind. listed_in grid bare kind (get (codes "coordinates") j)

-- a member that may be missing or null
abbrev pub not_null : Json → Option Json
not_null j = if is_null j then None else Some j

abbrev pub present : Option Json → Option Json
present found = option_and_then not_null found

-- a whole number: digits, or a text of digits
abbrev pub whole_number : Json → Option ℕ
whole_number null = None
whole_number (boolean b) = None
whole_number (number text) = number_of text
whole_number (string text) = number_of text
whole_number (array js) = None
whole_number (object ms) = None

-- a name: a text that is one
abbrev pub name_in : Json → Option (List ℕ)
name_in j = option_and_then name_of (as_str j)

-- what is there has the form that is wanted
abbrev pub formed : {T : Type 0} → Member → Option T → Result (Option T) FeatureFault
formed member None = Err (fault_at member causes.Form)
formed member (Some x) = Ok (Some x)

abbrev pub if_present : {T : Type 0} → (Json → Option T) → Member → Option Json
    → Result (Option T) FeatureFault
if_present read member None = Ok None
if_present read member (Some j) = formed member (read j)

abbrev pub number_member : Member → Option Json → Result (Option ℕ) FeatureFault
number_member member found = if_present whole_number member (present found)

abbrev pub name_member : Member → Option Json → Result (Option (List ℕ)) FeatureFault
name_member member found = if_present name_in member (present found)

-- a property of a feature
unfoldable pub property : List ℕ → Json → Option Json
property name j = option_and_then (get name) (get (codes "properties") j)

-- the id: the member, or else the property
abbrev pub or_property_id : Json → Option ℕ → Result (Option ℕ) FeatureFault
or_property_id j (Some id) = Ok (Some id)
or_property_id j None = number_member places.PropertyId (property (codes "id") j)

unfoldable pub id_in : Json → Result (Option ℕ) FeatureFault
id_in j = number_member places.Id (get (codes "id") j) >>= or_property_id j

unfoldable pub version_in : Json → Result (Option ℕ) FeatureFault
version_in j = number_member places.Version (property (codes "version") j)

unfoldable pub office_in : Json → Result (Option (List ℕ)) FeatureFault
office_in j = name_member places.Office (property (codes "office") j)

unfoldable pub class_in : Json → Result (Option (List ℕ)) FeatureFault
class_in j = name_member places.Class (property (codes "class") j)

-- what is not wished is not looked at, and has no fault
abbrev pub if_wished : {T : Type 0} → Bool → Result (Option T) FeatureFault
    → Result (Option T) FeatureFault
if_wished true reading = reading
if_wished false reading = Ok None

-- what a feature says beside its geometry
unfoldable pub said_in : Wished → Json → Result Said FeatureFault
said_in wished j =
    if_wished wished.id (id_in j) >>= λ id. if_wished wished.others (version_in j) >>= λ version.
    if_wished wished.others (office_in j) >>= λ office.
    if_wished wished.class (class_in j) >>= λ class.
    Ok (record { id = id; version = version; office = office; class = class })

-- the paths of the member `geometry`
abbrev pub geometry_found : Grid → Option Json → Result (List PathOf) FeatureFault
geometry_found grid None = Err (fault_at places.Geometry causes.Form)
geometry_found grid (Some j) = geometry_in grid false j

unfoldable pub geometry_of : Grid → Json → Result (List PathOf) FeatureFault
geometry_of grid j = geometry_found grid (get (codes "geometry") j)

-- what is said beside a geometry, and its paths
abbrev pub with_paths : Said → Result (List PathOf) FeatureFault → Result GivenData FeatureFault
with_paths said (Ok paths) = Ok (record {
  id = said.id;
  version = said.version;
  office = said.office;
  class = said.class;
  paths = paths;
})
with_paths said (Err fault) = Err fault

-- a feature
abbrev pub whole_feature : Grid → Wished → Json → Result GivenData FeatureFault
whole_feature grid wished j = said_in wished j >>= λ said. with_paths said (geometry_of grid j)

-- nothing is said beside a geometry that is the whole text
abbrev pub nothing_said : Said
nothing_said = record { id = None; version = None; office = None; class = None }

-- a geometry by itself
abbrev pub bare_in : Grid → Json → Result GivenData FeatureFault
bare_in grid j = with_paths nothing_said (geometry_in grid true j)

abbrev pub is_feature_name : Option (List ℕ) → Bool
is_feature_name None = false
is_feature_name (Some name) = bytes_eq name (codes "Feature")

-- whether a value says that it is a feature
unfoldable pub is_feature : Json → Bool
is_feature j = is_feature_name (type_name j)

-- what a JSON value says of a feature, or its first fault: a feature, or a geometry by itself
unfoldable pub feature_in : Grid → Wished → Json → Result GivenData FeatureFault
feature_in grid wished j =
    if is_feature j then whole_feature grid wished j else bare_in grid j

-- a fault of the whole text
abbrev pub in_text : {T : Type 0} → Result T Cause → Result T FeatureFault
in_text (Ok x) = Ok x
in_text (Err cause) = Err (fault_at places.Text cause)

-- the same of a text
unfoldable pub feature_read : Grid → Wished → List ℕ → Result GivenData FeatureFault
feature_read grid wished text = in_text (json_in text) >>= feature_in grid wished

-- the returned value, seen through `view`, is that of the reading; or an allocation was refused
abbrev pub Tells : {X Y : Type 0} → (X → Y) → Result X FeatureFault → Result Y FeatureFault → Type 0
Tells view (Ok x) reading = reading ≡ Ok (view x)
Tells view (Err fault) reading = MatchBool (is_memory fault.cause) ⊤ (reading ≡ Err fault)

-- what was returned is what the text says
abbrev pub Reads : {A : Type 0} → Grid → Wished → List ℕ → Result (Given A) FeatureFault → Type 0
Reads grid wished text result = Tells given_view result (feature_read grid wished text)

-- all is looked at
abbrev pub all_wished : Wished
all_wished = record { id = true; class = true; others = true }
