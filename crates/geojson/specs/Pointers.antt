-- The members of a feature as JSON pointers (RFC 6901).
use Rattle.std.specs.Prelude.{ℕ, List, codes}
use Rattle.geojson.specs.declared.faults.Member.{Member}
use Rattle.geojson.specs.declared.faults.Member.TheVariants as members

abbrev pub pointer_of : Member → List ℕ
pointer_of members.Text = codes ""
pointer_of members.Type = codes "/type"
pointer_of members.BareCoordinates = codes "/coordinates"
pointer_of members.Id = codes "/id"
pointer_of members.Geometry = codes "/geometry"
pointer_of members.GeometryType = codes "/geometry/type"
pointer_of members.Coordinates = codes "/geometry/coordinates"
pointer_of members.PropertyId = codes "/properties/id"
pointer_of members.Version = codes "/properties/version"
pointer_of members.Office = codes "/properties/office"
pointer_of members.Class = codes "/properties/class"
