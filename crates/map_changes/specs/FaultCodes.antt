-- The codes of the faults.
use Rattle.std.specs.Prelude.{ℕ, List, codes}
use Rattle.geojson.specs.FaultCodes.{code_of as cause_code}
use Rattle.plane.specs.FaultCodes.{code_of as shape_code}
use Rattle.map_changes.specs.declared.faults.ChangeFault.{ChangeFault}
use Rattle.map_changes.specs.declared.faults.ChangeFault.TheVariants.{NoPage, Method, Parameter, NoVersion, WrongTag, Media, Feature, Id, Class, Parts, Shape}

abbrev pub code_of : ChangeFault → List ℕ
code_of NoPage = codes "U1"
code_of Method = codes "method"
code_of Parameter = codes "U2"
code_of NoVersion = codes "version"
code_of WrongTag = codes "stale"
code_of Media = codes "media"
code_of (Feature fault) = cause_code fault.cause
code_of Id = codes "id"
code_of Class = codes "class"
code_of Parts = codes "parts"
code_of (Shape fault) = shape_code fault
