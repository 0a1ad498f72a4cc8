-- The landing page and the declaration of conformance (OGC API - Features, Part 1, sections 7.2 and
-- 7.4).
use Rattle.std.specs.Prelude.{ℕ, List, ◌++◌, codes}
use Rattle.map_answers.specs.Links.{link_text}
use Rattle.map_answers.specs.declared.answers.MediaType.TheVariants.{Json, OpenApi, Html}

-- the head of the landing page, and the link to itself
unfoldable pub root_part : List ℕ → List ℕ
root_part base = codes "{\"title\":\"landmap\",\"links\":[" ++ link_text (codes "self") Json (base ++ codes "/")

-- the links to the description for programs, the conformance, the collections
unfoldable pub api_part : List ℕ → List ℕ
api_part base = codes "," ++ link_text (codes "service-desc") OpenApi (base ++ codes "/api")

unfoldable pub conformance_part : List ℕ → List ℕ
conformance_part base = codes "," ++ link_text (codes "conformance") Json (base ++ codes "/conformance")

unfoldable pub data_part : List ℕ → List ℕ
data_part base = codes "," ++ link_text (codes "data") Json (base ++ codes "/collections")

-- the link to the page that shows the map in a browser
unfoldable pub map_part : List ℕ → List ℕ
map_part base = codes "," ++ link_text (codes "alternate") Html (base ++ codes "/map")

-- the landing page
abbrev pub landing_text : List ℕ → List ℕ
landing_text base =
    root_part base ++ api_part base ++ conformance_part base ++ data_part base ++ map_part base
    ++ codes "]}"

-- the parts of the standard that are kept: core, and features as GeoJSON
unfoldable pub conformance_text : List ℕ
conformance_text =
    codes "{\"conformsTo\":[\"http://www.opengis.net/spec/ogcapi-features-1/1.0/conf/core\",\"http://www.opengis.net/spec/ogcapi-features-1/1.0/conf/geojson\"]}"
