-- The pages that are the same whatever the map has.
use Rattle.std.specs.Prelude.{ℕ, List}
use Rattle.grid.specs.declared.grids.Grid.{Grid}
use Rattle.map_asks.specs.declared.asks.FixedPage.{FixedPage}
use Rattle.map_asks.specs.declared.asks.FixedPage.TheVariants.{Landing, Api, Conformance, Collections, Collection, Map}
use Rattle.map_answers.specs.declared.answers.MediaType.{MediaType}
use Rattle.map_answers.specs.declared.answers.MediaType.TheVariants.{Json, OpenApi, Html}
use Rattle.map_pages.specs.Landing.{landing_text, conformance_text}
use Rattle.map_pages.specs.Collections.{collection_text, collections_text}
use Rattle.map_pages.specs.Api.{api_text}

-- what a page is
abbrev pub media_of : FixedPage → MediaType
media_of Landing = Json
media_of Api = OpenApi
media_of Conformance = Json
media_of Collections = Json
media_of (Collection layer) = Json
media_of Map = Html

-- a page of the server at this base, on this grid, where these classes are collections and this is
-- the page that shows the map
abbrev pub fixed_text : List ℕ → Grid → List (List ℕ) → List ℕ → FixedPage → List ℕ
fixed_text base grid classes map Landing = landing_text base
fixed_text base grid classes map Api = api_text base
fixed_text base grid classes map Conformance = conformance_text
fixed_text base grid classes map Collections = collections_text base grid classes
fixed_text base grid classes map (Collection layer) = collection_text base grid layer
fixed_text base grid classes map Map = map
