-- What a request asks for.
use Rattle.std.specs.Prelude.{ℕ, List, Option, None, Some, Result, Ok, Err, if◌then◌else◌}
use Rattle.grid.specs.declared.grids.Grid.{Grid}
use Rattle.map_asks.specs.Pages.{page_of}
use Rattle.map_asks.specs.Queries.{◌>>=◌, query_items, is_empty_query}
use Rattle.map_asks.specs.declared.asks.Ask.{Ask}
use Rattle.map_asks.specs.declared.asks.Ask.TheVariants.{Fixed, Items, Item}
use Rattle.map_asks.specs.declared.asks.Page.{Page}
use Rattle.map_asks.specs.declared.asks.Page.TheVariants as pages
use Rattle.map_asks.specs.declared.faults.AskFault.{AskFault}
use Rattle.map_asks.specs.declared.faults.AskFault.TheVariants.{NoPage, UnknownParameter}

-- a page without parameters
abbrev pub plain : Ask → List ℕ → Result Ask AskFault
plain ask query = if is_empty_query query then Ok ask else Err UnknownParameter

abbrev pub ask_of_page : Grid → Page → List ℕ → Result Ask AskFault
ask_of_page grid (pages.Fixed fixed) query = plain (Fixed fixed) query
ask_of_page grid (pages.Items layer) query = query_items grid query >>= λ items. Ok (Items layer items)
ask_of_page grid (pages.Item layer id) query = plain (Item layer id) query

abbrev pub ask_of_named : Grid → Option Page → List ℕ → Result Ask AskFault
ask_of_named grid None query = Err NoPage
ask_of_named grid (Some page) query = ask_of_page grid page query

-- what a path and a query ask for
unfoldable pub ask_of : Grid → List (List ℕ) → List ℕ → List ℕ → Result Ask AskFault
ask_of grid classes path query = ask_of_named grid (page_of classes path) query
