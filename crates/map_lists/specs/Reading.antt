-- The list of changes that a request asks for, or its first fault.
use Rattle.std.specs.Prelude.{ℕ, ◌==◌, suc, nat_le, List, [], ◌∷◌, ◌++◌, codes, Option, None, Some, option_and_then, ok_or, Result, Ok, Err, if◌then◌else◌}
use Rattle.json.specs.Find.{get, as_array}
use Rattle.json.specs.Json.{Json, Items, no_items, item}
use Rattle.features.specs.Changes.{change_id}
use Rattle.features.specs.declared.rows.Change.{Change}
use Rattle.grid.specs.declared.grids.Grid.{Grid}
use Rattle.geojson.specs.Documents.{json_in}
use Rattle.geojson.specs.Faults.{◌>>=◌}
use Rattle.geojson.specs.Reading.{list_from}
use Rattle.geojson.specs.declared.faults.Cause.{Cause}
use Rattle.map_asks.specs.Queries.{is_empty_query}
use Rattle.map_changes.specs.Media.{is_json}
use Rattle.plain_world.specs.Staging.{names}
use Rattle.plain_world.specs.declared.settings.TheConstants.{CHANGE_LIMIT}
use Rattle.map_lists.specs.Faults.{Gives, in_item}
use Rattle.map_lists.specs.Items.{change_in}
use Rattle.map_lists.specs.Requests.{ListData}
use Rattle.map_lists.specs.declared.faults.ListFault.{ListFault}
use Rattle.map_lists.specs.declared.faults.ListFault.TheVariants as faults

-- the values of the member `changes`
abbrev pub listed : Json → Result Items ListFault
listed j = ok_or (option_and_then as_array (get (codes "changes") j)) faults.Form

abbrev pub count : Items → ℕ
count no_items = 0
count (item j js) = suc (count js)

-- as many as a list may have: at least one
abbrev pub counted : Items → Result Items ListFault
counted items =
    if count items == 0 then Err faults.Empty
    else if nat_le (count items) CHANGE_LIMIT then Ok items else Err faults.TooMany

-- the change at an index
abbrev pub change_at : Grid → ℕ → Json → Result Change ListFault
change_at grid n j = in_item n (change_in grid j)

-- of the changes from the `n`-th on, the index of the first that is of a feature that a change
-- before it names; `before` are those before the `n`-th
abbrev pub again_from : List Change → ℕ → List Change → Option ℕ
again_from before n [] = None
again_from before n (change ∷ changes) =
    if names (change_id change) before then Some n
    else again_from (before ++ change ∷ []) (suc n) changes

abbrev pub unless_again : List Change → Option ℕ → Result (List Change) ListFault
unless_again changes None = Ok changes
unless_again changes (Some n) = Err (faults.Twice n)

-- each of another feature
unfoldable pub apart : List Change → Result (List Change) ListFault
apart changes = unless_again changes (again_from [] 0 changes)

-- the list that a value says
unfoldable pub list_in : Grid → Json → Result (List Change) ListFault
list_in grid j = listed j >>= counted >>= list_from (change_at grid) 0 >>= apart

-- a body that is no JSON, or that was not read for want of memory
abbrev pub as_read : Result Json Cause → Result Json ListFault
as_read (Ok j) = Ok j
as_read (Err cause) = Err (faults.Unread cause)

-- the list that a body says
unfoldable pub body_list : Grid → List ℕ → Result (List Change) ListFault
body_list grid body = as_read (json_in body) >>= list_in grid

-- the list that a request asks for, or its first fault
unfoldable pub list_read : Grid → ListData → Result (List Change) ListFault
list_read grid request =
    if is_empty_query request.query
    then (if is_json request.media then body_list grid request.body else Err faults.Media)
    else Err faults.Parameter

-- the outcome is that list or that fault, or an allocation was refused
abbrev pub ReadsList : Grid → ListData → Result (List Change) ListFault → Type 0
ReadsList grid request outcome = Gives outcome (list_read grid request)
