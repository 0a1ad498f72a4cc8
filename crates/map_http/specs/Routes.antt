-- Where requests are answered.
use Rattle.std.specs.Prelude.{ℕ, ◌&&◌, Bool, List, codes, Option, None, Some, if◌then◌else◌}
use Rattle.std.specs.Str.{bytes_eq}
use Rattle.map_questions.specs.Calls.{call_of}
use Rattle.map_questions.specs.declared.calls.Call.{Call}
use Rattle.map_questions.specs.declared.calls.Call.TheVariants.{Explain, Policy, Trail, Piece}
use Rattle.map_changes.specs.Paths.{methods_of}
use Rattle.map_changes.specs.declared.paths.Methods.{Methods}
use Rattle.map_changes.specs.declared.paths.Methods.TheVariants as methods
use Rattle.map_http.specs.Parts.{is_read}
use Rattle.map_http.specs.declared.routes.Allow.{Allow}
use Rattle.map_http.specs.declared.routes.Allow.TheVariants as allow
use Rattle.map_http.specs.declared.routes.Route.{Route}
use Rattle.map_http.specs.declared.routes.Route.TheVariants.{Reading, Changing, Listing, Watching, Calling}

-- a page of the map is read or changed
abbrev pub map_route : List ℕ → Route
map_route method = if is_read method then Reading else Changing

-- a question to the policy, a policy, or the trail is a call
abbrev pub call_route : List ℕ → Option Call → Route
call_route method (Some call) = Calling call
call_route method None = map_route method

-- by the path, and else by the method
unfoldable pub route_of : Bool → List ℕ → List ℕ → Route
route_of is_watched method path =
    if bytes_eq path (codes "/transactions") then Listing
    else if is_watched && bytes_eq path (codes "/metrics") then Watching
    else call_route method (call_of path)

abbrev pub map_methods : Methods → Allow
map_methods methods.Read = allow.Read
map_methods methods.Add = allow.Add
map_methods methods.Edit = allow.Edit

abbrev pub call_methods : Call → Allow
call_methods Explain = allow.Read
call_methods Policy = allow.Put
call_methods Trail = allow.Post
call_methods (Piece number) = allow.Piece

-- the methods that there are at a path
abbrev pub allow_of : Route → List (List ℕ) → List ℕ → Allow
allow_of Reading classes path = map_methods (methods_of classes path)
allow_of Changing classes path = map_methods (methods_of classes path)
allow_of Listing classes path = allow.Post
allow_of Watching classes path = allow.Read
allow_of (Calling call) classes path = call_methods call
