-- What the query of a page of features asks for.
use Rattle.std.specs.Prelude.{ℕ, ◌==◌, ◌||◌, min, Bool, true, false, List, [], ◌∷◌, length, codes, nat_le, Option, None, Some, is_some, option_and_then, unwrap_or, Result, Ok, Err, if◌then◌else◌}
use Rattle.std.specs.Str.{bytes_eq}
use Rattle.percent_encoding.specs.Percent.{percent_decode}
use Rattle.form_urlencoded.specs.Form.{raw_pairs}
use Rattle.grid.specs.declared.grids.Grid.{Grid}
use Rattle.line_words.specs.Words.{number_of}
use Rattle.map_asks.specs.Boxes.{window_spelled}
use Rattle.map_asks.specs.Dates.{is_datetime}
use Rattle.map_asks.specs.Windows.{window_of}
use Rattle.map_asks.specs.declared.asks.Items.{Items}
use Rattle.map_asks.specs.declared.asks.Source.TheVariants.{Search, Kept}
use Rattle.map_asks.specs.declared.faults.AskFault.{AskFault}
use Rattle.map_asks.specs.declared.faults.AskFault.TheVariants.{UnknownParameter, Twice, Value, Apart}
use Rattle.map_asks.specs.declared.faults.Parameter.{Parameter}
use Rattle.map_asks.specs.declared.faults.Parameter.TheVariants as parameters
use Rattle.map_asks.specs.declared.queries.TheConstants.{MOST_LIMIT, DEFAULT_LIMIT, VALUE_LIMIT}
use Rattle.map_asks.specs.declared.queries.Wanted.{Wanted}
use Rattle.map_asks.specs.declared.windows.TheConstants.{EVERYWHERE}
use Rattle.map_asks.specs.declared.windows.Window.{Window}

infixl 10 ◌>>=◌
abbrev pub ◌>>=◌ : {A B : Type 0} → Result A AskFault → (A → Result B AskFault) → Result B AskFault
(Ok x) >>= f = f x
(Err fault) >>= f = Err fault

-- nothing is asked for yet
abbrev pub blank : Wanted
blank = record { window = None; dated = false; limit = None; kept = None; after = None }

-- a name or a value with its escapes decoded, if it is not too long
unfoldable pub text_of : List ℕ → Option (List ℕ)
text_of raw =
    if nat_le (length (percent_decode raw)) VALUE_LIMIT then Some (percent_decode raw) else None

-- a limit is a number from 1 on; a great one is the most that there is
abbrev pub as_limit : Option ℕ → Option ℕ
as_limit None = None
as_limit (Some n) = if n == 0 then None else Some (min n MOST_LIMIT)

abbrev pub limit_of : List ℕ → Option ℕ
limit_of text = as_limit (number_of text)

-- a value that is there, for a parameter that is not given yet
abbrev pub once : {T : Type 0} → Parameter → Bool → Option T → Result T AskFault
once parameter true value = Err (Twice parameter)
once parameter false None = Err (Value parameter)
once parameter false (Some x) = Ok x

abbrev pub with_bbox : Grid → List ℕ → Wanted → Result Wanted AskFault
with_bbox grid text wanted =
    once parameters.Bbox (is_some wanted.window) (window_spelled grid text)
    >>= λ window. Ok (record wanted { window = Some window })

abbrev pub with_datetime : List ℕ → Wanted → Result Wanted AskFault
with_datetime text wanted =
    if wanted.dated then Err (Twice parameters.Datetime)
    else if is_datetime text then Ok (record wanted { dated = true })
    else Err (Value parameters.Datetime)

abbrev pub with_limit : List ℕ → Wanted → Result Wanted AskFault
with_limit text wanted =
    once parameters.Limit (is_some wanted.limit) (limit_of text)
    >>= λ limit. Ok (record wanted { limit = Some limit })

abbrev pub with_kept : List ℕ → Wanted → Result Wanted AskFault
with_kept text wanted =
    once parameters.Kept (is_some wanted.kept) (number_of text)
    >>= λ kept. Ok (record wanted { kept = Some kept })

abbrev pub with_after : List ℕ → Wanted → Result Wanted AskFault
with_after text wanted =
    once parameters.After (is_some wanted.after) (number_of text)
    >>= λ after. Ok (record wanted { after = Some after })

abbrev pub parameter_named : List ℕ → Option Parameter
parameter_named name =
    if bytes_eq name (codes "bbox") then Some parameters.Bbox
    else if bytes_eq name (codes "datetime") then Some parameters.Datetime
    else if bytes_eq name (codes "limit") then Some parameters.Limit
    else if bytes_eq name (codes "kept") then Some parameters.Kept
    else if bytes_eq name (codes "after") then Some parameters.After
    else None

-- a parameter's value taken
unfoldable pub taken : Grid → Parameter → List ℕ → Wanted → Result Wanted AskFault
taken grid parameters.Bbox text wanted = with_bbox grid text wanted
taken grid parameters.Datetime text wanted = with_datetime text wanted
taken grid parameters.Limit text wanted = with_limit text wanted
taken grid parameters.Kept text wanted = with_kept text wanted
taken grid parameters.After text wanted = with_after text wanted

abbrev pub taken_text : Grid → Parameter → Option (List ℕ) → Wanted → Result Wanted AskFault
taken_text grid parameter None wanted = Err (Value parameter)
taken_text grid parameter (Some text) wanted = taken grid parameter text wanted

abbrev pub parameter_of : List ℕ → Option Parameter
parameter_of name = option_and_then parameter_named (text_of name)

abbrev pub taken_named : Grid → Option Parameter → List ℕ → Wanted → Result Wanted AskFault
taken_named grid None value wanted = Err UnknownParameter
taken_named grid (Some parameter) value wanted = taken_text grid parameter (text_of value) wanted

-- one pair of a query taken
unfoldable pub taken_pair : Grid → List ℕ → List ℕ → Wanted → Result Wanted AskFault
taken_pair grid name value wanted = taken_named grid (parameter_of name) value wanted

-- all pairs taken, in order; or the first fault
abbrev pub wanted_by : Grid → List (List ℕ × List ℕ) → Wanted → Result Wanted AskFault
wanted_by grid [] wanted = Ok wanted
wanted_by grid (pair ∷ pairs) wanted =
    taken_pair grid pair.0 pair.1 wanted >>= wanted_by grid pairs

-- without a box the search is of the whole grid
abbrev pub window_wanted : Option Window → Option Window
window_wanted None = window_of EVERYWHERE
window_wanted (Some window) = Some window

abbrev pub searched : ℕ → Option Window → Result Items AskFault
searched limit None = Err (Value parameters.Bbox)
searched limit (Some window) = Ok (record { source = Search window; limit = limit })

-- a further page of a kept answer, or the first page of a search
abbrev pub page_wanted : Option ℕ → Wanted → Result Items AskFault
page_wanted (Some number) wanted =
    if is_some wanted.window || wanted.dated then Err Apart
    else Ok (record {
      source = Kept number wanted.after;
      limit = unwrap_or wanted.limit DEFAULT_LIMIT;
    })
page_wanted None wanted =
    if is_some wanted.after then Err Apart
    else searched (unwrap_or wanted.limit DEFAULT_LIMIT) (window_wanted wanted.window)

abbrev pub items_of : Wanted → Result Items AskFault
items_of wanted = page_wanted wanted.kept wanted

-- what a query asks for
unfoldable pub query_items : Grid → List ℕ → Result Items AskFault
query_items grid query = wanted_by grid (raw_pairs query) blank >>= items_of

abbrev pub has_no_pairs : List (List ℕ × List ℕ) → Bool
has_no_pairs [] = true
has_no_pairs (pair ∷ pairs) = false

abbrev pub is_empty_query : List ℕ → Bool
is_empty_query query = has_no_pairs (raw_pairs query)
