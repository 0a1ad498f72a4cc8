-- What a request to read is answered.
use Rattle.std.specs.Prelude.{◌≡◌, ℕ, Bool, true, false, not, ◌&&◌, if◌then◌else◌, List, [], ◌∷◌, ◌++◌, length, nat_le, nat_lt, pos, ◌-ℤ◌, codes, Option, None, Some, Result, Ok, Err, MatchOption, MatchResult}
use Rattle.std.specs.Bool.{MatchBool}
use Rattle.plane.specs.Canonical.{polygon_of}
use Rattle.plane.specs.declared.fault.ShapeFault.{ShapeFault}
use Rattle.plane.specs.declared.point.Point.{Point}
use Rattle.plane.specs.declared.point.TheConstants.{LIMIT}
use Rattle.features.specs.declared.actors.Subject.{Subject}
use Rattle.features.specs.declared.rows.Feature.{Feature}
use Rattle.credentials.specs.declared.keys.Key.{Key}
use Rattle.grid.specs.declared.grids.Grid.{Grid}
use Rattle.map_asks.specs.Asking.{ask_of}
use Rattle.map_asks.specs.Windows.{corner}
use Rattle.map_asks.specs.declared.asks.Ask.{Ask}
use Rattle.map_asks.specs.declared.asks.Ask.TheVariants as asks
use Rattle.map_asks.specs.declared.asks.FixedPage.{FixedPage}
use Rattle.map_asks.specs.declared.faults.AskFault.{AskFault}
use Rattle.map_asks.specs.declared.asks.Layer.{Layer}
use Rattle.map_asks.specs.declared.asks.Source.{Source}
use Rattle.map_asks.specs.declared.asks.Source.TheVariants as sources
use Rattle.map_asks.specs.declared.windows.Window.{Window}
use Rattle.map_asks.specs.declared.windows.Window.TheVariants.{Nothing, Shape}
use Rattle.map_answers.specs.Answers.{AnswerData, answer_data, found}
use Rattle.map_answers.specs.Collections.{page_text}
use Rattle.map_answers.specs.Items.{feature_data, item_text}
use Rattle.map_answers.specs.Rows.{of_layer, row_of}
use Rattle.map_answers.specs.declared.answers.Answer.{Answer}
use Rattle.map_answers.specs.declared.answers.MediaType.TheVariants.{GeoJson}
use Rattle.map_pages.specs.Fixed.{fixed_text, media_of}
use Rattle.session_lines.specs.Replies.{SaidData}
use Rattle.session_lines.specs.Services.{Call}
use Rattle.map_sessions.specs.Finding.{Finds}
use Rattle.map_sessions.specs.Keeping.{IsKept, SameKept, next_number, rows_asked}
use Rattle.map_sessions.specs.Refusals.{refusal_data}
use Rattle.map_sessions.specs.declared.kept.Kept.{Kept}
use Rattle.map_sessions.specs.declared.kept.KeptRows.{KeptRows}
use Rattle.map_sessions.specs.declared.refusals.Refusal.{Refusal}
use Rattle.map_sessions.specs.declared.refusals.Refusal.TheVariants as refusals
use Rattle.map_sessions.specs.declared.visits.Host.{Host}

-- what a server answers by: its address, its grid, the classes that are collections, the page that
-- shows the map; the subject of those who do not say who they are, the keys by which it may be said,
-- and whether a proxy says it by a field of its own
pub record Place : Type 0 where
  pub base : List ℕ
  pub grid : Grid
  pub classes : List (List ℕ)
  pub map : List ℕ
  pub anonymous : Option (List ℕ)
  pub keys : List Key
  pub trusted : Bool

abbrev pub place_of : Host → Place
place_of host = record {
  base = host.site.now.base.now;
  grid = host.site.now.grid.now;
  classes = host.site.now.classes.now;
  map = host.site.now.map.now;
  anonymous = host.anonymous;
  keys = host.keys.now;
  trusted = host.trusted_field;
}

-- it may be said by a key who asks
abbrev pub is_keyed : Place → Bool
is_keyed place = not place.trusted && nat_lt 0 (length place.keys)

-- why those get nothing who do not say who they are
abbrev pub unasked : Place → Refusal
unasked place = if is_keyed place then refusals.NoCredentials else refusals.Nobody

-- the same of a page of a collection: they can have kept nothing
abbrev pub unasked_items : Place → Source → Refusal
unasked_items place (sources.Search window) = unasked place
unasked_items place (sources.Kept number after) = refusals.Gone

-- a page of an answer that is kept is asked for
abbrev pub is_kept : Source → Bool
is_kept (sources.Search window) = false
is_kept (sources.Kept number after) = true

abbrev pub asks_for_kept : Result Ask AskFault → Bool
asks_for_kept (Ok (asks.Items layer items)) = is_kept items.source
asks_for_kept _ = false

abbrev pub asks_kept : Place → List ℕ → List ℕ → Bool
asks_kept place path query = asks_for_kept (ask_of place.grid place.classes path query)

-- the query of an address, with its question mark
abbrev pub query_text : List ℕ → List ℕ
query_text [] = []
query_text (b ∷ bs) = codes "?" ++ (b ∷ bs)

-- the address of what is asked for
abbrev pub visit_address : List ℕ → List ℕ → List ℕ → List ℕ
visit_address base path query = base ++ path ++ query_text query

-- a page of the rows of a collection
abbrev pub row_page : Place → List ℕ → List ℕ → Layer → Option ℕ → Option ℕ → ℕ → List Feature
    → AnswerData
row_page place path query layer kept after limit rows =
    found GeoJson (page_text place.grid (record {
      base = place.base;
      address = visit_address place.base path query;
      layer = layer;
      rows = rows;
      kept = kept;
      after = after;
      limit = limit;
    }))

abbrev pub outcome_of : {A : Type 0} → Result (Answer A) Refusal → Result AnswerData Refusal
outcome_of (Ok answer) = Ok (answer_data answer)
outcome_of (Err refusal) = Err refusal

abbrev pub IsMemory : Refusal → Type 0
IsMemory (refusals.Memory refused) = Unit {0}
IsMemory _ = ⊥

-- the outcome is this answer, or an allocation was refused
abbrev pub MayLack : Result AnswerData Refusal → AnswerData → Type 0
MayLack (Ok given) answer = given ≡ answer
MayLack (Err refusal) answer = IsMemory refusal

-- a page of a kept answer, to who has asked for it
abbrev pub GivesKept : {A : Type 0} → Place → List ℕ → List ℕ → List ℕ → Layer → ℕ → Option ℕ → ℕ
    → List (KeptRows A) → Result AnswerData Refusal → Type 0
GivesKept place asker path query layer number after limit answers outcome =
    MatchOption (rows_asked number layer asker answers) (outcome ≡ Err refusals.Gone)
    (λ rows. MayLack outcome (row_page place path query layer (Some number) after limit rows))

-- a page of what was found, of which further pages are kept where it does not have all
abbrev pub GivesRows : {A : Type 0} → Place → List ℕ → List ℕ → List ℕ → Layer → ℕ → List Feature
    → Kept A → Kept A → Result AnswerData Refusal → Type 0
GivesRows place asker path query layer limit rows old new (Err refusal) =
    IsMemory refusal × SameKept old new
GivesRows place asker path query layer limit rows old new (Ok answer) =
    MatchBool (nat_le (length rows) limit)
    (SameKept old new × (answer ≡ row_page place path query layer None None limit rows))
    (IsKept layer asker rows old new
    × (answer ≡ row_page place path query layer (Some (next_number old.given)) None limit rows))

-- a page of a search of a window
abbrev pub GivesSearch : {S A : Type 0} → (S → Option Subject) → (Call → S → S → SaidData → Type 0)
    → Place → List ℕ → List ℕ → List ℕ → Layer → Window → ℕ → S → S → Kept A → Kept A
    → Result AnswerData Refusal → Type 0
GivesSearch subject_of serves place asker path query layer window limit service served old new outcome =
    (rows : Result (List Feature) Refusal)
    × Finds subject_of serves asker window service served rows
    × MatchResult rows
    (λ rows. GivesRows place asker path query layer limit (of_layer layer rows) old new outcome)
    (λ refusal. SameKept old new × (outcome ≡ Err refusal))

-- a page of a collection for a subject, where its rows come from
abbrev pub GivesItems : {S A : Type 0} → (S → Option Subject) → (Call → S → S → SaidData → Type 0)
    → Place → List ℕ → List ℕ → List ℕ → Layer → Source → ℕ → S → S → Kept A → Kept A
    → Result AnswerData Refusal → Type 0
GivesItems subject_of serves place asker path query layer (sources.Search window) limit service served
    old new outcome =
    GivesSearch subject_of serves place asker path query layer window limit service served old new outcome
GivesItems subject_of serves place asker path query layer (sources.Kept number after) limit service
    served old new outcome =
    (served ≡ service) × SameKept old new
    × GivesKept place asker path query layer number after limit old.answers.items outcome

-- the square of all coordinates
unfoldable pub whole_square : Result (List Point) ShapeFault
whole_square =
    polygon_of (corner (pos 0 -ℤ LIMIT) (pos 0 -ℤ LIMIT) ∷ corner LIMIT (pos 0 -ℤ LIMIT)
    ∷ corner LIMIT LIMIT ∷ corner (pos 0 -ℤ LIMIT) LIMIT
    ∷ corner (pos 0 -ℤ LIMIT) (pos 0 -ℤ LIMIT) ∷ [])

abbrev pub window_of : Result (List Point) ShapeFault → Window
window_of (Ok shape) = Shape shape
window_of (Err fault) = Nothing

-- the window of the whole map
abbrev pub whole_map : Window
whole_map = window_of whole_square

-- a feature that was found
abbrev pub row_data : Place → List ℕ → List ℕ → List ℕ → Layer → Feature → AnswerData
row_data place path query known layer row =
    feature_data known row
    (item_text place.grid place.base (visit_address place.base path query) layer row)

-- a feature of a collection, among these rows
abbrev pub GivesRow : Place → List ℕ → List ℕ → List ℕ → Layer → ℕ → List Feature
    → Result AnswerData Refusal → Type 0
GivesRow place path query known layer id rows outcome =
    MatchOption (row_of layer id rows) (outcome ≡ Err refusals.Absent)
    (λ row. MayLack outcome (row_data place path query known layer row))

-- a feature of a collection, among those that a search of the whole map lists
abbrev pub GivesItem : {S : Type 0} → (S → Option Subject) → (Call → S → S → SaidData → Type 0)
    → Place → List ℕ → List ℕ → List ℕ → List ℕ → Layer → ℕ → S → S → Result AnswerData Refusal
    → Type 0
GivesItem subject_of serves place asker path query known layer id service served outcome =
    (rows : Result (List Feature) Refusal)
    × Finds subject_of serves asker whole_map service served rows
    × MatchResult rows (λ rows. GivesRow place path query known layer id rows outcome)
    (λ refusal. outcome ≡ Err refusal)

-- a page that is the same whatever the map has
abbrev pub fixed_page : Place → FixedPage → AnswerData
fixed_page place page =
    found (media_of page) (fixed_text place.base place.grid place.classes place.map page)

-- nothing is asked of the session, and nothing kept
abbrev pub StaysOut : {S A : Type 0} → S → S → Kept A → Kept A → Result AnswerData Refusal → Refusal
    → Type 0
StaysOut service served old new outcome refusal =
    (served ≡ service) × SameKept old new × (outcome ≡ Err refusal)

-- what an ask is answered: features for a subject alone
abbrev pub Gives : {S A : Type 0} → (S → Option Subject) → (Call → S → S → SaidData → Type 0)
    → Place → Option (List ℕ) → List ℕ → List ℕ → List ℕ → Ask → S → S → Kept A → Kept A
    → Result AnswerData Refusal → Type 0
Gives subject_of serves place asker path query known (asks.Fixed page) service served old new outcome =
    (served ≡ service) × SameKept old new
    × MayLack outcome (fixed_page place page)
Gives subject_of serves place asker path query known (asks.Items layer items) service served old new
    outcome =
    MatchOption asker
    (StaysOut service served old new outcome (unasked_items place items.source))
    (λ asker. GivesItems subject_of serves place asker path query layer items.source items.limit
    service served old new outcome)
Gives subject_of serves place asker path query known (asks.Item layer id) service served old new
    outcome =
    MatchOption asker (StaysOut service served old new outcome (unasked place))
    (λ asker. SameKept old new
    × GivesItem subject_of serves place asker path query known layer id service served outcome)

-- what a request for this path with this query is answered, to a subject or to nobody
abbrev pub Answers : {S A : Type 0} → (S → Option Subject) → (Call → S → S → SaidData → Type 0)
    → Place → Option (List ℕ) → List ℕ → List ℕ → List ℕ → S → S → Kept A → Kept A
    → Result AnswerData Refusal → Type 0
Answers subject_of serves place asker path query known service served old new outcome =
    MatchResult (ask_of place.grid place.classes path query)
    (λ ask. Gives subject_of serves place asker path query known ask service served old new outcome)
    (λ fault. StaysOut service served old new outcome (refusals.Ask fault))

-- the answer that tells of an outcome
abbrev pub told : Result AnswerData Refusal → AnswerData
told (Ok answer) = answer
told (Err refusal) = refusal_data refusal

-- an answer that tells of what a request is answered
abbrev pub IsAnswered : {S A : Type 0} → (S → Option Subject) → (Call → S → S → SaidData → Type 0)
    → Place → Option (List ℕ) → List ℕ → List ℕ → List ℕ → S → S → Kept A → Kept A → AnswerData
    → Type 0
IsAnswered subject_of serves place asker path query known service served old new answer =
    (outcome : Result AnswerData Refusal) × (answer ≡ told outcome)
    × Answers subject_of serves place asker path query known service served old new outcome
