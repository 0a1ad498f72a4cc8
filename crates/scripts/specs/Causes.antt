-- What a session's call does to the index of a world and to the walks: why the index refuses a
-- search or a list, and that other calls change neither.
use Rattle.std.specs.Prelude.{◌≡◌, ◌⊎◌, ◌<◌, ◌+◌, ◌*◌, ℕ, zero, suc, Bool, true, false, List, Option, MatchOption, Result, Ok, Err, IfErr}
use Rattle.plane.specs.declared.point.Point.{Point}
use Rattle.features.specs.declared.rows.Change.{Change}
use Rattle.plain_world.specs.Answers.{AnswerData}
use Rattle.plain_world.specs.Admitting.{may_go_on}
use Rattle.plain_world.specs.Events.{AdvanceWalk, Advanced, Begin, Happens, Number, OpenSearch, Failed, reply_of}
use Rattle.plain_world.specs.States.{WorldData}
use Rattle.plain_world.specs.declared.faults.Fault.{Fault}
use Rattle.plain_world.specs.declared.faults.Fault.TheVariants as faults
use Rattle.plain_world.specs.declared.outcomes.Outcome.{Outcome}
use Rattle.plain_world.specs.declared.open_searches.Search.{Search as Sought}
use Rattle.plain_world.specs.declared.settings.TheConstants.{CHANGE_LIMIT, STEP_LIMIT}
use Rattle.plain_world.specs.declared.advances.Advance.{Advance}
use Rattle.plain_world.specs.declared.advances.Advance.TheVariants.{AllPlaced, Walked}
use Rattle.search_tree.specs.Calls.{IsOpen}
use Rattle.tree_answers.specs.declared.answers.Step.{Step}
use Rattle.tree_answers.specs.declared.answers.Visit.TheVariants.{Ready}
use Rattle.tree_answers.specs.declared.fault.TreeFault.TheVariants as tree
use Rattle.world.specs.Index.{Index, IndexedWorld, frames}
use Rattle.world.specs.Stepping.{EndsInIndex, VisitsIndex}
use Rattle.world.specs.Walking.{WalksOn}
use Rattle.world.specs.Walks.{JourneyData, walk_begun as with_place, walk_ended}
use Rattle.session_lines.specs.Replies.{SaidData, line, outcome_reply, rows, told}
use Rattle.session_lines.specs.Services.{Call, Hello, Search, Commit, Govern, Explain, Roll, Leave}
use Rattle.scripts.specs.States.{IsAtRest, begun}
use Rattle.scripts.specs.Stepping.{SeesMore}
use Rattle.scripts.specs.UnderWay.{under}

-- a refusal of the index
abbrev pub is_of_index : Fault → Bool
is_of_index (faults.Tree fault) = true
is_of_index _ = false

-- a refusal that is not the index's
abbrev pub IsOwn : Fault → Type 0
IsOwn fault = is_of_index fault ≡ false

-- index and walks are unchanged
abbrev pub StayBeside : IndexedWorld → IndexedWorld → Type 0
StayBeside old new = (new.index ≡ old.index) × (new.walks ≡ old.walks)

-- A search goes on from `first`: `count` visits find more to see. Then a visit is refused, and its
-- fault is the result; or the search is ready, and is finished; or, after more visits than a search
-- may make, the result is S7.
abbrev pub SeeksIn : {T : Type 0} → Result Sought Fault → ℕ → Index → Index → Result T Fault
    → Type 0
SeeksIn may number first new result =
    (count : ℕ) × (last : Index) × SeesMore may number count first last
    × (((fault : Fault) × VisitsIndex may number last new (Err fault) × (result ≡ Err fault))
    ⊎ (((mid : Index) × VisitsIndex may number last mid (Ok Ready)
    × EndsInIndex number mid new result)
    ⊎ ((STEP_LIMIT < count) × (new ≡ last) × (result ≡ Err (faults.Tree tree.Overrun)))))

-- a search that was refused is dropped in the index
abbrev pub DropsRefused : {T : Type 0} → ℕ → Index → Index → Result T Fault → Type 0
DropsRefused number old new (Ok x) = new ≡ old
DropsRefused number old new (Err fault) =
    (end : Result (Unit {0}) Fault) × EndsInIndex number old new end

-- A whole search. If the world refuses to open it, index and walks are unchanged.
abbrev pub SearchesIn : {T : Type 0} → ℕ → List Point → IndexedWorld → IndexedWorld → Result T Fault
    → Type 0
SearchesIn seat window old new result =
    ((fault : Fault) × (result ≡ Err fault)
    × Happens (OpenSearch seat window) old.plain new.plain (Failed fault) × StayBeside old new)
    ⊎ ((number : ℕ) × (first : IndexedWorld)
    × Happens (OpenSearch seat window) old.plain first.plain (Number number)
    × IsOpen frames old.index first.index window number
    × (mid : Index) × SeeksIn (may_go_on seat number first.plain) number first.index mid result
    × DropsRefused number mid new.index result × (new.walks ≡ old.walks))

-- a step of a transaction's walk, with the step of the index
abbrev pub AdvancesIn : ℕ → ℕ → IndexedWorld → IndexedWorld → Result Advance Fault → Type 0
AdvancesIn seat number old new result =
    Happens (AdvanceWalk seat number) old.plain new.plain (reply_of Advanced result)
    × WalksOn seat number old new result

-- `count` steps of a transaction's walks, one after another
abbrev pub WalksMore : ℕ → ℕ → ℕ → IndexedWorld → IndexedWorld → Type 0
WalksMore seat number zero old new = new ≡ old
WalksMore seat number (suc count) old new =
    (mid : IndexedWorld) × (step : Step) × WalksMore seat number count old mid
    × AdvancesIn seat number mid new (Ok (Walked step))

-- The walks of a list go on from `first`: `count` steps are made. Then all is placed; or the next
-- step is refused, and its fault is the result; or, after more steps than the walks of a list may
-- make, the result is S7.
abbrev pub PlacesIn : ℕ → ℕ → IndexedWorld → IndexedWorld → Result (Unit {0}) Fault → Type 0
PlacesIn seat number first new result =
    (count : ℕ) × (last : IndexedWorld) × WalksMore seat number count first last
    × ((AdvancesIn seat number last new (Ok AllPlaced) × (result ≡ Ok tt))
    ⊎ (((fault : Fault) × AdvancesIn seat number last new (Err fault) × (result ≡ Err fault))
    ⊎ ((CHANGE_LIMIT * (STEP_LIMIT + 1) < count) × (new ≡ last)
    × (result ≡ Err (faults.Tree tree.Overrun)))))

-- the changes are staged in a transaction of this world, none of them is placed, and index and
-- walks are these
pub record IsStaged (seat number : ℕ) (changes : List Change) (plain : WorldData) (index : Index)
    (walks : List JourneyData) (first : IndexedWorld) : Type 0 where
  pub stands : first.plain ≡ under number seat changes 0 plain
  pub index_is : first.index ≡ index
  pub walks_are : first.walks ≡ walks

-- how a list ends after its walks: a refusal of theirs is passed on, and no other one is the
-- index's
abbrev pub EndsSo : {T : Type 0} → Result (Unit {0}) Fault → Result T Fault → Type 0
EndsSo (Ok u) result = IfErr result IsOwn
EndsSo (Err fault) result = result ≡ Err fault

-- the walks after a transaction's place is removed `count` times (once is enough)
abbrev pub let_go : ℕ → ℕ → List JourneyData → List JourneyData
let_go zero number walks = walks
let_go (suc count) number walks = walk_ended number (let_go count number walks)

-- nothing is removed from the walks but this transaction's place
abbrev pub LetsGo : ℕ → List JourneyData → List JourneyData → Type 0
LetsGo number old new = (count : ℕ) × (new ≡ let_go count number old)

-- the list is staged, its walks end with `placed`, and nothing but its transaction's place is
-- removed from the walks
abbrev pub ConcludesIn : {T : Type 0} → ℕ → ℕ → List Change → WorldData → Index → List JourneyData
    → IndexedWorld → Result T Fault → Type 0
ConcludesIn seat number changes plain index walks new result =
    (first : IndexedWorld) × IsStaged seat number changes plain index walks first
    × (mid : IndexedWorld) × (placed : Result (Unit {0}) Fault)
    × PlacesIn seat number first mid placed × EndsSo placed result
    × (new.index ≡ mid.index) × LetsGo number mid.walks new.walks

-- A whole commit, in a world at rest. If the world refuses to begin its transaction, index and
-- walks are unchanged.
abbrev pub CommitsIn : {T : Type 0} → ℕ → List Change → IndexedWorld → IndexedWorld → Result T Fault
    → Type 0
CommitsIn seat changes old new result =
    ((fault : Fault) × (result ≡ Err fault)
    × Happens (Begin seat) old.plain new.plain (Failed fault) × StayBeside old new)
    ⊎ (let number = old.plain.next_transaction in ConcludesIn seat number changes (begun old.plain)
    old.index (with_place number old.walks) new result)

-- What a call does to index and walks. Before HELLO, and for any call but a search or a commit,
-- both are unchanged.
abbrev pub Causes : Call → Option ℕ → IndexedWorld → IndexedWorld → SaidData → Type 0
Causes (Search window) seat old new said =
    MatchOption seat (StayBeside old new) (λ seat. (end : Result AnswerData Fault)
    × SearchesIn seat window old new end × (said ≡ told rows end))
Causes (Commit changes) seat old new said =
    MatchOption seat (StayBeside old new) (λ seat.
    (end : Result Outcome Fault) × (IsAtRest old.plain → CommitsIn seat changes old new end)
    × (said ≡ told (λ outcome. line (outcome_reply outcome)) end))
Causes (Hello name) seat old new said = StayBeside old new
Causes (Govern document) seat old new said = StayBeside old new
Causes (Explain question) seat old new said = StayBeside old new
Causes Roll seat old new said = StayBeside old new
Causes Leave seat old new said = StayBeside old new
