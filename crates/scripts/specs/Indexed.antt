-- The lines of a script over a world with its index: what they do to the index and to the walks,
-- why the index refuses them, how far STEP goes, and that a slot is tended after each line.
use Rattle.std.specs.Prelude.{◌≡◌, ℕ, List, Option, MatchOption, Result, Ok, Err, IfErr}
use Rattle.std.specs.Bool.{MatchBool}
use Rattle.plane.specs.declared.point.Point.{Point}
use Rattle.features.specs.declared.actors.Subject.{Subject}
use Rattle.plain_world.specs.Admitting.{may_go_on}
use Rattle.plain_world.specs.Answers.{AnswerData}
use Rattle.plain_world.specs.Events.{Done, DropSearch, Happens, Number, OpenSearch, Failed, Rows, Tend, Tended, reply_of}
use Rattle.plain_world.specs.declared.faults.Fault.{Fault}
use Rattle.tree_answers.specs.declared.answers.Tending.{Tending}
use Rattle.tree_answers.specs.declared.answers.Visit.{Visit}
use Rattle.world.specs.Index.{Index, IndexedWorld, slots_of}
use Rattle.world.specs.Refusing.{RefusesGrowth}
use Rattle.world.specs.Stepping.{EndsInIndex, OpensInIndex, TendsIndex}
use Rattle.world.specs.Turns.{behind}
use Rattle.session_lines.specs.Replies.{SaidData}
use Rattle.session_lines.specs.Services.{Call}
use Rattle.scripts.specs.Causes.{Causes, SeeksIn}
use Rattle.scripts.specs.Scripts.{LineTellsIn, Manner, script}
use Rattle.scripts.specs.Services.{ServesCall, is_overrun_reply, solo_subject}
use Rattle.scripts.specs.States.{SessionState, SoloIn, SoloState, solo}
use Rattle.scripts.specs.Stepping.{AllEnd, FinishesLine, GoesOn, VisitsOn}

-- a session's world without its index
abbrev pub without_index : SoloIn IndexedWorld → SoloState
without_index s = solo s.world.plain s.seat

abbrev pub asks_for : SoloIn IndexedWorld → Option Subject
asks_for s = solo_subject (without_index s)

-- what a call does to the plain world and the seat (`Serves`), and to the index (`Causes`)
abbrev pub ServesThere : Call → SoloIn IndexedWorld → SoloIn IndexedWorld → SaidData → Type 0
ServesThere call old new said = ServesCall call (without_index old) (without_index new) said
    × Causes call old.seat old.world new.world said

-- a search is opened, in the index too
pub record OpensThere (seat : ℕ) (window : List Point) (old new : IndexedWorld)
    (end : Result ℕ Fault) : Type 0 where
  pub happens : Happens (OpenSearch seat window) old.plain new.plain (reply_of Number end)
  pub index : OpensInIndex window old.index new.index end
  pub walks : new.walks ≡ old.walks

-- STEP makes as many visits as it asks for, or stops at the first one that is refused or finds no
-- more to see, and its reply is that of the last visit.
pub record GoesOnThere (seat number most : ℕ) (old new : IndexedWorld)
    (end : Result Visit Fault) : Type 0 where
  pub happens : GoesOn seat number most old.plain new.plain end
  pub index : VisitsOn (may_go_on seat number old.plain) number most old.index new.index end
  pub walks : new.walks ≡ old.walks

-- a search that ended with S7 is dropped in the index
abbrev pub DropsGivenUp : {T : Type 0} → ℕ → Index → Index → Result T Fault → Type 0
DropsGivenUp number old new (Ok x) = new ≡ old
DropsGivenUp number old new (Err fault) =
    MatchBool (is_overrun_reply (Failed fault)) ((end : Result (Unit {0}) Fault)
    × EndsInIndex number old new end) (new ≡ old)

-- FINISH, in the index: the search goes on until it is finished or refused; after S7 it is dropped
abbrev pub FinishesIn : {T : Type 0} → ℕ → ℕ → IndexedWorld → IndexedWorld → Result T Fault → Type 0
FinishesIn seat number old new result =
    (mid : Index) × SeeksIn (may_go_on seat number old.plain) number old.index mid result
    × DropsGivenUp number mid new.index result

-- FINISH goes on until the search is ready, and finishes it, in the index too.
pub record FinishesThere (seat number : ℕ) (old new : IndexedWorld)
    (end : Result AnswerData Fault) : Type 0 where
  pub finishes : FinishesLine seat number old.plain new.plain (reply_of Rows end)
  pub index : FinishesIn seat number old new end
  pub walks : new.walks ≡ old.walks

-- the open search of a session with this seat is dropped, in the index too; nothing is done if it
-- lacks either
abbrev pub Shuts : Option ℕ → Option ℕ → IndexedWorld → IndexedWorld → Type 0
Shuts at number_open old new =
    MatchOption at (new ≡ old) (λ seat.
    MatchOption number_open (new ≡ old) (λ number.
    (end : Result (Unit {0}) Fault)
    × Happens (DropSearch seat number) old.plain new.plain (reply_of (λ _. Done) end)
    × EndsInIndex number old.index new.index end × (new.walks ≡ old.walks)))

-- the open searches of all these sessions are dropped, one after another
abbrev pub AllShut : List SessionState → IndexedWorld → IndexedWorld → Type 0
AllShut sessions old new = AllEnd Shuts sessions old new

-- how a world with its index serves
abbrev pub with_index : Manner IndexedWorld
with_index = record {
  subject_of = asks_for;
  serves = ServesThere;
  opens = OpensThere;
  goes_on = GoesOnThere;
  finishes = FinishesThere;
  drops = Shuts;
}

-- a world with its index, the sessions in the order in which their labels came, and the slot to
-- tend next
pub record IndexedScript : Type 0 where
  pub world : IndexedWorld
  pub sessions : List SessionState
  pub slot : ℕ

abbrev pub indexed : IndexedWorld → List SessionState → ℕ → IndexedScript
indexed world sessions slot = record { world = world; sessions = sessions; slot = slot }

-- the slot whose turn it is is tended, unless the index refuses; the turn passes on in either case
pub record TendsNext (old : IndexedWorld) (slot : ℕ) (new : IndexedWorld) (next : ℕ) : Type 0 where
  pub plain : new.plain ≡ old.plain
  pub walks : new.walks ≡ old.walks
  pub answer : Result Tending Fault
  pub happens : Happens (Tend slot) old.plain new.plain (reply_of Tended answer)
  pub refused : IfErr answer (RefusesGrowth old.index)
  pub tends : TendsIndex old.plain slot old.index new.index answer
  pub turn : next ≡ behind slot (slots_of new.index)

-- the reply to a line and what the line leaves, over a world with its index; a slot is tended after
-- it
abbrev pub LineRuns : List ℕ → IndexedScript → IndexedScript → List ℕ → Type 0
LineRuns text old new said =
    (mid : IndexedWorld) × LineTellsIn with_index text (script old.world old.sessions)
    (script mid new.sessions) said × TendsNext mid old.slot new.world new.slot
