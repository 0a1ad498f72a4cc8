-- A line over a world with its index is, without the index, a line over its plain part.
use Rattle.std.proofs.Common.{ℕ, Bool, true, false, nat_lt, List, [], ◌∷◌, slice_index_or, Option, None, Some, MatchOption, Result, Ok, Err, MatchResult, sym, ap, subst}
use Rattle.std.specs.Bool.{MatchBool}
use Rattle.features.specs.Names.{name_of}
use Rattle.plain_world.specs.Events.{Done, reply_of}
use Rattle.plain_world.specs.States.{WorldData}
use Rattle.line_streams.specs.Lines.{is_too_long}
use Rattle.session_lines.specs.declared.faults.LineFault.TheVariants.{BeforeHello, LineTooLong, NoLabel}
use Rattle.session_lines.specs.declared.replies.Reply.{Reply}
use Rattle.session_lines.specs.declared.replies.Reply.TheVariants.{Error}
use Rattle.session_lines.specs.Printed.{reply_text}
use Rattle.session_lines.specs.Replies.{SaidData}
use Rattle.session_lines.proofs.DeskLemmas.{line_seen}
use Rattle.world.specs.Index.{IndexedWorld}
use Rattle.scripts.specs.declared.scripts.TheConstants.{LABEL_LIMIT}
use Rattle.scripts.specs.declared.stepping.StepCommand.{StepCommand}
use Rattle.scripts.specs.declared.stepping.StepCommand.TheVariants as commands
use Rattle.scripts.specs.declared.stepping.StepVerb.{StepVerb}
use Rattle.scripts.specs.Indexed.{AllShut, IndexedScript, LineRuns, ServesThere, Shuts, with_index, without_index}
use Rattle.scripts.specs.Scripts.{IsRefused, LabelTells, LineTells, LineTellsIn, ObeysStep, OnlyTells, Script, SessionAnswers, SessionTells, TakesPlain, TakesStep, desk_of, fresh, is_skipped, keeps_seat, place, plainly, script, with_label}
use Rattle.line_words.specs.Labels.{parts_of}
use Rattle.scripts.specs.Services.{ServesCall, solo_subject}
use Rattle.scripts.specs.States.{SessionIn, SessionState, session_in}
use Rattle.scripts.specs.Stepping.{AllDrop, Drops, step_command_at, step_verb_at}

-- what follows in each case, follows in all
bool_so : {P Q R S : Type 0} (b : Bool) → (P → R) → (Q → S) → MatchBool b P Q → MatchBool b R S
bool_so true first second h = first h
bool_so false first second h = second h

option_so : {A P R : Type 0} {Q S : A → Type 0} (o : Option A) → (P → R) → ((x : A) → Q x → S x) → MatchOption o P Q → MatchOption o R S
option_so None none some h = none h
option_so (Some x) none some h = some x h

result_so : {A E : Type 0} {P R : A → Type 0} {Q S : E → Type 0} (r : Result A E) → ((x : A) → P x → R x) → ((e : E) → Q e → S e) → MatchResult r P Q → MatchResult r R S
result_so (Ok x) ok err h = ok x h
result_so (Err e) ok err h = err e h

-- ---- a session's line

-- a session's world without its index
abbrev plain_session : SessionIn IndexedWorld → SessionIn WorldData
plain_session s = session_in s.session s.world.plain

drops_plainly : (seat number : Option ℕ) (old new : IndexedWorld) → Shuts seat number old new → Drops seat number old.plain new.plain
drops_plainly None number old new h = ap (λ (w : IndexedWorld). w.plain) h
drops_plainly (Some seat) None old new h = ap (λ (w : IndexedWorld). w.plain) h
drops_plainly (Some seat) (Some number) old new h = (reply_of (λ _. Done) h.0, h.1)

takes_plainly : (text : List ℕ) (old new : SessionIn IndexedWorld) (said : SaidData) → TakesPlain with_index text old new said → TakesPlain plainly text (plain_session old) (plain_session new) said
takes_plainly text old new said h = (
  h.0.plain,
  line_seen without_index solo_subject ServesThere ServesCall (λ call a b said h. h.0) text (desk_of old) (desk_of (session_in new.session h.0)) said h.1,
  bool_so (keeps_seat old.session.seat new.session.seat) (λ kept. (kept.0, ap (λ (w : IndexedWorld). w.plain) kept.1))
      (λ shut. (shut.0, drops_plainly old.session.seat old.session.search h.0 new.world shut.1)) h.2,
)

tells_plainly : (due : Reply) (old new : SessionIn IndexedWorld) (said : SaidData) → OnlyTells due old new said → OnlyTells due (plain_session old) (plain_session new) said
tells_plainly due old new said h = (ap plain_session h.0, h.1)

obeys_plainly : (seat : ℕ) (command : StepCommand) (old new : SessionIn IndexedWorld) (said : SaidData) → ObeysStep with_index seat command old new said
    → ObeysStep plainly seat command (plain_session old) (plain_session new) said
obeys_plainly seat (commands.Open window) old new said h = (h.0, h.1.happens, h.2, h.3)
obeys_plainly seat (commands.Step search count) old new said h = (h.0, h.1.happens, h.2, h.3)
obeys_plainly seat (commands.Finish search) old new said h = (h.0, h.1.finishes, h.2, h.3)

steps_plainly : (verb : StepVerb) (text : List ℕ) (old new : SessionIn IndexedWorld) (said : SaidData) → TakesStep with_index verb text old new said
    → TakesStep plainly verb text (plain_session old) (plain_session new) said
steps_plainly verb text old new said h =
    option_so old.session.seat (λ h. tells_plainly (Error BeforeHello) old new said h)
    (λ seat h. result_so (step_command_at old.session.search verb text) (λ command h. obeys_plainly seat command old new said h) (λ fault h. tells_plainly (Error fault) old new said h) h) h

answers_plainly : (text : List ℕ) (old new : SessionIn IndexedWorld) (said : SaidData) → SessionAnswers with_index text old new said → SessionAnswers plainly text (plain_session old) (plain_session new) said
answers_plainly text old new said h =
    (h.0, option_so (step_verb_at text) (λ h. takes_plainly text old new said h) (λ verb h. steps_plainly verb.0 verb.1 old new said h) h.1)

-- ---- a line of a script

-- a script's world without its index
abbrev plain_script : Script IndexedWorld → Script WorldData
plain_script s = script s.world.plain s.sessions

refused_plainly : (text : List ℕ) (old new : Script IndexedWorld) (said : List ℕ) → IsRefused text old new said → IsRefused text (plain_script old) (plain_script new) said
refused_plainly text old new said h = (ap plain_script h.0, h.1)

session_plainly : (label text : List ℕ) (old new : Script IndexedWorld) (said : List ℕ) → SessionTells with_index label text old new said
    → SessionTells plainly label text (plain_script old) (plain_script new) said
session_plainly label text old new said h =
    let before = slice_index_or (with_label label old.sessions) (place label old.sessions) (fresh label) in
    record { session = h.session; reply = h.reply; answers = answers_plainly text (session_in before old.world) (session_in h.session new.world) h.reply h.answers; stays = h.stays; shows = h.shows }

label_plainly : (label text : List ℕ) (old new : Script IndexedWorld) (said : List ℕ) → LabelTells with_index label text old new said → LabelTells plainly label text (plain_script old) (plain_script new) said
label_plainly label text old new said h =
    bool_so (nat_lt (place label old.sessions) LABEL_LIMIT) (λ h. session_plainly label text old new said h) (λ h. refused_plainly (reply_text (Error NoLabel)) old new said h) h

-- a line over a world with its index is a line over its plain part
pub line_plainly : (text : List ℕ) (old new : Script IndexedWorld) (said : List ℕ) → LineTellsIn with_index text old new said → LineTells text (plain_script old) (plain_script new) said
line_plainly text old new said h =
    let unlabelled : IsRefused (reply_text (Error NoLabel)) old new said → IsRefused (reply_text (Error NoLabel)) (plain_script old) (plain_script new) said =
    λ h. refused_plainly (reply_text (Error NoLabel)) old new said h in
    bool_so (is_too_long text) (λ h. refused_plainly (reply_text (Error LineTooLong)) old new said h)
    (λ h. bool_so (is_skipped text) (λ h. (ap plain_script h.0, h.1))
    (λ h. option_so (parts_of text) unlabelled
    (λ parts h. option_so (name_of parts.0) unlabelled (λ label h. label_plainly label parts.1 old new said h) h) h) h) h

-- the same with the slot that is tended after it
pub runs_plainly : (text : List ℕ) (old new : IndexedScript) (said : List ℕ) → LineRuns text old new said → LineTells text (script old.world.plain old.sessions) (script new.world.plain new.sessions) said
runs_plainly text old new said h =
    let told = line_plainly text (script old.world old.sessions) (script h.0 new.sessions) said h.1 in
    subst (λ (w : WorldData). LineTells text (script old.world.plain old.sessions) (script w new.sessions) said) (sym h.2.plain) told

-- ---- after the last line

pub all_drop_plainly : (sessions : List SessionState) (old new : IndexedWorld) → AllShut sessions old new → AllDrop sessions old.plain new.plain
all_drop_plainly [] old new h = ap (λ (w : IndexedWorld). w.plain) h
all_drop_plainly (session ∷ sessions) old new h = (h.0.plain, drops_plainly session.seat session.search old h.0 h.1, all_drop_plainly sessions h.0 new h.2)
