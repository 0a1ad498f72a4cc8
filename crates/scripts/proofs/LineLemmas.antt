-- What a line of a script does to the open searches: it leaves at rest a world that was at rest,
-- and each open search is one that a session of the script has open.
use Rattle.std.proofs.Common.{◌≡◌, ◌⊎◌, ℕ, ◌+◌, ◌<◌, ◌≤◌, ◌==◌, Bool, true, false, nat_eq, nat_lt, List, [], ◌∷◌, ◌++◌, length, slice_set, slice_index_or, Option, None, Some, MatchOption, Result, Ok, Err, MatchResult, if◌then◌else◌, refl, sym, ap, subst, ◌∙◌, inl, inr, arith, length-append}
use Rattle.std.specs.Bool.{MatchBool}
use Rattle.std.specs.Cmp.Lexicographic.{pointwise}
use Rattle.std.proofs.lemmas.Bool.Decides.{nat_tests}
use Rattle.plane.specs.declared.point.Point.{Point}
use Rattle.features.specs.Names.{name_of}
use Rattle.features.specs.declared.actors.Subject.{Subject}
use Rattle.audit_trail.specs.Legal.{subject_of}
use Rattle.plain_world.specs.declared.faults.Fault.{Fault as WorldFault}
use Rattle.plain_world.specs.declared.faults.Fault.TheVariants as refusals
use Rattle.tree_answers.specs.declared.fault.TreeFault.TheVariants as tree
use Rattle.plain_world.specs.declared.open_searches.Search.{Search}
use Rattle.tree_answers.specs.declared.answers.Visit.{Visit}
use Rattle.tree_answers.specs.declared.answers.Visit.TheVariants as visits
use Rattle.plain_world.specs.Answers.{AnswerData}
use Rattle.plain_world.specs.Events.{OpenSearch, VisitNext, DropSearch, Happens, Reply as EventReply, Number, Visited, Rows, Failed, reply_of}
use Rattle.plain_world.specs.States.{WorldData}
use Rattle.plain_world.proofs.RefusalLemmas.{leaves}
use Rattle.plain_world.proofs.RunLemmas.{given_ok}
use Rattle.session_lines.specs.declared.faults.LineFault.{LineFault}
use Rattle.session_lines.specs.declared.faults.LineFault.TheVariants.{BeforeHello, LineTooLong, NoLabel}
use Rattle.session_lines.specs.declared.replies.Reply.{Reply}
use Rattle.session_lines.specs.declared.replies.Reply.TheVariants.{Error}
use Rattle.scripts.specs.declared.scripts.TheConstants.{LABEL_LIMIT}
use Rattle.scripts.specs.declared.stepping.StepCommand.{StepCommand}
use Rattle.scripts.specs.declared.stepping.StepCommand.TheVariants as commands
use Rattle.scripts.specs.declared.stepping.StepVerb.{StepVerb}
use Rattle.scripts.specs.declared.stepping.StepVerb.TheVariants as verbs
use Rattle.session_lines.specs.Commands.{◌>>=◌, end_at, shape_at}
use Rattle.line_streams.specs.declared.streams.ServeFault.{ServeFault}
use Rattle.line_streams.specs.Lines.{is_too_long}
use Rattle.session_lines.specs.Printed.{reply_text}
use Rattle.session_lines.specs.Replies.{SaidData}
use Rattle.scripts.specs.Scripts.{Script, Ends, IsRefused, LabelTells, LineTells, ObeysStep, OnlyTells, Opens, SessionAnswers, SessionTells, Steps, TakesPlain, TakesStep, desk_of, fresh, is_skipped, keeps_seat, place, plainly, script, with_label}
use Rattle.line_words.specs.Labels.{parts_of}
use Rattle.scripts.specs.Services.{ServesCall, is_overrun_reply, solo_subject}
use Rattle.session_lines.specs.Services.{no_keys}
use Rattle.session_lines.specs.Serving.{IsPassedOver, DeskTells as AloneTells, Replies}
use Rattle.session_lines.specs.Desks.{Desk}
use Rattle.scripts.specs.States.{IsAtRest, IsIdle, SessionIn, SessionState, SoloState, session_in}
use Rattle.scripts.specs.Stepping.{AllDrop, Drops, FindsMore, FinishesLine, GoesOn, Seeks, count_at, finished_as, left_open, opened_as, step_command_at, step_verb_at, stepped_as}
use Rattle.line_streams.specs.Streams.{NeverEnds, Ran}
use Rattle.line_streams.specs.declared.streams.Next.{Next}
use Rattle.session_lines.proofs.DeskLemmas.{line_keeps}
use Rattle.scripts.proofs.HeldLemmas.{AllStay, AreGone, AreHeld, Goes, all_dropped, all_stay, drop_goes, drop_gone, drop_rests, drops_goes, drops_gone, drops_rest, event_rests, finish_goes, finish_gone, finish_rests, goes_same, goes_then, gone_stay, held_more, held_push, held_pushed, held_set, overrun_gone, set_has, visit_goes, visit_rests}
use Rattle.scripts.proofs.KeepLemmas.{Rests, call_rests, idle_rests, rests_none}
use Rattle.line_streams.proofs.StreamLemmas.{run_keeps}
use Rattle.scripts.proofs.SearchLemmas.{opened}
use Rattle.scripts.proofs.StepLemmas.{finds_same}

-- what a line of one session does to the world and to what that session has open, whatever other
-- sessions there are
pub record Moves (before after : SessionState) (old new : WorldData) : Type 0 where
  pub rests : IsAtRest old → IsAtRest new
  pub held : (xs : List SessionState) (at : ℕ) (d : SessionState) → slice_index_or xs at d ≡ before → at < length xs → IsAtRest old → AreHeld old.seats xs old.searches
      → AreHeld new.seats (slice_set xs at after) new.searches

moves_goes : (before after : SessionState) (old new : WorldData) → (IsAtRest old → IsAtRest new) → Goes old new
    → ((xs : List SessionState) → IsAtRest old → AreHeld old.seats xs old.searches → AllStay before after new.searches) → Moves before after old new
moves_goes before after old new rests goes stay =
    record {
      rests = rests;
      held = λ xs at d e lt still h. subst (λ (seats : List Subject). AreHeld seats (slice_set xs at after) new.searches) (sym goes.seats)
          (held_set old.seats xs at d before after new.searches e (stay xs still h) (goes.held old.seats xs h));
    }

stay_same : (before after : SessionState) (ss : List Search) → after.seat ≡ before.seat → after.search ≡ before.search → AllStay before after ss
stay_same before after ss seat search = all_stay before after (λ at number has. (seat ∙ has.0, search ∙ has.1)) ss

-- the world is unchanged, and the session keeps its seat and its search
moves_none : (before after : SessionState) (old new : WorldData) → after.seat ≡ before.seat → after.search ≡ before.search → new ≡ old → Moves before after old new
moves_none before after old new seat search e =
    moves_goes before after old new (λ still. subst (λ (w : WorldData). IsAtRest w) (sym e) still) (goes_same old new e) (λ xs still h. stay_same before after new.searches seat search)

tells_moves : (due : Reply) (old new : SessionIn WorldData) (said : SaidData) → OnlyTells due old new said → Moves old.session new.session old.world new.world
tells_moves due old new said h =
    moves_none old.session new.session old.world new.world (ap (λ (x : SessionIn WorldData). x.session.seat) h.0) (ap (λ (x : SessionIn WorldData). x.session.search) h.0)
    (ap (λ (x : SessionIn WorldData). x.world) h.0)

-- ---- lines other than OPEN, STEP and FINISH

seat_kept : (a b : Option ℕ) → keeps_seat a b ≡ true → b ≡ a
seat_kept (Some a) (Some b) e = let same : b ≡ a = grind (arith, nat_tests, e) in ap (λ (n : ℕ). Some n) same
seat_kept (Some a) None e = absurd cc
seat_kept None b e = absurd cc

plain_moves : (text : List ℕ) (old new : SessionState) (old_world new_world : WorldData) (said : SaidData) → TakesPlain plainly text (session_in old old_world) (session_in new new_world) said → Moves old new old_world new_world
plain_moves text old new old_world new_world said h = go (keeps_seat old.seat new.seat) refl h.2
  where
    mid : WorldData
    mid = h.0

    served : Rests old_world mid
    served =
        line_keeps solo_subject ServesCall (λ a b. Rests a.world b.world) (λ s. rests_none s.world) call_rests text (desk_of (session_in old old_world)) (desk_of (session_in new mid)) said h.1

    held_mid : (xs : List SessionState) → IsAtRest old_world → AreHeld old_world.seats xs old_world.searches → AreHeld mid.seats xs mid.searches
    held_mid xs still held =
        let left = (served still).1 in
        subst (λ (seats : List Subject). AreHeld seats xs mid.searches) (sym left.seats)
        (subst (λ (ss : List Search). AreHeld (old_world.seats ++ left.more) xs ss) (sym left.searches)
        (held_more old_world.seats left.more xs xs old_world.searches (λ seat number has. has) held))

    go : (b : Bool) → keeps_seat old.seat new.seat ≡ b → MatchBool b ((new.search ≡ old.search) × (new_world ≡ mid)) ((new.search ≡ None) × Drops old.seat old.search mid new_world)
        → Moves old new old_world new_world
    go true e d =
        record {
          rests = λ still. subst (λ (w : WorldData). IsAtRest w) (sym d.1) (served still).0;
          held = λ xs at x is lt still held. subst (λ (w : WorldData). AreHeld w.seats (slice_set xs at new) w.searches) (sym d.1)
              (held_set mid.seats xs at x old new mid.searches is (stay_same old new mid.searches (seat_kept old.seat new.seat e) d.0) (held_mid xs still held));
        }
    go false e d =
        let goes = drops_goes old.seat old.search mid new_world d.1 in
        record {
          rests = λ still. drops_rest old.seat old.search mid new_world d.1 (served still).0;
          held = λ xs at x is lt still held. subst (λ (seats : List Subject). AreHeld seats (slice_set xs at new) new_world.searches) (sym goes.seats)
              (held_set mid.seats xs at x old new new_world.searches is
              (gone_stay old new new_world.searches (drops_gone old.seat old.search xs mid new_world d.1 (served still).0 (held_mid xs still held)))
              (goes.held mid.seats xs (held_mid xs still held)));
        }

-- ---- OPEN, STEP and FINISH

-- a command of a session with this open search, or with none
abbrev IsOfOpen : Option ℕ → StepCommand → Type 0
IsOfOpen search (commands.Open window) = search ≡ None
IsOfOpen search (commands.Step number count) = search ≡ Some number
IsOfOpen search (commands.Finish number) = search ≡ Some number

abbrev AsksOpen : Option ℕ → Result StepCommand LineFault → Type 0
AsksOpen search (Ok command) = IsOfOpen search command
AsksOpen search (Err fault) = Unit {0}

-- words that are read first may have a fault of their own
read_first : {A : Type 0} (search : Option ℕ) (r : Result A LineFault) (f : A → Result StepCommand LineFault) → ((x : A) → AsksOpen search (f x)) → AsksOpen search (r >>= f)
read_first search (Ok x) f h = h x
read_first search (Err fault) f h = tt

-- the command that is read is for the search that is open
asks_open : (search : Option ℕ) (verb : StepVerb) (text : List ℕ) → AsksOpen search (step_command_at search verb text)
unfolding step_command_at
asks_open None verbs.Open text = read_first None (shape_at text) (λ window. Ok (commands.Open window)) (λ window. refl)
asks_open None verbs.Step text = tt
asks_open None verbs.Finish text = tt
asks_open (Some search) verbs.Open text = tt
asks_open (Some search) verbs.Step text = read_first (Some search) (count_at text) (λ count. Ok (commands.Step search count)) (λ count. refl)
asks_open (Some search) verbs.Finish text = read_first (Some search) (end_at text) (λ u. Ok (commands.Finish search)) (λ u. refl)

module _ (seat : ℕ) (old new : SessionState) (old_world new_world : WorldData) (seated : old.seat ≡ Some seat) where
  open_moves : (window : List Point) (said : SaidData) → old.search ≡ None → Opens plainly seat window (session_in old old_world) (session_in new new_world) said → Moves old new old_world new_world
  open_moves window said none h = go h.0 h.1 h.2
    where
      go : (end : Result ℕ WorldFault) → Happens (OpenSearch seat window) old_world new_world (reply_of Number end) → new ≡ record old { search = opened_as end } → Moves old new old_world new_world
      go (Ok number) h e =
          let o = opened seat window old_world new_world number h in
          let one : Search = record { number = number; seat = seat; window = window; ready = false } in
          record {
            rests = λ still. event_rests (OpenSearch seat window) old_world new_world (Number number) h (ap (λ (w : WorldData). w.transactions) o.stands) still;
            held = λ xs at d is lt still held. subst (λ (w : WorldData). AreHeld w.seats (slice_set xs at new) w.searches) (sym o.stands)
                (held_push old_world.seats (slice_set xs at new) old_world.searches one
                (held_set old_world.seats xs at d old new old_world.searches is
                (all_stay old new (λ seat number has. (let wrong = sym none ∙ has.1 in absurd cc)) old_world.searches) held) (
                  (o.subject, given_ok (subject_of seat old_world.seats) o.subject o.seated),
                  set_has xs at new seat number lt (ap (λ (x : SessionState). x.seat) e ∙ seated, ap (λ (x : SessionState). x.search) e),
                ));
          }
      go (Err fault) h e =
          moves_none old new old_world new_world (ap (λ (x : SessionState). x.seat) e) (ap (λ (x : SessionState). x.search) e ∙ sym none)
          (leaves (OpenSearch seat window) old_world new_world fault h)

  -- after a fault the search is open, or the fault was S7
  left_cases : (fault : WorldFault) (number : ℕ) → (left_open fault number ≡ Some number) ⊎ (fault ≡ refusals.Tree tree.Overrun)
  left_cases (refusals.Tree tree.Overrun) number = inr refl
  left_cases _ number = inl refl

  module _ (number : ℕ) (opened_it : old.search ≡ Some number) where
    -- the search is gone, and the session has none
    gone_here : AreGone (Some seat) (Some number) new_world.searches → AllStay old new new_world.searches
    gone_here gone =
        gone_stay old new new_world.searches
        (subst (λ (at : Option ℕ). AreGone at old.search new_world.searches) (sym seated)
        (subst (λ (o : Option ℕ). AreGone (Some seat) o new_world.searches) (sym opened_it) gone))

    -- a visit that is not answered More
    visit_moves : (reply : EventReply) → Happens (VisitNext seat number) old_world new_world reply → AllStay old new new_world.searches → Moves old new old_world new_world
    visit_moves reply h stay =
        moves_goes old new old_world new_world (visit_rests seat number old_world new_world reply h) (visit_goes seat number old_world new_world reply h) (λ xs still held. stay)

    step_moves : (count : ℕ) (said : SaidData) → Steps plainly seat number count (session_in old old_world) (session_in new new_world) said → Moves old new old_world new_world
    step_moves count said h = go h.0 h.1 h.2
      where
        from_here : (reply : EventReply) (before : ℕ) (mid : WorldData) → FindsMore seat number before old_world mid → Happens (VisitNext seat number) mid new_world reply → Happens (VisitNext seat number) old_world new_world reply
        from_here reply before mid more h = subst (λ (w : WorldData). Happens (VisitNext seat number) w new_world reply) (finds_same seat number before old_world mid more) h

        refused : (fault : WorldFault) → Happens (VisitNext seat number) old_world new_world (Failed fault) → new ≡ record old { search = left_open fault number } → Moves old new old_world new_world
        refused fault h e = cases (left_cases fault number)
          where
            cases : (left_open fault number ≡ Some number) ⊎ (fault ≡ refusals.Tree tree.Overrun) → Moves old new old_world new_world
            cases (inl stays) =
                visit_moves (Failed fault) h
                (stay_same old new new_world.searches (ap (λ (x : SessionState). x.seat) e) (ap (λ (x : SessionState). x.search) e ∙ stays ∙ sym opened_it))
            cases (inr over) =
                visit_moves (Failed fault) h
                (gone_here (overrun_gone (Some seat) seat number old_world new_world (subst (λ (f : WorldFault). Happens (VisitNext seat number) old_world new_world (Failed f)) over h)))

        go : (end : Result Visit WorldFault) → GoesOn seat number count old_world new_world end → new ≡ record old { search = stepped_as end number } → Moves old new old_world new_world
        go (Ok visits.More) h e =
            moves_none old new old_world new_world (ap (λ (x : SessionState). x.seat) e) (ap (λ (x : SessionState). x.search) e ∙ sym opened_it) (finds_same seat number count old_world new_world h)
        go (Ok visits.Ready) h e =
            visit_moves (Visited visits.Ready) (from_here (Visited visits.Ready) h.0 h.1 h.3 h.4)
            (stay_same old new new_world.searches (ap (λ (x : SessionState). x.seat) e) (ap (λ (x : SessionState). x.search) e ∙ sym opened_it))
        go (Err fault) h e = refused fault (from_here (Failed fault) h.0 h.1 h.3 h.4) e

    -- the search goes on towards its end
    seeks_goes : (mid : WorldData) (reply : EventReply) → Seeks seat number old_world mid reply → Goes old_world mid × (IsAtRest old_world → IsAtRest mid)
    seeks_goes mid reply (inl (fault, h, e)) = (visit_goes seat number old_world mid (Failed fault) h, visit_rests seat number old_world mid (Failed fault) h)
    seeks_goes mid reply (inr (inl (ready, h, f))) = (
      goes_then old_world ready mid (visit_goes seat number old_world ready (Visited visits.Ready) h) (finish_goes seat number ready mid reply f),
      λ still. finish_rests seat number ready mid reply f (visit_rests seat number old_world ready (Visited visits.Ready) h still),
    )
    seeks_goes mid reply (inr (inr (more, e, r))) = (goes_same old_world mid e, λ still. subst (λ (w : WorldData). IsAtRest w) (sym e) still)

    seeks_gone : (mid : WorldData) (answer : AnswerData) → Seeks seat number old_world mid (Rows answer) → AreGone (Some seat) (Some number) mid.searches
    seeks_gone mid answer (inl (fault, h, e)) = absurd cc
    seeks_gone mid answer (inr (inl (ready, h, f))) = finish_gone (Some seat) seat number ready mid answer f
    seeks_gone mid answer (inr (inr (more, e, r))) = absurd cc

    end_moves : (said : SaidData) → Ends plainly seat number (session_in old old_world) (session_in new new_world) said → Moves old new old_world new_world
    end_moves said h = go h.0 h.1 h.2
      where
        answered : (answer : AnswerData) → FinishesLine seat number old_world new_world (Rows answer) → Moves old new old_world new_world
        answered answer (mid, seeks, same) =
            let goes = seeks_goes mid (Rows answer) seeks in
            moves_goes old new old_world new_world (λ still. subst (λ (w : WorldData). IsAtRest w) (sym same) (goes.1 still)) (goes_then old_world mid new_world goes.0 (goes_same mid new_world same))
            (λ xs still held. gone_here (subst (λ (w : WorldData). AreGone (Some seat) (Some number) w.searches) (sym same) (seeks_gone mid answer seeks)))

        given_up : (mid : WorldData) → Seeks seat number old_world mid (Failed (refusals.Tree tree.Overrun)) → (said : EventReply) → Happens (DropSearch seat number) mid new_world said → Moves old new old_world new_world
        given_up mid seeks said d =
            let goes = seeks_goes mid (Failed (refusals.Tree tree.Overrun)) seeks in
            moves_goes old new old_world new_world (λ still. drop_rests seat number mid new_world said d (goes.1 still)) (goes_then old_world mid new_world goes.0 (drop_goes seat number mid new_world said d))
            (λ xs still held. gone_here (drop_gone seat number xs mid new_world said d (goes.1 still)
            (subst (λ (seats : List Subject). AreHeld seats xs mid.searches) (sym goes.0.seats) (goes.0.held old_world.seats xs held))))

        stays_open : (fault : WorldFault) → FinishesLine seat number old_world new_world (Failed fault) → left_open fault number ≡ Some number → new ≡ record old { search = left_open fault number } → Moves old new old_world new_world
        stays_open fault (mid, seeks, rest) stays e =
            let goes = seeks_goes mid (Failed fault) seeks in
            let later = ends (is_overrun_reply (Failed fault)) rest in
            moves_goes old new old_world new_world (λ still. later.1 (goes.1 still)) (goes_then old_world mid new_world goes.0 later.0)
            (λ xs still held. stay_same old new new_world.searches (ap (λ (x : SessionState). x.seat) e) (ap (λ (x : SessionState). x.search) e ∙ stays ∙ sym opened_it))
          where
            ends : (b : Bool) → MatchBool b ((end : EventReply) × Happens (DropSearch seat number) mid new_world end) (new_world ≡ mid) → Goes mid new_world × (IsAtRest mid → IsAtRest new_world)
            ends true d = (drop_goes seat number mid new_world d.0 d.1, drop_rests seat number mid new_world d.0 d.1)
            ends false d = (goes_same mid new_world d, λ still. subst (λ (w : WorldData). IsAtRest w) (sym d) still)

        go : (end : Result AnswerData WorldFault) → FinishesLine seat number old_world new_world (reply_of Rows end) → new ≡ record old { search = finished_as end number } → Moves old new old_world new_world
        go (Ok answer) h e = answered answer h
        go (Err fault) h e = cases (left_cases fault number)
          where
            over_so : FinishesLine seat number old_world new_world (Failed (refusals.Tree tree.Overrun)) → Moves old new old_world new_world
            over_so (mid, seeks, d) = given_up mid seeks d.0 d.1

            cases : (left_open fault number ≡ Some number) ⊎ (fault ≡ refusals.Tree tree.Overrun) → Moves old new old_world new_world
            cases (inl stays) = stays_open fault h stays e
            cases (inr over) = over_so (subst (λ (f : WorldFault). FinishesLine seat number old_world new_world (Failed f)) over h)

  obeys_moves : (command : StepCommand) (said : SaidData) → IsOfOpen old.search command → ObeysStep plainly seat command (session_in old old_world) (session_in new new_world) said → Moves old new old_world new_world
  obeys_moves (commands.Open window) said is h = open_moves window said is h
  obeys_moves (commands.Step search count) said is h = step_moves search is count said h
  obeys_moves (commands.Finish search) said is h = end_moves search is said h

takes_moves : (verb : StepVerb) (text : List ℕ) (old new : SessionIn WorldData) (said : SaidData) → TakesStep plainly verb text old new said → Moves old.session new.session old.world new.world
takes_moves verb text old new said h = go old.session.seat refl h
  where
    read : (seat : ℕ) → old.session.seat ≡ Some seat → (r : Result StepCommand LineFault) → AsksOpen old.session.search r
        → MatchResult r (λ command. ObeysStep plainly seat command old new said) (λ fault. OnlyTells (Error fault) old new said) → Moves old.session new.session old.world new.world
    read seat seated (Ok command) is h = obeys_moves seat old.session new.session old.world new.world seated command said is h
    read seat seated (Err fault) is h = tells_moves (Error fault) old new said h

    go : (o : Option ℕ) → old.session.seat ≡ o → MatchOption o (OnlyTells (Error BeforeHello) old new said)
        (λ seat. MatchResult (step_command_at old.session.search verb text) (λ command. ObeysStep plainly seat command old new said) (λ fault. OnlyTells (Error fault) old new said))
        → Moves old.session new.session old.world new.world
    go None e h = tells_moves (Error BeforeHello) old new said h
    go (Some seat) e h = read seat e (step_command_at old.session.search verb text) (asks_open old.session.search verb text) h

session_moves : (text : List ℕ) (old new : SessionIn WorldData) (said : SaidData) → SessionAnswers plainly text old new said → Moves old.session new.session old.world new.world
session_moves text old new said h = go (step_verb_at text) h.1
  where
    go : (o : Option (StepVerb × List ℕ)) → MatchOption o (TakesPlain plainly text old new said) (λ verb. TakesStep plainly verb.0 verb.1 old new said) → Moves old.session new.session old.world new.world
    go None h = plain_moves text old.session new.session old.world new.world said h
    go (Some verb) h = takes_moves verb.0 verb.1 old new said h

-- ---- lines of a script

-- a line is answered by a session, or leaves the script unchanged
module _ (P : Script WorldData → Script WorldData → Type 0) (same : (s : Script WorldData) → P s s)
    (tells : (label text : List ℕ) (old new : Script WorldData) (said : List ℕ) → SessionTells plainly label text old new said → P old new) where
  refused_by : (text : List ℕ) (old new : Script WorldData) (said : List ℕ) → IsRefused text old new said → P old new
  refused_by text old new said h = subst (λ (s : Script WorldData). P old s) (sym h.0) (same old)

  label_by : (label text : List ℕ) (old new : Script WorldData) (said : List ℕ) → LabelTells plainly label text old new said → P old new
  label_by label text old new said h = go (nat_lt (place label old.sessions) LABEL_LIMIT) h
    where
      go : (b : Bool) → MatchBool b (SessionTells plainly label text old new said) (IsRefused (reply_text (Error NoLabel)) old new said) → P old new
      go true h = tells label text old new said h
      go false h = refused_by (reply_text (Error NoLabel)) old new said h

  line_by : (text : List ℕ) (old new : Script WorldData) (said : List ℕ) → LineTells text old new said → P old new
  line_by text old new said h = long (is_too_long text) h
    where
      named : (n : Option (List ℕ)) (rest : List ℕ) → MatchOption n (IsRefused (reply_text (Error NoLabel)) old new said) (λ label. LabelTells plainly label rest old new said) → P old new
      named None rest h = refused_by (reply_text (Error NoLabel)) old new said h
      named (Some label) rest h = label_by label rest old new said h

      parted : (p : Option (List ℕ × List ℕ)) → MatchOption p (IsRefused (reply_text (Error NoLabel)) old new said)
          (λ parts. MatchOption (name_of parts.0) (IsRefused (reply_text (Error NoLabel)) old new said) (λ label. LabelTells plainly label parts.1 old new said)) → P old new
      parted None h = refused_by (reply_text (Error NoLabel)) old new said h
      parted (Some parts) h = named (name_of parts.0) parts.1 h

      skipped : (b : Bool) → MatchBool b ((new ≡ old) × (said ≡ [])) (MatchOption (parts_of text) (IsRefused (reply_text (Error NoLabel)) old new said)
          (λ parts. MatchOption (name_of parts.0) (IsRefused (reply_text (Error NoLabel)) old new said) (λ label. LabelTells plainly label parts.1 old new said))) → P old new
      skipped true h = subst (λ (s : Script WorldData). P old s) (sym h.0) (same old)
      skipped false h = parted (parts_of text) h

      long : (b : Bool) → MatchBool b (IsRefused (reply_text (Error LineTooLong)) old new said) (MatchBool (is_skipped text) ((new ≡ old) × (said ≡ []))
          (MatchOption (parts_of text) (IsRefused (reply_text (Error NoLabel)) old new said)
          (λ parts. MatchOption (name_of parts.0) (IsRefused (reply_text (Error NoLabel)) old new said) (λ label. LabelTells plainly label parts.1 old new said)))) → P old new
      long true h = refused_by (reply_text (Error LineTooLong)) old new said h
      long false h = skipped (is_skipped text) h

-- a world at rest stays at rest after a line
pub line_rests : (text : List ℕ) (old new : Script WorldData) (said : List ℕ) → LineTells text old new said → IsAtRest old.world → IsAtRest new.world
line_rests =
    line_by (λ old new. IsAtRest old.world → IsAtRest new.world) (λ s still. still)
    (λ label text old new said h. (session_moves text (session_in (slice_index_or (with_label label old.sessions) (place label old.sessions) (fresh label)) old.world) (session_in h.session new.world) h.reply h.answers).rests)

-- the same for a session by itself
pub alone_rests : (text : List ℕ) (old new : Desk SoloState) (said : List ℕ) (next : Next) → AloneTells no_keys solo_subject ServesCall text old new said next → IsAtRest old.service.world → IsAtRest new.service.world
alone_rests text old new said next h still = go (is_too_long text) h
  where
    go : (b : Bool) → MatchBool b (IsPassedOver old new said next) (Replies no_keys solo_subject ServesCall text old new said next) → IsAtRest new.service.world
    go true d = subst (λ (d : Desk SoloState). IsAtRest d.service.world) (sym d.0) still
    go false d =
        (line_keeps solo_subject ServesCall (λ a b. Rests a.world b.world) (λ s. rests_none s.world) call_rests text old new d.reply d.answers still).0

-- a world at rest, whose searches the sessions have open
pub record IsKept (s : Script WorldData) : Type 0 where
  pub rests : IsAtRest s.world
  pub held : AreHeld s.world.seats s.sessions s.world.searches

place_le : (label : List ℕ) (xs : List SessionState) → place label xs ≤ length xs
place_le label [] = omega arith
place_le label (x ∷ xs) = go (pointwise nat_eq x.label label) (place_le label xs)
  where
    go : (b : Bool) → place label xs ≤ length xs → (if b then 0 else place label xs + 1) ≤ length (x ∷ xs)
    go true le = omega arith
    go false le = omega (arith, le)

place_within : (label : List ℕ) (xs : List SessionState) → place label xs < length (with_label label xs)
place_within label xs = go (place label xs == length xs) refl
  where
    go : (b : Bool) → (place label xs == length xs) ≡ b → place label xs < length (if b then xs ++ fresh label ∷ [] else xs)
    go true e = let more : length (xs ++ fresh label ∷ []) ≡ length xs + 1 = length-append xs (fresh label ∷ []) in grind (arith, nat_tests, e, more)
    go false e = let le = place_le label xs in grind (arith, nat_tests, e, le)

labelled : (label : List ℕ) (seats : List Subject) (xs : List SessionState) (ss : List Search) → AreHeld seats xs ss → AreHeld seats (with_label label xs) ss
labelled label seats xs ss h = go (place label xs == length xs)
  where
    go : (b : Bool) → AreHeld seats (if b then xs ++ fresh label ∷ [] else xs) ss
    go true = held_pushed seats xs (fresh label) ss h
    go false = h

session_kept : (label text : List ℕ) (old new : Script WorldData) (said : List ℕ) → SessionTells plainly label text old new said → IsKept old → IsKept new
session_kept label text old new said h kept =
    let xs = with_label label old.sessions in
    let at = place label old.sessions in
    let moves = session_moves text (session_in (slice_index_or xs at (fresh label)) old.world) (session_in h.session new.world) h.reply h.answers in
    record {
      rests = moves.rests kept.rests;
      held = subst (λ (ys : List SessionState). AreHeld new.world.seats ys new.world.searches) (sym h.stays)
          (moves.held xs at (fresh label) refl (place_within label old.sessions) kept.rests (labelled label old.world.seats old.sessions old.world.searches kept.held));
    }

line_kept : (text : List ℕ) (old new : Script WorldData) (said : List ℕ) → LineTells text old new said → IsKept old → IsKept new
line_kept = line_by (λ old new. IsKept old → IsKept new) (λ s kept. kept) session_kept

-- no search and no transaction is open after a run, if none was before it
pub run_idle : {T : Type 0} (r : Result T ServeFault) (world last end : WorldData) (sessions : List SessionState) (input left a b : Option (List ℕ))
    → Ran (NeverEnds LineTells) r (script world []) (script last sessions) input left a b → AllDrop sessions last end → IsIdle world → IsIdle end
run_idle r world last end sessions input left a b run drops idle =
    let kept = run_keeps (NeverEnds LineTells) (λ old new. IsKept old → IsKept new) (λ s kept. kept) (λ x y z first more kept. more (first kept)) (λ text x y said next h. line_kept text x y said h.0) r (script world []) (script last sessions) input left a b run
    (record { rests = idle_rests world idle; held = subst (λ (ss : List Search). AreHeld world.seats [] ss) (sym idle.searches) tt }) in
    let ends = all_dropped sessions last end drops kept.rests kept.held in
    record { searches = ends.1; transactions = ends.0.transactions }
