-- A call leaves at rest a world that was at rest.
use Rattle.std.proofs.Common.{◌≡◌, ◌⊎◌, ℕ, ◌+◌, ◌==◌, Bool, true, false, nat_lt, List, [], ◌∷◌, ◌++◌, length, map, Option, None, Some, MatchOption, refl, sym, ap, subst, ◌∙◌, inl, inr, append-nil, append_assoc}
use Rattle.std.specs.Bool.{MatchBool}
use Rattle.plane.specs.declared.point.Point.{Point}
use Rattle.features.specs.declared.actors.Subject.{Subject}
use Rattle.features.specs.declared.rows.Change.{Change}
use Rattle.features.specs.Changes.{after}
use Rattle.policy_documents.specs.Documents.{DocumentData}
use Rattle.judging.specs.declared.causes.Judgement.{Judgement}
use Rattle.judging.specs.declared.causes.Judgement.TheVariants as judgements
use Rattle.judging.specs.Judging.{Judged}
use Rattle.audit_trail.specs.Records.{applied}
use Rattle.plain_world.specs.declared.faults.Fault.TheVariants as faults
use Rattle.plain_world.specs.declared.outcomes.Outcome.TheVariants as outcomes
use Rattle.plain_world.specs.declared.open_searches.Search.{Search}
use Rattle.plain_world.specs.Admitting.{LAST, may_govern, may_roll, may_sit}
use Rattle.plain_world.specs.Events.{TakeSeat, Govern as GovernEvent, Roll as RollEvent, Happens, Reply as EventReply, Number, Rows, Ended, TakenOut, Failed, is_memory, recorded, reply_of}
use Rattle.plain_world.specs.Laws.{AreGiven}
use Rattle.plain_world.specs.States.{WorldData, most_features}
use Rattle.plain_world.proofs.AdmittedLemmas.{by_if, by_unless}
use Rattle.session_lines.specs.declared.faults.LineFault.TheVariants.{BeforeHello}
use Rattle.session_lines.specs.declared.replies.Reply.TheVariants.{Error}
use Rattle.session_lines.specs.Replies.{SaidData, line}
use Rattle.session_lines.specs.Services.{Call, Hello, Search as SearchCall, Commit, Govern, Explain, Roll, Leave}
use Rattle.scripts.specs.Services.{ServesCall, SearchesCall, CommitsCall, Brings, EndsCallAs, HoldsList, ListsRows, NoReadySeeksAny, holder, is_full, is_overrun_reply, is_unplaced, may_conclude, may_search}
use Rattle.scripts.specs.States.{IsAtRest, IsIdle, SoloState, begun, searched}
use Rattle.scripts.proofs.PolicyLemmas.{govern_rests, roll_rests, seat_rests}

-- ---- a world at rest

-- what a call leaves unchanged: the searches; of the seats all that were given
pub record Leaves (old new : WorldData) : Type 0 where
  pub searches : new.searches ≡ old.searches
  pub more : List Subject
  pub seats : new.seats ≡ old.seats ++ more

leaves_as : (old new w : WorldData) → new ≡ w → w.searches ≡ old.searches → w.seats ≡ old.seats → Leaves old new
leaves_as old new w e searches seats =
    subst (λ (x : WorldData). Leaves old x) (sym e) (record { searches = searches; more = []; seats = seats ∙ sym (append-nil old.seats) })

leaves_same : (old new : WorldData) → new ≡ old → Leaves old new
leaves_same old new e = leaves_as old new old e refl refl

sits : (name : List ℕ) (old new : WorldData) (reply : EventReply) → Happens (TakeSeat name) old new reply → Leaves old new
sits name old new reply h =
    by_if (may_sit name old) old new reply _ (λ _. Leaves old new) (λ fault may same. leaves_same old new same)
    (λ subject may d. by_unless old new reply _ (λ _. Leaves old new) (λ fault want same. leaves_same old new same)
    (λ d. subst (λ (x : WorldData). Leaves old x) (sym d.0) (record { searches = refl; more = subject ∷ []; seats = refl })) d) h

governs : (seat : ℕ) (document : DocumentData) (old new : WorldData) (reply : EventReply) → Happens (GovernEvent seat document) old new reply → Leaves old new
governs seat document old new reply h =
    by_if (may_govern seat old) old new reply _ (λ _. Leaves old new) (λ fault may same. leaves_same old new same)
    (λ u may d. by_unless old new reply _ (λ _. Leaves old new) (λ fault want same. leaves_same old new same) (λ d. leaves_as old new _ d.1 refl refl) d) h

rolls : (seat : ℕ) (old new : WorldData) (reply : EventReply) → Happens (RollEvent seat) old new reply → Leaves old new
rolls seat old new reply h =
    by_if (may_roll seat old) old new reply _ (λ _. Leaves old new) (λ fault may same. leaves_same old new same)
    (λ u may d. by_unless old new reply _ (λ _. Leaves old new) (λ fault want same. leaves_same old new same) (λ d. leaves_as old new _ d.1 refl refl) d) h

searches_leave : (seat : ℕ) (window : List Point) (old new : WorldData) (reply : EventReply) → SearchesCall seat window old new reply → Leaves old new
searches_leave seat window old new reply h =
    by_if (may_search seat old) old new reply _ (λ _. Leaves old new) (λ fault may same. leaves_same old new same) (λ subject may d. wants subject (is_memory reply) d) h
  where
    full : (subject : Subject) (b : Bool) → MatchBool b ((reply ≡ Failed faults.TrailFull) × (new ≡ searched old)) (ListsRows seat subject window old new reply) → Leaves old new
    full subject true d = leaves_as old new (searched old) d.1 refl refl
    full subject false d = leaves_as old new _ d.3 refl refl

    overrun : (subject : Subject) (b : Bool) → MatchBool b (new ≡ searched old) (MatchBool (is_full old) ((reply ≡ Failed faults.TrailFull) × (new ≡ searched old)) (ListsRows seat subject window old new reply)) → Leaves old new
    overrun subject true d = leaves_as old new (searched old) d refl refl
    overrun subject false d = full subject (is_full old) d

    wants : (subject : Subject) (b : Bool) → MatchBool b ((new ≡ old) ⊎ (new ≡ searched old))
        (MatchBool (is_overrun_reply reply) (new ≡ searched old) (MatchBool (is_full old) ((reply ≡ Failed faults.TrailFull) × (new ≡ searched old)) (ListsRows seat subject window old new reply))) → Leaves old new
    wants subject true (inl d) = leaves_same old new d
    wants subject true (inr d) = leaves_as old new (searched old) d refl refl
    wants subject false d = overrun subject (is_overrun_reply reply) d

commits_leave : (seat : ℕ) (changes : List Change) (old new : WorldData) (reply : EventReply) → CommitsCall seat changes old new reply → Leaves old new
commits_leave seat changes old new reply h =
    by_if (may_conclude seat old) old new reply _ (λ _. Leaves old new) (λ fault may same. leaves_same old new same) (λ subject may d. wants subject (is_memory reply) d) h
  where
    applies : (subject : Subject) (last over : Bool) → MatchBool last ((reply ≡ Failed faults.Spent) × (new ≡ begun old))
        (MatchBool over ((reply ≡ Failed faults.StoreFull) × (new ≡ begun old))
        ((reply ≡ Ended (outcomes.Applied (old.state.version + 1))) × (new ≡ begun (recorded seat (applied subject (old.state.version + 1) changes) old)))) → Leaves old new
    applies subject true over d = leaves_as old new (begun old) d.1 refl refl
    applies subject false true d = leaves_as old new (begun old) d.1 refl refl
    applies subject false false d = leaves_as old new _ d.1 refl refl

    ends : (subject : Subject) (judgement : Judgement) → EndsCallAs judgement seat subject changes old new reply → Leaves old new
    ends subject judgements.Accepted d =
        applies subject (old.state.version == LAST) (nat_lt (most_features old) (length (after (old.state.version + 1) subject.office changes old.state.features))) d
    ends subject (judgements.Refused refusal question) d = leaves_as old new _ d.1 refl refl

    Judges : Subject → Type 0
    Judges subject = (judgement : Judgement) × Judged old.state subject changes judgement × EndsCallAs judgement seat subject changes old new reply

    full : (subject : Subject) (b : Bool) → MatchBool b ((reply ≡ Failed faults.TrailFull) × (new ≡ begun old)) (Judges subject) → Leaves old new
    full subject true d = leaves_as old new (begun old) d.1 refl refl
    full subject false d = ends subject d.0 d.2

    held : (subject : Subject) (o : Option ℕ) → MatchOption o (NoReadySeeksAny changes old × MatchBool (is_full old) ((reply ≡ Failed faults.TrailFull) × (new ≡ begun old)) (Judges subject)) (λ search. (new ≡ begun old) × HoldsList search changes old) → Leaves old new
    held subject None d = full subject (is_full old) d.1
    held subject (Some search) d = leaves_as old new (begun old) d.0 refl refl

    unplaced : (subject : Subject) (b : Bool) → MatchBool b (Brings changes × (new ≡ begun old))
        (MatchOption (holder reply) (NoReadySeeksAny changes old × MatchBool (is_full old) ((reply ≡ Failed faults.TrailFull) × (new ≡ begun old)) (Judges subject)) (λ search. (new ≡ begun old) × HoldsList search changes old)) → Leaves old new
    unplaced subject true d = leaves_as old new (begun old) d.1 refl refl
    unplaced subject false d = held subject (holder reply) d

    wants : (subject : Subject) (b : Bool) → MatchBool b ((new ≡ old) ⊎ (new ≡ begun old))
        (MatchBool (is_unplaced reply) (Brings changes × (new ≡ begun old))
        (MatchOption (holder reply) (NoReadySeeksAny changes old × MatchBool (is_full old) ((reply ≡ Failed faults.TrailFull) × (new ≡ begun old)) (Judges subject)) (λ search. (new ≡ begun old) × HoldsList search changes old))) → Leaves old new
    wants subject true (inl d) = leaves_same old new d
    wants subject true (inr d) = leaves_as old new (begun old) d refl refl
    wants subject false d = unplaced subject (is_unplaced reply) d

-- a world at rest stays at rest, with the same searches
abbrev pub Rests : WorldData → WorldData → Type 0
Rests old new = IsAtRest old → IsAtRest new × Leaves old new

pub rests_none : (w : WorldData) → Rests w w
rests_none w still = (still, leaves_same w w refl)

rests_as : (old new : WorldData) → new ≡ old → Rests old new
rests_as old new e = subst (λ (x : WorldData). Rests old x) (sym e) (rests_none old)

pub rests_then : (a b c : WorldData) → Rests a b → Rests b c → Rests a c
rests_then a b c first later still =
    let one = first still in
    let two = later one.0 in (
      two.0,
      record {
        searches = two.1.searches ∙ one.1.searches;
        more = one.1.more ++ two.1.more;
        seats = two.1.seats ∙ ap (λ (xs : List Subject). xs ++ two.1.more) one.1.seats ∙ append_assoc a.seats one.1.more two.1.more;
      },
    )

seated_rests : (at : Option ℕ) (old new : SoloState) (said : SaidData) (Does : ℕ → Type 0)
    → MatchOption at ((new ≡ old) × (said ≡ line (Error BeforeHello))) (λ seat. (new.seat ≡ old.seat) × Does seat)
    → ((seat : ℕ) → Does seat → Rests old.world new.world) → Rests old.world new.world
seated_rests None old new said Does h each = rests_as old.world new.world (ap (λ (s : SoloState). s.world) h.0)
seated_rests (Some seat) old new said Does h each = each seat h.1

pub call_rests : (call : Call) (old new : SoloState) (said : SaidData) → ServesCall call old new said → Rests old.world new.world
call_rests (Hello name) old new said h = λ still. (
  seat_rests name old.world new.world (reply_of Number h.0) h.1 still,
  sits name old.world new.world (reply_of Number h.0) h.1,
)
call_rests (SearchCall window) old new said h =
    seated_rests old.seat old new said _ h (λ seat d still. (let ends = d still in (ends.0, searches_leave seat window old.world new.world (reply_of Rows ends.1.0) ends.1.1)))
call_rests (Commit changes) old new said h =
    seated_rests old.seat old new said _ h (λ seat d still. (let ends = d still in (ends.0, commits_leave seat changes old.world new.world (reply_of Ended ends.1.0) ends.1.1)))
call_rests (Govern document) old new said h =
    seated_rests old.seat old new said _ h
    (λ seat d still. (govern_rests seat document old.world new.world (reply_of Number d.0) d.1 still, governs seat document old.world new.world (reply_of Number d.0) d.1))
call_rests (Explain question) old new said h = rests_as old.world new.world (ap (λ (s : SoloState). s.world) h.0)
call_rests Roll old new said h =
    seated_rests old.seat old new said _ h
    (λ seat d still. (roll_rests seat old.world new.world (reply_of TakenOut d.0) d.1 still, rolls seat old.world new.world (reply_of TakenOut d.0) d.1))
call_rests Leave old new said h = rests_as old.world new.world (ap (λ (s : SoloState). s.world) h.0)

pub idle_rests : (w : WorldData) → IsIdle w → IsAtRest w
idle_rests w idle =
    record { searches = subst (λ (ss : List Search). AreGiven w.next_search (map (λ (s : Search). s.number) ss)) (sym idle.searches) tt; transactions = idle.transactions }

-- no search and no transaction is open afterwards, if none was before
abbrev pub StaysIdle : SoloState → SoloState → Type 0
StaysIdle old new = IsIdle old.world → IsIdle new.world

pub call_idle : (call : Call) (old new : SoloState) (said : SaidData) → ServesCall call old new said → StaysIdle old new
call_idle call old new said h idle =
    let ends = call_rests call old new said h (idle_rests old.world idle) in
    record { searches = ends.1.searches ∙ idle.searches; transactions = ends.0.transactions }
