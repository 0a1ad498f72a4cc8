-- What an event changes of what a hall sees of a world.
use Rattle.std.proofs.Common.{◌≡◌, ◌⊎◌, ◌≤◌, ℕ, ◌+◌, List, [], ◌∷◌, ◌++◌, drop, length, refl, sym, ap, ◌∙◌, subst, ⊎_elim, append_assoc, append-nil, length-append, arith}
use Rattle.std.specs.Prelude.{All}
use Rattle.std.proofs.lemmas.List.{drop-append-le, drop_all}
use Rattle.std.proofs.lemmas.List.Elements.{All-nil, All-push}
use Rattle.features.specs.declared.actors.Subject.{Subject}
use Rattle.features.specs.Rows.{IsSortedById}
use Rattle.audit_trail.specs.Legal.{IsLegal, replay, after_deed}
use Rattle.audit_trail.specs.Records.{DeedData, RecordData}
use Rattle.audit_trail.proofs.LegalLemmas.{legal-append, legal_seated, replay-append}
use Rattle.judging.specs.States.{PlainState}
use Rattle.plain_world.specs.Events.{Event, TakeSeat, OpenSearch, VisitNext, Finish, DropSearch, Begin, Stage, AdvanceWalk, Commit, Abort, Govern, Tend, Roll, Reply, Number, TakenOut, Happens}
use Rattle.plain_world.specs.Laws.{AreAskedSeats, HasOneMore, LeadsOn, StandsAs}
use Rattle.plain_world.specs.Rolls.{RolledData}
use Rattle.plain_world.specs.Settings.{IsSettled, Settings}
use Rattle.plain_world.specs.States.{WorldData, IsSoundWorld}
use Rattle.plain_world.proofs.AskedLemmas.{is_asked}
use Rattle.plain_world.proofs.JoinLemmas.{Grows, Moves, moves}
use Rattle.plain_world.proofs.SettingsLemmas.{settled}
use Rattle.chronicle.specs.Chronicles.{ChangesNothing, IsHeld, IsLastChange, IsSoundChronicle, LeadsTo, noted, seen}

-- who may have a seat is unchanged
subjects_by : (event : Event) (reply : Reply) (old new : WorldData) → IsSettled event old new reply → new.subjects ≡ old.subjects
subjects_by (OpenSearch seat window) (Number number) old new h = ap (λ (s : Settings). s.subjects) h.1
subjects_by (Begin seat) (Number number) old new h = ap (λ (s : Settings). s.subjects) h.1
subjects_by event reply old new h = ap (λ (s : Settings). s.subjects) h

subjects_stay : (event : Event) (old new : WorldData) (reply : Reply) → Happens event old new reply → new.subjects ≡ old.subjects
subjects_stay event old new reply happens = subjects_by event reply old new (settled event old new reply happens)

grown : (old new : WorldData) (reply : Reply) → Moves old new reply → Grows old new
grown old new (TakenOut piece) h = h.0
grown old new _ h = h.0

grows : (event : Event) (old new : WorldData) (reply : Reply) → Happens event old new reply → Grows old new
grows event old new reply happens = grown old new reply (moves event old new reply happens)

-- records that are legal from a base on stay legal
still_legal : (event : Event) (old new : WorldData) (reply : Reply) (base : PlainState) (records : List RecordData) → Happens event old new reply
    → IsLegal old.seats base records → IsLegal new.seats base records
still_legal event old new reply base records happens legal =
    let g = grows event old new reply happens in
    subst (λ (seats : List Subject). IsLegal seats base records) (sym g.1) (legal_seated old.seats g.0 base records legal)

-- the pieces still lead to the present trail, if it begins as before
pub leads_on : (event : Event) (old new : WorldData) (reply : Reply) (base : PlainState) (rolled : List RecordData) → Happens event old new reply
    → new.base ≡ old.base → new.first ≡ old.first → LeadsTo base rolled old → LeadsTo base rolled new
leads_on event old new reply base rolled happens same_base same_first h =
    record {
      counted = subst (λ (n : ℕ). length rolled ≤ n) (sym same_first) h.counted;
      legal = still_legal event old new reply base rolled happens h.legal;
      replayed = h.replayed ∙ sym same_base;
    }

-- an event that gives no seat
abbrev pub GivesNoSeat : Event → Type 0
GivesNoSeat (TakeSeat name) = ⊥
GivesNoSeat _ = Unit {0}

seats_stay : (event : Event) (old new : WorldData) (reply : Reply) → GivesNoSeat event → AreAskedSeats event old new reply → new.seats ≡ old.seats
seats_stay event old new reply unseating asked =
    ⊎_elim (λ (e : new.seats ≡ old.seats). e) (λ t. absurd (subst GivesNoSeat t.2 unseating)) asked

pub no_seat_given : (event : Event) (old new : WorldData) (reply : Reply) → GivesNoSeat event → Happens event old new reply → new.seats ≡ old.seats
no_seat_given event old new reply unseating happens = seats_stay event old new reply unseating (is_asked event old new reply happens).seats

-- an event that leaves the trail, its base and its first number as they are
pub held_on : (event : Event) (old new : WorldData) (reply : Reply) (base : PlainState) (rolled : List RecordData) (changed : ℕ) → Happens event old new reply
    → StandsAs old new → IsHeld base rolled changed old → IsHeld base rolled changed new
held_on event old new reply base rolled changed happens h held =
    record {
      leads = leads_on event old new reply base rolled happens h.2 h.3 held.leads;
      last_change = subst (λ (trail : List RecordData). IsLastChange changed (rolled ++ trail)) (sym h.0) held.last_change;
    }

-- an event that records nothing and gives no seat: the chronicle is unchanged
pub stands : (event : Event) (old new : WorldData) (reply : Reply) (base : PlainState) (rolled : List RecordData) (changed : ℕ) → GivesNoSeat event → Happens event old new reply
    → StandsAs old new → IsHeld base rolled changed old → (seen base rolled new ≡ seen base rolled old) × IsHeld base rolled changed new
stands event old new reply base rolled changed unseating happens h held =
    let u = subjects_stay event old new reply happens in
    let s = no_seat_given event old new reply unseating happens in (
      λ i. record { opening = record { subjects = u i; base = base }; seats = s i; records = rolled ++ h.0 i; state = h.1 i },
      held_on event old new reply base rolled changed happens h held,
    )

-- one more record, which changes no state
still_behind : (changed : ℕ) (records : List RecordData) (r : RecordData) → ChangesNothing r → IsLastChange changed records → IsLastChange changed (records ++ r ∷ [])
still_behind changed records r nothing h =
    record {
      within = omega (arith, h.within, length-append records (r ∷ []));
      still = subst (All ChangesNothing) (sym (drop-append-le changed records (r ∷ []) h.within)) (All-push ChangesNothing (drop changed records) r h.still nothing);
    }

-- no record is behind all of them
pub changed_now : (records : List RecordData) → IsLastChange (length records) records
changed_now records =
    record { within = omega arith; still = subst (All ChangesNothing) (sym (drop_all (length records) records (omega arith))) (All-nil ChangesNothing) }

-- an event that adds a record which changes no state
pub held_still : (event : Event) (old new : WorldData) (reply : Reply) (base : PlainState) (rolled : List RecordData) (changed seat : ℕ) (deed : DeedData)
    → Happens event old new reply → ((state : PlainState) → after_deed deed state ≡ state) → HasOneMore seat deed old new
    → IsHeld base rolled changed old → IsHeld base rolled changed new
held_still event old new reply base rolled changed seat deed happens nothing h held =
    let r : RecordData = record { seat = seat; deed = deed } in
    let records : (rolled ++ old.trail) ++ r ∷ [] ≡ rolled ++ new.trail =
    append_assoc rolled old.trail (r ∷ []) ∙ sym (ap (λ (trail : List RecordData). rolled ++ trail) h.0) in
    record {
      leads = leads_on event old new reply base rolled happens h.2 h.3 held.leads;
      last_change = subst (IsLastChange changed) records (still_behind changed (rolled ++ old.trail) r nothing held.last_change);
    }

-- an event that adds a record which changes the state
pub held_changed : (event : Event) (old new : WorldData) (reply : Reply) (base : PlainState) (rolled : List RecordData) (changed now seat : ℕ) (deed : DeedData)
    → Happens event old new reply → HasOneMore seat deed old new → now ≡ length (rolled ++ new.trail)
    → IsHeld base rolled changed old → IsHeld base rolled now new
held_changed event old new reply base rolled changed now seat deed happens h all held =
    record {
      leads = leads_on event old new reply base rolled happens h.2 h.3 held.leads;
      last_change = subst (λ (n : ℕ). IsLastChange n (rolled ++ new.trail)) (sym all) (changed_now (rolled ++ new.trail));
    }

-- an event that adds one record
pub adds : (event : Event) (old new : WorldData) (reply : Reply) (base : PlainState) (rolled : List RecordData) (seat : ℕ) (deed : DeedData)
    → GivesNoSeat event → Happens event old new reply → HasOneMore seat deed old new → seen base rolled new ≡ noted seat deed (seen base rolled old)
adds event old new reply base rolled seat deed unseating happens h =
    let u = subjects_stay event old new reply happens in
    let s = no_seat_given event old new reply unseating happens in
    let r : RecordData = record { seat = seat; deed = deed } in
    let records : rolled ++ new.trail ≡ (rolled ++ old.trail) ++ r ∷ [] =
    ap (λ (trail : List RecordData). rolled ++ trail) h.0 ∙ sym (append_assoc rolled old.trail (r ∷ [])) in
    λ i. record { opening = record { subjects = u i; base = base }; seats = s i; records = records i; state = h.1 i }

-- all records are sound if the present trail is
pub sound_seen : (base : PlainState) (rolled : List RecordData) (w : WorldData) → LeadsTo base rolled w → IsSoundWorld w → IsSortedById w.state.features
    → IsSoundChronicle (seen base rolled w)
sound_seen base rolled w h sound sorted =
    record {
      legal = legal-append w.seats base rolled w.trail h.legal (subst (λ (b : PlainState). IsLegal w.seats b w.trail) (sym h.replayed) sound.legal);
      replayed = replay-append base rolled w.trail ∙ ap (λ (b : PlainState). replay b w.trail) h.replayed ∙ sound.replayed;
      sorted = sorted;
      few = sound.few_seats;
    }

-- a roll that succeeds: the piece has what the trail had
pub rolls : (seat : ℕ) (old new : WorldData) (piece : RolledData) (base : PlainState) (rolled : List RecordData) → Happens (Roll seat) old new (TakenOut piece)
    → IsSoundWorld old → LeadsOn old new piece → new.state ≡ old.state → LeadsTo base rolled old
    → (seen base (rolled ++ piece.records) new ≡ seen base rolled old) × LeadsTo base (rolled ++ piece.records) new
rolls seat old new piece base rolled happens sound h state leads =
    let u = subjects_stay (Roll seat) old new (TakenOut piece) happens in
    let s = no_seat_given (Roll seat) old new (TakenOut piece) tt happens in
    let records : (rolled ++ piece.records) ++ new.trail ≡ rolled ++ old.trail =
    ap (λ (trail : List RecordData). (rolled ++ piece.records) ++ trail) h.6 ∙ append-nil (rolled ++ piece.records) ∙ ap (λ (more : List RecordData). rolled ++ more) h.5 in
    let all : IsLegal old.seats base (rolled ++ old.trail) =
    legal-append old.seats base rolled old.trail leads.legal (subst (λ (b : PlainState). IsLegal old.seats b old.trail) (sym leads.replayed) sound.legal) in
    let held : rolled ++ piece.records ≡ rolled ++ old.trail = ap (λ (more : List RecordData). rolled ++ more) h.5 in
    let to_base : replay base (rolled ++ piece.records) ≡ new.base =
    ap (λ (rs : List RecordData). replay base rs) held ∙ replay-append base rolled old.trail
    ∙ ap (λ (b : PlainState). replay b old.trail) leads.replayed ∙ ap (λ (b : PlainState). replay b old.trail) (sym h.3) ∙ ap (λ (rs : List RecordData). replay piece.base rs) (sym h.5) ∙ h.1 in (
      λ i. record { opening = record { subjects = u i; base = base }; seats = s i; records = records i; state = state i },
      record {
        counted = counted_on rolled piece.records old.first new.first leads.counted (ap (λ (n : ℕ). n + length piece.records) (sym h.4) ∙ h.2);
        legal = still_legal (Roll seat) old new (TakenOut piece) base (rolled ++ piece.records) happens
            (subst (λ (rs : List RecordData). IsLegal old.seats base rs) (sym held) all);
        replayed = to_base;
      },
    )
  where
    counted_on : (rolled more : List RecordData) (base next : ℕ) → length rolled ≤ base → base + length more ≡ next → length (rolled ++ more) ≤ next
    counted_on rolled more base next h k = omega (arith, h, k, length-append rolled more)

-- a world that was just opened, of which nothing was rolled out
pub begins : (w : WorldData) → w.trail ≡ [] → IsHeld w.base [] 0 w
begins w e =
    record {
      leads = record { counted = omega arith; legal = tt; replayed = refl };
      last_change = subst (IsLastChange 0) (sym e) (changed_now []);
    }
