-- Halls that follow one another.
use Rattle.std.proofs.Common.{◌≡◌, ◌+◌, ℕ, List, [], ◌∷◌, ◌++◌, length, arith, refl, sym, ap, subst, ◌∙◌}
use Rattle.features.specs.declared.actors.Subject.{Subject}
use Rattle.judging.specs.States.{PlainState}
use Rattle.chronicle.specs.Chronicles.{Opening}
use Rattle.hall.specs.Closing.{IsClosedAt}
use Rattle.hall.specs.Seats.{SeatData, receipts_of}
use Rattle.hall.specs.declared.closing.Closed.{Closed}
use Rattle.server.specs.declared.keeping.Begins.{Begins}
use Rattle.server.specs.declared.keeping.Begins.TheVariants as begins
use Rattle.server.specs.Served.{opening_of}
use Rattle.server.specs.Relays.{IsHeld, IsRelayed, IsTerm, LedTo, Relays, TermData, opening_at, records_of, seats_of}

-- a hall that was closed with these seats has given way
pub term_of : (opening : Opening) (closed : Closed) (seats : List SeatData) (state : PlainState)
    → closed.records ≡ receipts_of seats → closed.seats ≡ length seats
    → IsClosedAt opening closed.records closed.seats seats state → IsTerm opening closed state
term_of opening closed seats state records count trail =
    let counted = subst (λ (n : ℕ). IsClosedAt opening n closed.seats seats state) records trail in
    let held = subst (λ (n : ℕ). IsClosedAt opening (receipts_of seats) n seats state) count counted in
    record { term = record { seats = seats; state = state }; held = held; left = refl; records = records; seats = count }

relays_push : (subjects : List Subject) (base : PlainState) (terms : List TermData) (end : PlainState) (term : TermData)
    → Relays subjects base terms end → IsHeld (opening_at subjects end) term → Relays subjects base (terms ++ term ∷ []) term.state
relays_push subjects base [] end term same held = (subst (λ (b : PlainState). IsHeld (opening_at subjects b) term) same held, refl)
relays_push subjects base (first ∷ terms) end term relays held =
    (relays.0, relays_push subjects first.state terms end term relays.1 held)

records_push : (terms : List TermData) (term : TermData) → records_of (terms ++ term ∷ []) ≡ records_of terms + receipts_of term.seats
records_push [] term = omega arith
records_push (first ∷ terms) term = omega (arith, records_push terms term)

seats_push : (terms : List TermData) (term : TermData) → seats_of (terms ++ term ∷ []) ≡ seats_of terms + length term.seats
seats_push [] term = omega arith
seats_push (first ∷ terms) term = omega (arith, seats_push terms term)

-- whoever begins so, it is for these subjects
opening_subjects : (subjects : List Subject) (begin : Begins) → (opening_of subjects begin).subjects ≡ subjects
opening_subjects subjects (begins.Document document) = refl
opening_subjects subjects (begins.State restored) = refl

module _ (start now next : Opening) (account closed total : Closed) (state : PlainState) where
  -- one more hall
  pub led_on : next ≡ opening_at now.subjects state → total.records ≡ account.records + closed.records
      → total.seats ≡ account.seats + closed.seats → IsTerm now closed state → LedTo start now account → LedTo start next total
  led_on same records seats term led =
      let held = subst (λ (subjects : List Subject). IsHeld (opening_at subjects now.base) term.term) led.subjects term.held in
      let relays = relays_push start.subjects start.base led.terms now.base term.term led.relays held in
      let state_next = term.left ∙ sym (ap (λ (o : Opening). o.base) same) in
      record {
        terms = led.terms ++ term.term ∷ [];
        subjects = ap (λ (o : Opening). o.subjects) same ∙ led.subjects;
        relays = subst (λ (s : PlainState). Relays start.subjects start.base (led.terms ++ term.term ∷ []) s) state_next relays;
        records = omega (arith, records, led.records, term.records, records_push led.terms term.term);
        seats = omega (arith, seats, led.seats, term.seats, seats_push led.terms term.term);
      }

-- the same, where the next hall begins at what was left
pub led_on_by : (start : Opening) (subjects : List Subject) (begin next : Begins) (account closed total : Closed) (state : PlainState)
    → opening_of subjects next ≡ opening_at subjects state → total.records ≡ account.records + closed.records
    → total.seats ≡ account.seats + closed.seats → IsTerm (opening_of subjects begin) closed state
    → LedTo start (opening_of subjects begin) account → LedTo start (opening_of subjects next) total
led_on_by start subjects begin next account closed total state same records seats term led =
    let at = same ∙ ap (λ (s : List Subject). opening_at s state) (sym (opening_subjects subjects begin)) in
    led_on start (opening_of subjects begin) (opening_of subjects next) account closed total state at records seats term led

-- no hall yet
pub led_nowhere : (start : Opening) (account : Closed) → account.records ≡ 0 → account.seats ≡ 0 → LedTo start start account
led_nowhere start account records seats = record { terms = []; subjects = refl; relays = refl; records = records; seats = seats }

-- what halls have led to is a relay
pub relayed : (start now : Opening) (account : Closed) → LedTo start now account → IsRelayed start account
relayed start now account led =
    (now.base, record { terms = led.terms; subjects = refl; relays = led.relays; records = led.records; seats = led.seats })
