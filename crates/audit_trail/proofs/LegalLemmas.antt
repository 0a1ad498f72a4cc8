-- Legal trails in two parts, and with more seats.
use Rattle.std.proofs.Common.{◌≡◌, ℕ, zero, suc, ◌-◌, ◌==◌, List, [], ◌∷◌, ◌++◌, slice_get, None, Some, if◌then◌else◌, Bool, true, false, refl}
use Rattle.features.specs.declared.actors.Subject.{Subject}
use Rattle.audit_trail.specs.Records.{DeedData, answered, applied, turned_away, governed, RecordData}
use Rattle.judging.specs.States.{PlainState}
use Rattle.audit_trail.specs.Legal.{subject_of, after_deed, replay, IsLegalDeed, IsLegal}

-- the replay of two parts is the replay of the second from that of the first
pub replay-append : (base : PlainState) (first rest : List RecordData) → replay base (first ++ rest) ≡ replay (replay base first) rest
replay-append base [] rest = refl
replay-append base (r ∷ rs) rest = replay-append (after_deed r.deed base) rs rest

-- two legal parts are legal together, if the second is legal from the replay of the first
pub legal-append : (seats : List Subject) (base : PlainState) (first rest : List RecordData) → IsLegal seats base first → IsLegal seats (replay base first) rest → IsLegal seats base (first ++ rest)
legal-append seats base [] rest h k = k
legal-append seats base (r ∷ rs) rest h k = (h.0, legal-append seats (after_deed r.deed base) rs rest h.1 k)

pub legal-parts : (seats : List Subject) (base : PlainState) (first rest : List RecordData) → IsLegal seats base (first ++ rest) → IsLegal seats base first × IsLegal seats (replay base first) rest
legal-parts seats base [] rest h = (tt, h)
legal-parts seats base (r ∷ rs) rest h = let k = legal-parts seats (after_deed r.deed base) rs rest h.1 in ((h.0, k.0), k.1)

slice_get-append : {A : Type 0} (xs ys : List A) (i : ℕ) (x : A) → slice_get xs i ≡ Some x → slice_get (xs ++ ys) i ≡ Some x
slice_get-append [] ys i x e = cc
slice_get-append (y ∷ xs) ys zero x e = e
slice_get-append (y ∷ xs) ys (suc i) x e = slice_get-append xs ys i x e

-- a seat keeps its subject when more seats are given
pub subject_of-append : (seat : ℕ) (seats more : List Subject) (subject : Subject) → subject_of seat seats ≡ Some subject → subject_of seat (seats ++ more) ≡ Some subject
subject_of-append seat seats more subject = go (seat == 0)
  where
    go : (b : Bool) → (if b then None else slice_get seats (seat - 1)) ≡ Some subject → (if b then None else slice_get (seats ++ more) (seat - 1)) ≡ Some subject
    go true e = e
    go false e = slice_get-append seats more (seat - 1) subject e

legal_deed_seated : (seats more : List Subject) (state : PlainState) (seat : ℕ) (deed : DeedData) → IsLegalDeed seats state seat deed → IsLegalDeed (seats ++ more) state seat deed
legal_deed_seated seats more state seat (answered subject window ids versions) h = (subject_of-append seat seats more subject h.0, h.1)
legal_deed_seated seats more state seat (applied subject version changes) h = (subject_of-append seat seats more subject h.0, h.1, h.2)
legal_deed_seated seats more state seat (turned_away subject changes refusal) h = (subject_of-append seat seats more subject h.0, h.1)
legal_deed_seated seats more state seat (governed edition decider) h = ((h.0.0, subject_of-append seat seats more h.0.0 h.0.1, h.0.2), h.1, h.2)

-- a legal trail stays legal when more seats are given
pub legal_seated : (seats more : List Subject) (base : PlainState) (trail : List RecordData) → IsLegal seats base trail → IsLegal (seats ++ more) base trail
legal_seated seats more base [] h = tt
legal_seated seats more base (r ∷ rs) h = (legal_deed_seated seats more base r.seat r.deed h.0, legal_seated seats more (after_deed r.deed base) rs h.1)
