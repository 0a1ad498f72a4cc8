-- The subjects of seats.
use Rattle.std.proofs.Common.{◌≡◌, ◌<◌, ◌+◌, ◌-◌, ◌==◌, ℕ, Bool, true, false, List, [], ◌∷◌, ◌++◌, length, slice_get, Result, None, Some, Ok, refl, sym, ap, subst, if◌then◌else◌, arith, length-append}
use Rattle.std.proofs.Math.Seq.{get_or-append_seam}
use Rattle.std.proofs.lemmas.Bool.Decides.{nat_tests}
use Rattle.std.proofs.lemmas.Option.{slice_get_read}
use Rattle.features.specs.declared.actors.Subject.{Subject}
use Rattle.audit_trail.specs.Legal.{IsSeated}
use Rattle.plain_world.specs.Admitting.{given}
use Rattle.plain_world.specs.declared.faults.Fault.{Fault}
use Rattle.chronicle.specs.Chronicles.{subject_given}

ok_of : (one other : Result Subject Fault) (x y : Subject) → one ≡ Ok x → other ≡ Ok y → one ≡ other → x ≡ y
ok_of one other x y h k e = cc (h, k, e)

-- a seat has one subject
pub one_subject : (seat : ℕ) (seats : List Subject) (one other : Subject) → IsSeated seat seats one → subject_given seat seats ≡ Ok other → one ≡ other
one_subject seat seats one other seated given_so =
    ok_of (given (Some one)) (subject_given seat seats) one other refl given_so (sym (ap given seated))

-- the last seat that was given is its subject's
seated_last : (seats : List Subject) (s : Subject) (number : ℕ) → number ≡ length seats + 1 → IsSeated number (seats ++ s ∷ []) s
seated_last seats s number e = subst (λ (n : ℕ). IsSeated n (seats ++ s ∷ []) s) (sym e) (go ((length seats + 1) == 0) refl)
  where
    there : slice_get (seats ++ s ∷ []) (length seats) ≡ Some s
    there =
        let more : length seats < length (seats ++ s ∷ []) = omega (arith, length-append seats (s ∷ [])) in
        slice_get_read (seats ++ s ∷ []) (length (seats ++ s ∷ [])) (length seats) s refl more (sym (get_or-append_seam seats s [] s))

    back : length seats + 1 - 1 ≡ length seats
    back = omega arith

    go : (b : Bool) → ((length seats + 1) == 0) ≡ b → (if b then None else slice_get (seats ++ s ∷ []) (length seats + 1 - 1)) ≡ Some s
    go true is = absurd (grind (arith, nat_tests, is))
    go false is = rw back there

-- the subject of the last seat that was given
pub last_subject : (seats : List Subject) (s other : Subject) (number : ℕ) → number ≡ length seats + 1
    → subject_given number (seats ++ s ∷ []) ≡ Ok other → s ≡ other
last_subject seats s other number e found = one_subject number (seats ++ s ∷ []) s other (seated_last seats s number e) found

pub last_found : (seats : List Subject) (s : Subject) (number : ℕ) → number ≡ length seats + 1 → subject_given number (seats ++ s ∷ []) ≡ Ok s
last_found seats s number e = ap given (seated_last seats s number e)
