-- Seats that are gathered.
use Rattle.std.proofs.Common.{◌≡◌, ◌+◌, List, [], ◌∷◌, ◌++◌, length, arith, refl}
use Rattle.hall.specs.Seats.{SeatData, receipts_of}

-- one more seat adds its receipts
pub receipts_push : (seats : List SeatData) (s : SeatData) → receipts_of (seats ++ s ∷ []) ≡ receipts_of seats + length s.receipts
receipts_push [] s = omega arith
receipts_push (t ∷ seats) s = omega (arith, receipts_push seats s)

-- no seats have no receipts
pub no_receipts : (seats : List SeatData) → length seats ≡ 0 → receipts_of seats ≡ 0
no_receipts [] e = refl
no_receipts (t ∷ seats) e = absurd (omega (arith, e))
