-- The length of a coordinate's text.
use Rattle.std.proofs.Common.{◌≡◌, ℕ, ◌≤◌, ℤ, pos, negsuc, List, length, to_z, of_z, w32, SFits, arith, rules}
use Rattle.std.specs.Fmt.{signed_decimal}
use Rattle.std.specs.Int.Signed.{mag}
use Rattle.std.proofs.lemmas.Fmt.{length_signed_le}
use Rattle.std.proofs.lemmas.Int.{ints}
use Rattle.plane.specs.Coordinates.{IsCoordinate}

pub mag_of_coordinate : (z : ℤ) → IsCoordinate z → mag z ≤ 10000000
mag_of_coordinate (pos n) h = omega (arith, ints)
mag_of_coordinate (negsuc n) h = omega (arith, ints)

number_room : (z : ℤ) → IsCoordinate z → length (signed_decimal z) ≤ 9
number_room z h =
    let m = mag_of_coordinate z h in
    length_signed_le 8 z (omega arith) (omega arith)

-- the length of what `format` prints for a coordinate
pub format_room : (z : ℤ) (bytes : List ℕ) → SFits w32 z → bytes ≡ signed_decimal (to_z w32 (of_z w32 z)) → IsCoordinate z → length bytes ≤ 9
format_room z bytes fits e h =
    let same : to_z w32 (of_z w32 z) ≡ z = search (rules, fits) in
    rw (e, same) (number_room z h)
