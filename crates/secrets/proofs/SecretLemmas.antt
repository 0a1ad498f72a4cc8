-- A digest has 32 bytes, and its digits are read as these. A secret fills its place.
use Rattle.std.proofs.Common.{◌≡◌, ℕ, zero, suc, ◌<◌, List, [], ◌∷◌, ◌++◌, arith, Ok}
use Rattle.std.specs.Int.{byte_at, bytes_high_first}
use Rattle.std.proofs.lemmas.Nat.{mod_below}
use Rattle.hex.specs.Hex.{IsBytes, decode_sized}
use Rattle.hex.proofs.HexLemmas.{decode_sized-encode_lower}
use Rattle.sha2.specs.Sha256.{digest_bytes, sha256}
use Rattle.sha2.proofs.Facts256.{length-sha256}
use Rattle.secrets.specs.Secrets.{digest_text}

none : IsBytes []
none zero = omega arith
none (suc i) = omega arith

joined : (xs ys : List ℕ) → IsBytes xs → IsBytes ys → IsBytes (xs ++ ys)
joined [] ys f g i = g i
joined (x ∷ xs) ys f g zero = f 0
joined (x ∷ xs) ys f g (suc i) = joined xs ys (λ j. f (suc j)) g i

byte_fits : (i n : ℕ) → byte_at i n < 256
byte_fits zero n = mod_below n 256 (omega arith)
byte_fits (suc i) n = mod_below _ 256 (omega arith)

of_number : (k n : ℕ) → IsBytes (bytes_high_first k n)
of_number zero n i = none i
of_number (suc k) n zero = byte_fits k n
of_number (suc k) n (suc i) = of_number k n i

of_words : (h : List ℕ) (n : ℕ) → IsBytes (digest_bytes h n)
unfolding digest_bytes
of_words h zero = none
of_words h (suc n) = joined (digest_bytes h n) _ (of_words h n) (of_number 4 _)

are_bytes : (secret : List ℕ) → IsBytes (sha256 secret)
unfolding sha256
are_bytes secret = of_words _ 8

pub read : (secret : List ℕ) → decode_sized (digest_text secret) 32 ≡ Ok (sha256 secret)
unfolding digest_text
read secret = decode_sized-encode_lower (sha256 secret) 32 (length-sha256 secret) (are_bytes secret)
