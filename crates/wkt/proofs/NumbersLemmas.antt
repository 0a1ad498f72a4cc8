-- The digits at the front of a word.
use Rattle.std.proofs.Common.{◌≡◌, ℕ, Bool, true, false, List, [], ◌∷◌, take_while, refl, one-add}
use Rattle.std.specs.Char.{is_ascii_digit}
use Rattle.std.specs.Str.{all_ascii_digits}
use Rattle.std.proofs.lemmas.Bool.{and_from}

-- the longest front of digits consists of digits
go-digit : (v : Bool) (b : ℕ) (bs : List ℕ) → is_ascii_digit b ≡ v → all_ascii_digits (take_while is_ascii_digit bs) ≡ true → all_ascii_digits (take_while is_ascii_digit (b ∷ bs)) ≡ true
go-digit true b bs e h = rw (e, one-add) (and_from _ _ e h)
go-digit false b bs e h = rw e refl

pub digits_of_word : (word : List ℕ) → all_ascii_digits (take_while is_ascii_digit word) ≡ true
digits_of_word [] = refl
digits_of_word (b ∷ bs) = go-digit (is_ascii_digit b) b bs refl (digits_of_word bs)
