-- Names are UTF-8.
use Rattle.std.proofs.Common.{◌≡◌, ℕ, zero, suc, ◌<◌, true, ◌&&◌, List, [], ◌∷◌, length, nat_le, arith, refl, IsUtf8, IsTrue, Result, Ok, Err}
use Rattle.std.specs.List.{list_all}
use Rattle.std.specs.Result.{MatchResult, IsOk}
use Rattle.std.specs.Prelude.{IsAscii}
use Rattle.std.specs.Cmp.{first_so, second_so}
use Rattle.std.proofs.lemmas.Bool.Decides.{nat_tests}
use Rattle.std.proofs.lemmas.Str.{IsUtf8-from_ascii}
use Rattle.features.specs.Names.{is_name, is_name_byte}

small : (b : ℕ) → is_name_byte b ≡ true → b < 128
small b e = grind (arith, nat_tests)

ascii : (bs : List ℕ) → list_all is_name_byte bs ≡ true → IsAscii bs
ascii [] e i = omega arith
ascii (b ∷ bs) e zero = small b (first_so (is_name_byte b) (list_all is_name_byte bs) e)
ascii (b ∷ bs) e (suc i) = ascii bs (second_so (is_name_byte b) (list_all is_name_byte bs) e) i

pub name-utf8 : (bs : List ℕ) → IsTrue (is_name bs) → IsUtf8 bs
name-utf8 bs name =
    IsUtf8-from_ascii bs (ascii bs (second_so (nat_le 1 (length bs) && nat_le (length bs) 32) (list_all is_name_byte bs) name))

-- a result that is an error only if Q is false is `Ok`, given Q
pub ok_unless : {X Y : Type 0} (P : X → Type 0) (Q : Type 0) (R : Y → Type 0) (r : Result X Y) → MatchResult r P (λ y. (Q → ⊥) × R y) → Q → IsOk r
ok_unless P Q R (Ok x) told q = refl
ok_unless P Q R (Err y) told q = absurd (told.0 q)
