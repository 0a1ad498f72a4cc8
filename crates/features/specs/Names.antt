-- Names, as lists of bytes.
use Rattle.std.specs.Prelude.{◌≡◌, ℕ, ◌-◌, ◌≤◌, ◌==◌, Bool, ◌||◌, ◌&&◌, nat_le, List, ◌++◌, length, take, drop, replicate, IsTrue, Option, Some, None, if◌then◌else◌}
use Rattle.std.specs.List.{list_all}
use Rattle.std.proofs.Common.{arith, ◌∙◌, ap, sym, take-append-drop, length-take-le}
use Rattle.features.specs.declared.names.TheConstants.{NAME_LIMIT}

-- `a` to `z`, `0` to `9`, or `-`
abbrev pub is_name_byte : ℕ → Bool
is_name_byte b = (nat_le 97 b && nat_le b 122) || (nat_le 48 b && nat_le b 57) || (b == 45)

-- 1 to `NAME_LIMIT` such bytes
abbrev pub is_name : List ℕ → Bool
is_name bytes = nat_le 1 (length bytes) && nat_le (length bytes) NAME_LIMIT && list_all is_name_byte
    bytes

-- the name with this text, if it is a valid one
abbrev pub name_of : List ℕ → Option (List ℕ)
name_of text = if is_name text then Some text else None

-- the bytes that a name of this length leaves unused
abbrev pub padding : ℕ → List ℕ
padding len = replicate (NAME_LIMIT - len) 0

-- an array of `NAME_LIMIT` bytes that starts with a name of this length and is padded after it
pub record HoldsName (bytes : List ℕ) (len : ℕ) : Type 0 where
  pub name : IsTrue (is_name (take len bytes))
  pub whole : length bytes ≡ NAME_LIMIT
  pub within : len ≤ NAME_LIMIT
  pub padded : drop len bytes ≡ padding len

pub length_again : (bytes : List ℕ) (len : ℕ) → HoldsName bytes len → length (take len bytes) ≡ len
length_again bytes len h = length-take-le len bytes (omega (arith, h.whole, h.within))

pub padded_again : (bytes : List ℕ) (len : ℕ) → HoldsName bytes len
    → take len bytes ++ padding (length (take len bytes)) ≡ bytes
padded_again bytes len h =
    ap (λ n. take len bytes ++ padding n) (length_again bytes len h) ∙ ap
    (λ xs. take len bytes ++ xs) (sym h.padded) ∙ take-append-drop len bytes
