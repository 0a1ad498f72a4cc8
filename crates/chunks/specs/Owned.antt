-- What a row of places owns and lends, and who may free its block, at any type R of the values.
use Rattle.std.specs.Prelude.{ℕ, ◌*◌, ◌^◌, ◌<◌, List, [], ◌∷◌, length, Option, Some, None}
use base.Fraction.{full_share}
use base.Fml.{Lft, Fml, ftrue, fsep, flt}
use mir.Syntax.{Ty, ty_array}
use mir.Raw.{raw}
use prog.Memory.{size}
use denote.RattleType.{RattleType}
use denote.Memory.{lone}
use denote.RawPtr.{Ptr, lies_at, room_for, in_block, ◌+ₚ◌}
use denote.Sharing.{nothing, said, beside}
use denote.Struct.Lending.{lent_at}

-- how many bytes a place has
abbrev pub place_size : RattleType → ℕ
place_size R = size (lone R.mir)

-- a block of this many places has fewer than 2 ^ 63 bytes
abbrev pub FitsBlock : RattleType → ℕ → Type 0
FitsBlock R count = (count * place_size R < 2 ^ 63) × (count < 2 ^ 63)

-- the place at p: a value, or room for one
abbrev pub one_place : (R : RattleType) → Option R.Denot → Ptr → Fml
one_place R None p = room_for (raw (lone R.mir)) p
one_place R (Some value) p = lies_at R full_share p value

-- the places from p on
abbrev pub all_places : (R : RattleType) → List (Option R.Denot) → Ptr → Fml
all_places R [] p = ftrue
all_places R (item ∷ items) p = fsep (one_place R item p) (all_places R items (p +ₚ place_size R))

-- what a row owns: its places, which lie in one block of fewer than 2 ^ 63 bytes
abbrev pub row_owned : (R : RattleType) → Ptr → List (Option R.Denot) → Fml
row_owned R p items =
    fsep (flt (length items * place_size R) (2 ^ 63)) (in_block p (all_places R items p))

-- what a `&` to a place lends: a `&` to its value
abbrev pub place_lent : (R : RattleType) → Option R.Denot → Ptr → Lft → Fml
place_lent R None p = nothing
place_lent R (Some value) p = lent_at R p value

abbrev pub places_lent : (R : RattleType) → List (Option R.Denot) → Ptr → Lft → Fml
places_lent R [] p = nothing
places_lent R (item ∷ items) p =
    beside (place_lent R item p) (places_lent R items (p +ₚ place_size R))

-- what a `&` to a row lends
abbrev pub row_lent : (R : RattleType) → Ptr → List (Option R.Denot) → Lft → Fml
row_lent R p items =
    beside (said (flt (length items * place_size R) (2 ^ 63))) (places_lent R items p)

-- the right to free a block of `count` places at p, which the token of an allocator gives
abbrev pub may_free : (Ty → Ptr → Fml) → RattleType → Ptr → ℕ → Fml
may_free token R p count = token (raw (ty_array (lone R.mir) count)) p
