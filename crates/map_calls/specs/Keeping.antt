-- Pieces of the trail that were taken out, and are kept until they are let go.
use Rattle.std.specs.Prelude.{◌≡◌, ℕ, ◌+◌, ◌==◌, ◌&&◌, Bool, true, false, List, [], ◌∷◌, ◌++◌, length, remove, nat_eq, nat_le, Option, None, Some, if◌then◌else◌}
use Rattle.std.specs.Arc.{arc_value}
use Rattle.std.specs.Cmp.Lexicographic.{pointwise}
use Rattle.audit_trail.specs.JsonLines.{lines_from}
use Rattle.plain_world.specs.Rolls.{RolledData}
use Rattle.map_sessions.specs.Keeping.{next_number}
use Rattle.map_calls.specs.declared.pieces.Piece.{Piece}
use Rattle.map_calls.specs.declared.pieces.Pieces.{Pieces}
use Rattle.map_calls.specs.declared.pieces.TheConstants.{PIECE_LIMIT}

-- the pieces that are kept, the oldest first, and the greatest number that was given
pub record PiecesData (A : Type 0) : Type 0 where
  pub pieces : List (Piece A)
  pub given : ℕ

abbrev pub pieces_data : {A : Type 0} → Pieces A → PiecesData A
pieces_data pieces = record { pieces = pieces.pieces.items; given = pieces.given }

abbrev pub no_pieces : {A : Type 0} → PiecesData A
no_pieces = record { pieces = []; given = 0 }

-- as many are kept as may be
abbrev pub is_full : {A : Type 0} → PiecesData A → Bool
is_full kept = nat_le PIECE_LIMIT (length kept.pieces)

-- one more piece is kept for who took it out, under the next number
pub record IsPieceKept {A : Type 0} (asker : List ℕ) (rolled : RolledData)
    (old new : PiecesData A) : Type 0 where
  pub piece : Piece A
  pub number : piece.number ≡ next_number old.given
  pub asker_same : piece.asker ≡ asker
  pub rolled_same : arc_value piece.rolled ≡ rolled
  pub pieces : new.pieces ≡ old.pieces ++ piece ∷ []
  pub given : new.given ≡ next_number old.given

-- the piece has this number, and was taken out by this subject
abbrev pub is_asked : {A : Type 0} → ℕ → List ℕ → Piece A → Bool
is_asked number asker piece = (piece.number == number) && pointwise nat_eq piece.asker asker

-- the lines of a piece: its records, by rising number
abbrev pub lines_of : RolledData → List (List ℕ)
lines_of rolled = lines_from rolled.first rolled.records

-- the lines of the piece of a number, if this subject took it out
abbrev pub lines_asked : {A : Type 0} → ℕ → List ℕ → List (Piece A) → Option (List (List ℕ))
lines_asked number asker [] = None
lines_asked number asker (piece ∷ pieces) =
    if is_asked number asker piece then Some (lines_of (arc_value piece.rolled))
    else lines_asked number asker pieces

-- where that piece stands, counted from a number on
abbrev pub place_asked : {A : Type 0} → ℕ → ℕ → List ℕ → List (Piece A) → Option ℕ
place_asked from number asker [] = None
place_asked from number asker (piece ∷ pieces) =
    if is_asked number asker piece then Some from else place_asked (from + 1) number asker pieces

-- whether there is a piece at a place, and the pieces without it
abbrev pub without : {A : Type 0} → Option ℕ → PiecesData A → Bool × PiecesData A
without None kept = (false, kept)
without (Some place) kept = (true, record kept { pieces = remove kept.pieces place })

-- whether there is a piece of this number and this subject, and the pieces without it
abbrev pub left_of : {A : Type 0} → ℕ → List ℕ → PiecesData A → Bool × PiecesData A
left_of number asker kept = without (place_asked 0 number asker kept.pieces) kept
