-- Lists in parts.
use Rattle.std.specs.Prelude.{List, [], ◌∷◌, Contains}

module _ {T : Type 0} where
  -- the first list is made of the two others, and each keeps its order
  pub data Parted : List T → List T → List T → Type 0 where
    none : Parted [] [] []
    to_one : {x : T} {whole one other : List T} → Parted whole one other
        → Parted (x ∷ whole) (x ∷ one) other
    to_other : {x : T} {whole one other : List T} → Parted whole one other
        → Parted (x ∷ whole) one (x ∷ other)

  -- the elements of a list that have P, in its order
  pub record Picked (P : T → Type 0) (whole picked : List T) : Type 0 where
    pub left : List T
    pub parted : Parted whole picked left
    pub each : (x : T) → Contains picked x → P x
    pub none_left : (x : T) → Contains left x → P x → ⊥
