-- The printed form of a shape.
use Rattle.std.specs.Prelude.{ℕ, List, [], ◌∷◌, ◌++◌, codes}
use Rattle.std.specs.Fmt.{signed_decimal}
use Rattle.std.specs.List.{flat_map}
use Rattle.plane.specs.declared.point.Point.{Point}

-- two coordinates
abbrev pub pair_text : Point → List ℕ
pair_text p = signed_decimal p.x ++ codes " " ++ signed_decimal p.y

-- a pair that is not the first
abbrev pub following_text : Point → List ℕ
following_text p = codes ", " ++ pair_text p

-- the text of the shape with these corners; a ring has its first corner again at the end
abbrev pub printed : List Point → List ℕ
printed [] = []
printed (p ∷ []) = codes "POINT (" ++ pair_text p ++ codes ")"
printed (p ∷ q ∷ []) = codes "LINESTRING (" ++ pair_text p ++ following_text q ++ codes ")"
printed (p ∷ q ∷ r ∷ rest) = codes "POLYGON ((" ++ pair_text p ++ flat_map following_text
    (q ∷ r ∷ rest) ++ following_text p ++ codes "))"
