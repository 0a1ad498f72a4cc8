-- What a search has found.
use Rattle.std.specs.Prelude.{ℕ, List, map, All, Contains}
use Rattle.plane.specs.declared.point.Point.{Point}
use Rattle.plane.specs.Rows.{Meet}
use Rattle.features.specs.declared.rows.Feature.{Feature}

-- each feature that meets the window has its id among these
abbrev pub NamesAll : List Feature → List Point → List ℕ → Type 0
NamesAll features window ids =
    All (λ feature. Meet feature.shape window → Contains ids feature.id) features

-- each feature that meets the window was found: a pair has its id, whatever the pair's shape
abbrev pub FindsAll : List Feature → List Point → List (ℕ × List Point) → Type 0
FindsAll features window found = NamesAll features window (map (λ pair. pair.0) found)
