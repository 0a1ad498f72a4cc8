-- What one sees who follows the links from page to page.
use Rattle.std.specs.Prelude.{ℕ, zero, suc, List, [], ◌++◌, Option, Some}
use Rattle.std.specs.Option.{option_map_or}
use Rattle.features.specs.declared.rows.Feature.{Feature}
use Rattle.map_answers.specs.Rows.{page, next_after}

-- the rows of a page that begins behind an id, and of those to which it leads; so many pages at most
abbrev pub followed : ℕ → Option ℕ → ℕ → List Feature → List Feature
followed zero after limit rows = []
followed (suc n) after limit rows =
    page after limit rows
    ++ option_map_or (λ id. followed n (Some id) limit rows) (next_after after limit rows) []
