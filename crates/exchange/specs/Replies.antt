-- The row of a feature in a server's reply to a search.
use Rattle.std.specs.Prelude.{ℕ, ◌<◌, ◌^◌, IsTrue, List, ◌++◌, codes, decimal}
use Rattle.features.specs.Names.{is_name}
use Rattle.features.specs.declared.rows.Feature.{Feature}
use Rattle.plane.specs.Canonical.{IsCanonical}
use Rattle.wkt.specs.Printing.{printed}

-- id, version, office, class and shape
abbrev pub reply_row : Feature → List ℕ
reply_row feature =
    decimal feature.id ++ codes " " ++ decimal feature.version ++ codes " " ++ feature.office
    ++ codes " " ++ feature.class ++ codes " " ++ printed feature.shape

-- a feature as a program holds one: its numbers are below 2^64, its names are names, and its shape
-- has the corners of a shape
pub record IsWhole (feature : Feature) : Type 0 where
  pub id : feature.id < 2 ^ 64
  pub version : feature.version < 2 ^ 64
  pub office : IsTrue (is_name feature.office)
  pub class : IsTrue (is_name feature.class)
  pub shape : IsCanonical feature.shape
