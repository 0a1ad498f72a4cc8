-- The plain state: what a search is answered from, and what lists and documents change.
use Rattle.std.specs.Prelude.{ℕ, List}
use Rattle.features.specs.declared.rows.Feature.{Feature}
use Rattle.decision.specs.Deciders.{DeciderData}

-- the features, sorted by id; the last version; and the document in force, with its edition
pub record PlainState : Type 0 where
  pub features : List Feature
  pub version : ℕ
  pub decider : DeciderData
