-- The change that is kept.
use Rattle.features.specs.declared.rows.Change.{Change}
use Rattle.features.specs.declared.rows.Change.TheVariants.{Add, Reshape, Delete}
use Rattle.kept_shapes.specs.declared.changes.Kind.{Kind}
use Rattle.kept_shapes.specs.declared.changes.Kind.TheVariants.{Added, Reshaped, Deleted}

abbrev pub change_kept : {A : Type 0} → Kind A → Change
change_kept (Added id class shape) = Add id class shape
change_kept (Reshaped id version shape) = Reshape id version shape
change_kept (Deleted id version) = Delete id version
