-- Rows before the first one that has a greater id.
use Rattle.std.proofs.Common.{◌≤◌, Bool, List, length}
use Rattle.std.proofs.lemmas.List.Sums.{prefix_len-le-length}
use Rattle.std.specs.List.{prefix_len}
use Rattle.features.specs.declared.rows.Feature.{Feature}

pub prefix_fits : (p : Feature → Bool) (rows : List Feature) → prefix_len p rows ≤ length rows
prefix_fits p rows = prefix_len-le-length p rows
