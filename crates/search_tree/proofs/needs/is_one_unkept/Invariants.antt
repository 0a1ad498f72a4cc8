use Rattle.std.proofs.Common.{◌≡◌, ◌<◌, ℕ, IsTrue, slice_get, Some}
use Rattle.search_tree.proofs.needs.is_one_unkept.Given as goal

abbrev pub invariant-loop-pair : goal.invariant-loop-pair
invariant-loop-pair g l =
    (i : ℕ) (pair : ℕ × g.row.I.Denot) → i < l.pair-index → slice_get l.pairs i ≡ Some pair → IsTrue (g.K.Keeper.kept l.keeper pair.0 pair.1)
