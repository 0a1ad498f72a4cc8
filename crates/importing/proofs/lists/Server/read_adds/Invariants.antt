use Rattle.std.proofs.Common.{◌≡◌, vec_len}
use Rattle.importing.proofs.lists.Server.read_adds.Given as goal

abbrev pub invariant-loop-addition : goal.invariant-loop-addition
invariant-loop-addition g l = vec_len l.adds ≡ l.addition-index
