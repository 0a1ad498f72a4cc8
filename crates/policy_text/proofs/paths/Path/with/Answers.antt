use Rattle.std.proofs.Common.{◌≡◌, ◌<◌, length, take, arith}
use Rattle.policy_text.specs.Paths.{length_again}
use Rattle.policy_text.proofs.PathLemmas.{HoldsParts-set}
use Rattle.policy_text.proofs.paths.Path.with.Goals as goal

pub invariant_of-result : goal.invariant_of-result
invariant_of-result c =
    let len : length (take c.self.inside.len c.self.inside.parts) ≡ c.self.inside.len = length_again _ _ c.self.invariant in
    let room : length (take c.self.inside.len c.self.inside.parts) < 24 = rw c.self.view_is c.requires in
    HoldsParts-set _ _ _ c.self.invariant (omega arith)
