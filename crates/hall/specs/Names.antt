-- The opening of a name that stands for no hall.
use Rattle.std.specs.Prelude.{[]}
use Rattle.policy_documents.specs.Documents.{policy}
use Rattle.policy_documents.specs.declared.algorithms.Algorithm.TheVariants.{DenyOverrides}
use Rattle.chronicle.specs.Chronicles.{Opening, opening_by}

abbrev pub no_opening : Opening
no_opening =
    opening_by []
    (record {
      zones = [];
      root = policy (record { name = []; combine = DenyOverrides; target = [] }) [];
    })
