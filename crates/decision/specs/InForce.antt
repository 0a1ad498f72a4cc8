-- The rests that are kept of the document in force.
use Rattle.std.specs.Prelude.{◌≡◌, List, All}
use Rattle.decision.specs.Deciders.{DeciderData}
use Rattle.decision.specs.Rests.{RestsData}

-- these are rests of the document of this decider
abbrev pub AreOf : DeciderData → List RestsData → Type 0
AreOf decider all = All (λ (r : RestsData). r.decider ≡ decider) all
