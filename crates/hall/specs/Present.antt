-- What the two locks of a hall agree on: the present chronicle.
use Rattle.std.specs.Prelude.{◌≡◌, Option, None, Some}
use Rattle.std.specs.Coded.{Coded, Coded-set, coded_option, code_by, codes}
use Rattle.decision.specs.Deciders.{DeciderData}
use Rattle.chronicle.specs.Chronicles.{ChronicleData}
use Rattle.chronicle.specs.Coding.{StoredChronicle, stored_chronicle, restored_chronicle, restored_chronicle-stored_chronicle}

-- the policy in force at a chronicle
abbrev pub policy_of : Option ChronicleData → Option DeciderData
policy_of None = None
policy_of (Some c) = Some c.state.decider

-- Two optional chronicles are equal in at most one way. A struct that keeps such an equation as a
-- fact cites this.
pub present_set : (x y : Option ChronicleData) → IsProp (x ≡ y)
present_set x y =
    let chronicle_coded : Coded ChronicleData =
    code_by StoredChronicle (Prim.hlevel codes) stored_chronicle restored_chronicle
    restored_chronicle-stored_chronicle in
    Coded-set (coded_option chronicle_coded) x y
