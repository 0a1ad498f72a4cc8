-- The coding of lists of deciders, by which proofs tell two of them apart: each decider is stored
-- as its document's zones and parts, and its edition.
use Rattle.std.specs.Prelude.{◌≡◌, List, [], ◌∷◌, map, refl, Option}
use Rattle.std.specs.Coded.{Coded, Coded-set, coded_option, code_by, codes}
use Rattle.logbook.specs.Pages.{Book}
use Rattle.decision.specs.Deciders as deciders
use Rattle.decision.specs.Deciders.{DeciderData}
use Rattle.published_policies.specs.Lists.{SeenData, seen_in}

abbrev pub StoredList : Type 0
StoredList = List deciders.Stored

abbrev pub stored_list : List DeciderData → StoredList
stored_list list = map deciders.stored list

abbrev pub restored_list : StoredList → List DeciderData
restored_list stored = map deciders.restored stored

abbrev pub restored_list-stored_list : (list : List DeciderData)
    → restored_list (stored_list list) ≡ list
restored_list-stored_list [] = refl
restored_list-stored_list (decider ∷ later) =
    let first = deciders.restored-stored decider in
    let rest = restored_list-stored_list later in
    λ i. first i ∷ rest i

abbrev pub StoredSeen : Type 0
StoredSeen = Book × StoredList

abbrev pub stored_seen : SeenData → StoredSeen
stored_seen seen = (seen.book, stored_list seen.list)

abbrev pub restored_seen : StoredSeen → SeenData
restored_seen stored = seen_in stored.0 (restored_list stored.1)

abbrev pub restored_seen-stored_seen : (seen : SeenData) → restored_seen (stored_seen seen) ≡ seen
restored_seen-stored_seen seen =
    let list = restored_list-stored_list seen.list in λ i. seen_in seen.book (list i)

-- Two optional deciders are equal in at most one way. A struct that keeps such an equation as a
-- fact cites this.
pub decider_set : (x y : Option DeciderData) → IsProp (x ≡ y)
decider_set x y =
    let decider_coded : Coded DeciderData =
    code_by deciders.Stored (Prim.hlevel codes) deciders.stored deciders.restored
    deciders.restored-stored in
    Coded-set (coded_option decider_coded) x y
