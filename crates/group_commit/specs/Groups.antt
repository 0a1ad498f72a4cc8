-- How items go through a desk.
use Rattle.std.specs.Prelude.{◌≡◌, Bool, true, false, List, []}

-- all that waited was handed over, or nothing was
abbrev pub HandsOver : {T : Type 0} → Bool → List T → List T → List T → Type 0
HandsOver true waited waits given = (given ≡ waited) × (waits ≡ [])
HandsOver false waited waits given = waits ≡ waited
