-- How a world's value is coded. Its plain part is coded as that of a plain world.
use Rattle.std.specs.Prelude.{◌≡◌, List}
use Rattle.plain_world.specs.Coding.{StoredWorld, stored_world, restored_world, restored_world-stored_world}
use Rattle.world.specs.Index.{Index, IndexedWorld}
use Rattle.world.specs.Walks.{JourneyData}

abbrev pub StoredIndexed : Type 0
StoredIndexed = StoredWorld × Index × List JourneyData

abbrev pub stored_indexed : IndexedWorld → StoredIndexed
stored_indexed w = (stored_world w.plain, w.index, w.walks)

abbrev pub restored_indexed : StoredIndexed → IndexedWorld
restored_indexed s = record { plain = restored_world s.0; index = s.1; walks = s.2 }

abbrev pub restored_indexed-stored_indexed : (w : IndexedWorld)
    → restored_indexed (stored_indexed w) ≡ w
restored_indexed-stored_indexed w =
    let plain = restored_world-stored_world w.plain in
    λ i. record { plain = plain i; index = w.index; walks = w.walks }
