-- The subjects of the built-in configuration.
use Rattle.std.specs.Prelude.{true, false, List, [], ◌∷◌, codes}
use Rattle.features.specs.declared.actors.Subject.{Subject}

abbrev pub built_in : List Subject
built_in =
    record { name = codes "north"; office = codes "north"; role = codes "editor"; steward = false }
    ∷ record {
      name = codes "south";
      office = codes "south";
      role = codes "viewer";
      steward = false;
    }
    ∷ record { name = codes "chief"; office = codes "hq"; role = codes "chief"; steward = true }
    ∷ []
