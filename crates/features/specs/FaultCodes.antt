-- The codes of the faults of subjects.
use Rattle.std.specs.Prelude.{ℕ, List, codes}
use Rattle.features.specs.declared.actors.SubjectsFault.{SubjectsFault}
use Rattle.features.specs.declared.actors.SubjectsFault.TheVariants.{NoneGiven, TooMany, NameTwice}

abbrev pub subjects_code : SubjectsFault → List ℕ
subjects_code NoneGiven = codes "N1"
subjects_code TooMany = codes "N2"
subjects_code NameTwice = codes "N3"
