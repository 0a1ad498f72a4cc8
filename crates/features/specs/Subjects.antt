-- Lists of subjects.
use Rattle.std.specs.Prelude.{◌≡◌, ℕ, ◌≤◌, Bool, List, [], ◌∷◌, length, take, Option, None, Some, Result, Ok, Err, if◌then◌else◌, nat_eq, nat_lt, ◌&&◌, true, is_none, IsTrue}
use Rattle.std.specs.Cmp.Lexicographic.{pointwise}
use Rattle.features.specs.declared.actors.TheConstants.{SUBJECT_LIMIT}
use Rattle.features.specs.declared.actors.Subject.{Subject}
use Rattle.features.specs.declared.actors.SubjectsFault.{SubjectsFault}
use Rattle.features.specs.declared.actors.SubjectsFault.TheVariants.{NoneGiven, TooMany, NameTwice}

-- the first subject with this name
abbrev pub subject_named : List ℕ → List Subject → Option Subject
subject_named name [] = None
subject_named name (s ∷ ss) = if pointwise nat_eq s.name name then Some s else subject_named name ss

-- no two subjects have the same name
abbrev pub have_distinct_names : List Subject → Bool
have_distinct_names [] = true
have_distinct_names (s ∷ ss) = is_none (subject_named s.name ss) && have_distinct_names ss

-- a list of subjects, if it is valid, or why it is not
abbrev pub subjects_of : List Subject → Result (List Subject) SubjectsFault
subjects_of [] = Err NoneGiven
subjects_of (s ∷ ss) =
    if nat_lt SUBJECT_LIMIT (length (s ∷ ss)) then Err TooMany
    else if have_distinct_names (s ∷ ss) then Ok (s ∷ ss)
    else Err NameTwice

-- an array of `SUBJECT_LIMIT` subjects that starts with this many, at least one, of distinct names
pub record HoldsSubjects (places : List Subject) (count : ℕ) : Type 0 where
  pub whole : length places ≡ SUBJECT_LIMIT
  pub within : count ≤ SUBJECT_LIMIT
  pub filled : 1 ≤ count
  pub distinct : IsTrue (have_distinct_names (take count places))
