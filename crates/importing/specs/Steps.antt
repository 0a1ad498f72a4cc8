-- What follows once a list is answered.
use Rattle.std.specs.Prelude.{◌≡◌, ◌⊎◌, ℕ, ◌+◌, ◌<◌, Bool, true, false, List, [], ◌∷◌, length, count_by, take, slice_index_or}
use Rattle.importing.specs.declared.replies.Reply.{Reply}
use Rattle.importing.specs.declared.replies.Reply.TheVariants.{Staged, Applied, Busy, Denied, Exists, Error, Unknown}
use Rattle.importing.specs.declared.steps.Step.{Step}
use Rattle.importing.specs.declared.steps.Step.TheVariants.{Done, CommitAgain, Denies, Meets, Stop}

abbrev pub is_staged : Reply → Bool
is_staged Staged = true
is_staged _ = false

abbrev pub is_known : Reply → Bool
is_known Staged = true
is_known Error = true
is_known _ = false

-- the addition at this index was staged, as this one of those that were staged, counted from 1
pub record IsStagedAs (adds : List Reply) (index change : ℕ) : Type 0 where
  pub within : index < length adds
  pub staged : is_staged (slice_index_or adds index Unknown) ≡ true
  pub number : count_by is_staged (take index adds) + 1 ≡ change

-- no addition was staged as this one of them
abbrev pub HasNo : List Reply → ℕ → Type 0
HasNo adds change = (change ≡ 0) ⊎ (count_by is_staged adds < change)

-- nothing follows from the reply to COMMIT: it names an addition that was not staged, or it is one
-- after which the server cannot go on with the list, or is not known
abbrev pub Ends : List Reply → Reply → Type 0
Ends adds Applied = ⊥
Ends adds Busy = ⊥
Ends adds (Denied change) = HasNo adds change
Ends adds (Exists change) = HasNo adds change
Ends adds _ = Unit {0}

-- What follows from the replies to the additions of a list and to its COMMIT. Nothing is done by
-- guess: each case names the reply that it comes of.
abbrev pub Follows : List Reply → Reply → Step → Type 0
Follows adds commit Done = (commit ≡ Applied)
Follows adds commit CommitAgain = (commit ≡ Busy)
Follows adds commit (Denies index) = (change : ℕ) × (commit ≡ Denied change) × IsStagedAs adds index change
Follows adds commit (Meets index) = (change : ℕ) × (commit ≡ Exists change) × IsStagedAs adds index change
Follows adds commit Stop = Ends adds commit

-- the addition that a step names was staged
abbrev pub PointsTo : List Reply → Step → Type 0
PointsTo adds (Denies index) = (index < length adds) × (is_staged (slice_index_or adds index Unknown) ≡ true)
PointsTo adds (Meets index) = (index < length adds) × (is_staged (slice_index_or adds index Unknown) ≡ true)
PointsTo adds _ = Unit {0}
