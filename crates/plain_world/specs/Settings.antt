-- What a world was opened with, and the next numbers that it gives.
use Rattle.std.specs.Prelude.{◌≡◌, ◌+◌, ℕ, List}
use Rattle.features.specs.declared.actors.Subject.{Subject}
use Rattle.decision.specs.Deciders.{DeciderData}
use Rattle.plain_world.specs.Events.{Event, OpenSearch, Begin, Reply, Number}
use Rattle.plain_world.specs.States.{WorldData}
use Rattle.plain_world.specs.declared.settings.Limits.{Limits}
use Rattle.plain_world.specs.declared.settings.Starts.{Starts}

-- the subjects, the opening decider, where numbers started, the limits, and the next numbers of a
-- search and of a transaction
pub record Settings : Type 0 where
  pub subjects : List Subject
  pub opening : DeciderData
  pub starts : Starts
  pub limits : Limits
  pub next_search : ℕ
  pub next_transaction : ℕ

abbrev pub settings : WorldData → Settings
settings w =
    record {
      subjects = w.subjects;
      opening = w.opening;
      starts = w.starts;
      limits = w.limits;
      next_search = w.next_search;
      next_transaction = w.next_transaction;
    }

-- A search or a transaction that opens gets the next number, and the next one is then one higher.
-- No event changes anything else of these, so no number is given twice.
abbrev pub IsSettled : Event → WorldData → WorldData → Reply → Type 0
IsSettled (OpenSearch seat window) old new (Number number) =
    (number ≡ old.next_search) × (settings new ≡ record (settings old) { next_search = number + 1 })
IsSettled (Begin seat) old new (Number number) =
    (number ≡ old.next_transaction)
    × (settings new ≡ record (settings old) { next_transaction = number + 1 })
IsSettled event old new reply = settings new ≡ settings old
