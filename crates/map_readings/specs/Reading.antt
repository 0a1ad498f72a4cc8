-- What a request for a server's counts is answered.
use Rattle.std.specs.Prelude.{ℕ, Bool, List, Option, None, Some, codes, nat_eq, if◌then◌else◌}
use Rattle.std.specs.Cmp.Lexicographic.{pointwise}
use Rattle.std.specs.Str.{bytes_eq}
use Rattle.map_asks.specs.declared.faults.AskFault.TheVariants.{NoPage}
use Rattle.map_answers.specs.Answers.{AnswerData, found}
use Rattle.map_answers.specs.Problems.{problem_data}
use Rattle.map_answers.specs.declared.answers.MediaType.TheVariants.{Metrics}
use Rattle.map_answers.specs.declared.statuses.Status.TheVariants.{Forbidden}
use Rattle.map_sessions.specs.Refusals.{refusal_data}
use Rattle.map_sessions.specs.Visiting.{Place, unasked}
use Rattle.map_sessions.specs.declared.refusals.Refusal.TheVariants.{Ask}

-- the path of a server's counts
abbrev pub is_metrics_path : List ℕ → Bool
is_metrics_path path = bytes_eq path (codes "/metrics")

-- the problem of a subject that may not read them
abbrev pub forbidden : AnswerData
forbidden = problem_data Forbidden (codes "metrics") None

-- to the reader the text, to nobody else
abbrev pub answer_to : List ℕ → List ℕ → List ℕ → AnswerData
answer_to reader asker text =
    if pointwise nat_eq asker reader then found Metrics text else forbidden

-- who asks, where somebody may read them
abbrev pub to_somebody : Place → List ℕ → Option (List ℕ) → List ℕ → AnswerData
to_somebody place reader None text = refusal_data (unasked place)
to_somebody place reader (Some asker) text = answer_to reader asker text

-- where nobody may read them there is no such page
abbrev pub metrics_data : Place → Option (List ℕ) → Option (List ℕ) → List ℕ → AnswerData
metrics_data place None asker text = refusal_data (Ask NoPage)
metrics_data place (Some reader) asker text = to_somebody place reader asker text
