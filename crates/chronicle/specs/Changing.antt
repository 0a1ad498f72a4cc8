-- How many records there were when the state was changed last.
use Rattle.std.specs.Prelude.{ℕ, Result, Ok, Err}
use Rattle.plain_world.specs.declared.faults.Fault.{Fault}
use Rattle.plain_world.specs.declared.outcomes.Outcome.{Outcome}
use Rattle.plain_world.specs.declared.outcomes.Outcome.TheVariants as outcomes

-- where a list has ended: `now`, how many records there are, if it was applied, and else `before`
abbrev pub after_list : Result Outcome Fault → ℕ → ℕ → ℕ
after_list (Ok (outcomes.Applied version)) before now = now
after_list (Ok (outcomes.Refused refusal denial)) before now = before
after_list (Err fault) before now = before

-- where a document was to be put in force
abbrev pub after_policy : Result ℕ Fault → ℕ → ℕ → ℕ
after_policy (Ok edition) before now = now
after_policy (Err fault) before now = before
