use Rattle.std.proofs.Common.{◌≡◌, drop}
use Rattle.plain_world.specs.Staging.{staged_in}
use Rattle.plain_world.proofs.open_transactions.staged_in.Given as goal

abbrev pub invariant-loop-transaction : goal.invariant-loop-transaction
invariant-loop-transaction g l = staged_in l.number (drop l.transaction-index l.transactions) ≡ staged_in l.number l.transactions
