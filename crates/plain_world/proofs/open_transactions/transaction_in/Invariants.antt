use Rattle.std.proofs.Common.{◌≡◌, drop}
use Rattle.plain_world.specs.Staging.{transaction_with}
use Rattle.plain_world.proofs.open_transactions.transaction_in.Given as goal

abbrev pub invariant-loop-transaction : goal.invariant-loop-transaction
invariant-loop-transaction g l = transaction_with l.number (drop l.transaction-index l.transactions) ≡ transaction_with l.number l.transactions
