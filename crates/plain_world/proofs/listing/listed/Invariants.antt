use Rattle.std.proofs.Common.{◌≡◌, ◌≤◌, ◌+◌, drop}
use Rattle.judging.proofs.ListingLemmas.{Lists}
use Rattle.plain_world.proofs.FindingLemmas.{looked_up}
use Rattle.plain_world.proofs.listing.listed.Given as goal

abbrev pub invariant-loop-id : goal.invariant-loop-id
invariant-loop-id g l = record {
  same : l.reading ≡ l.fn.reading;
  told : Lists l.fn.reading.decider.document l.fn.reading.subject l.window (looked_up l.store l.ids) (looked_up l.store (drop l.id-index l.ids)) l.rows.items;
  looked : l.lookup ≡ l.store;
  metered : l.meter ≤ l.fn.meter + l.id-index;
  raised : l.fn.meter ≤ l.meter;
  within : l.meter ≤ 18446744073709551615;
}
