use Rattle.std.proofs.lemmas.List.Filters.{dedup_is}
use Rattle.std.proofs.lemmas.List.Kept.{Contains-dedup_nat}
use Rattle.std.proofs.lemmas.List.Sorted.{Contains-permutation}
use Rattle.std.proofs.lemmas.Map.Keys.{IsStrictlyIncreasing-dedup}
use Rattle.plain_world.proofs.listing.put_in_order.Goals as goal

pub returns-clause-rises : goal.returns-clause-rises
returns-clause-rises g c = rw (dedup_is _ _ _ c.dedup.ensures.filtered) (IsStrictlyIncreasing-dedup _ c.sort_unstable.ensures.sorted)

pub returns-clause-keeps : goal.returns-clause-keeps
returns-clause-keeps g c = λ id has.
    rw (dedup_is _ _ _ c.dedup.ensures.filtered) (Contains-dedup_nat _ id (Contains-permutation _ _ id c.sort_unstable.ensures.permutation has))
