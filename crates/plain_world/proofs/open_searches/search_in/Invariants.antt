use Rattle.std.proofs.Common.{◌≡◌, drop}
use Rattle.plain_world.specs.Admitting.{search_with}
use Rattle.plain_world.proofs.open_searches.search_in.Given as goal

abbrev pub invariant-loop-search : goal.invariant-loop-search
invariant-loop-search l = search_with l.number (drop l.search-index l.searches) ≡ search_with l.number l.searches
