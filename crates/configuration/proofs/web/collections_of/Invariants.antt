use Rattle.std.proofs.Common.{◌≡◌, []}
use Rattle.serde_json.specs.View.{items_view}
use Rattle.configuration.specs.Configs.{collection_in, each}
use Rattle.configuration.proofs.ConfigLemmas.{left_at}
use Rattle.configuration.proofs.web.collections_of.Given as goal

abbrev pub invariant-loop-value : goal.invariant-loop-value
invariant-loop-value g l = left_at collection_in l.names.items l.value-index l.items ≡ each collection_in [] (items_view l.items)
