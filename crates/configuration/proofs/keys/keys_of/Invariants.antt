use Rattle.std.proofs.Common.{◌≡◌, []}
use Rattle.serde_json.specs.View.{items_view}
use Rattle.configuration.specs.Configs.{each, key_behind}
use Rattle.configuration.proofs.ConfigLemmas.{left_at}
use Rattle.configuration.proofs.keys.keys_of.Given as goal

abbrev pub invariant-loop-value : goal.invariant-loop-value
invariant-loop-value g l = left_at (key_behind l.subjects) l.keys.items l.value-index l.items ≡ each (key_behind l.subjects) [] (items_view l.items)
