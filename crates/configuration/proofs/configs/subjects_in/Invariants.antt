use Rattle.std.proofs.Common.{◌≡◌}
use Rattle.serde_json.specs.View.{items_view}
use Rattle.configuration.specs.Configs.{subject_behind, subjects_in}
use Rattle.configuration.proofs.ConfigLemmas.{left_at}
use Rattle.configuration.proofs.configs.subjects_in.Given as goal

abbrev pub invariant-loop-value : goal.invariant-loop-value
invariant-loop-value g l = left_at subject_behind l.subjects.items l.value-index l.items ≡ subjects_in (items_view l.items)
