use Rattle.std.proofs.Common.{map, ap, ◌∙◌}
use Rattle.std.proofs.lemmas.Result.{IfOk-weaker}
use Rattle.serde_json.specs.View.{items_of}
use Rattle.policy_text.specs.Printed.{any_of_data}
use Rattle.policy_text.proofs.printing.target_values.Goals as goal

pub returns : goal.returns
returns g c = IfOk-weaker c.part_values.result _ _ (λ values told. ap items_of (told ∙ ap (map any_of_data) c.as_slice.ensures)) c.part_values.ensures
