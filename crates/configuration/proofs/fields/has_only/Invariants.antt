use Rattle.std.proofs.Common.{◌≡◌}
use Rattle.serde_json.specs.View.{members_view}
use Rattle.configuration.specs.Configs.{has_only}
use Rattle.configuration.proofs.fields.has_only.Given as goal

abbrev pub invariant-loop-key : goal.invariant-loop-key
invariant-loop-key l = has_only l.listed (members_view l.key-iterator) ≡ has_only l.listed (members_view l.members.entries)
