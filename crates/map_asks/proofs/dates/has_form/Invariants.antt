use Rattle.std.proofs.Common.{◌≡◌, drop}
use Rattle.map_asks.specs.Dates.{has_form}
use Rattle.map_asks.proofs.dates.has_form.Given as goal

abbrev pub invariant-loop-wanted : goal.invariant-loop-wanted
invariant-loop-wanted l = has_form (drop l.wanted-index l.form) l.rest ≡ has_form l.form l.text
