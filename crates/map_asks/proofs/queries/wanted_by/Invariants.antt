use Rattle.std.proofs.Common.{◌≡◌}
use Rattle.form_urlencoded.specs.Form.{raw_pairs}
use Rattle.form_urlencoded.specs.Parse.{raw_pairs_left}
use Rattle.map_asks.specs.Queries.{blank, wanted_by}
use Rattle.map_asks.proofs.queries.wanted_by.Given as goal

abbrev pub invariant-loop-name : goal.invariant-loop-name
invariant-loop-name l =
    wanted_by l.grid (raw_pairs_left l.name-iterator) l.wanted ≡ wanted_by l.grid (raw_pairs l.query) blank
