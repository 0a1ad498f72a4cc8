use Rattle.map_asks.proofs.BoxLemmas.{beyond_is_nothing, crossed_has_none, window_is}
use Rattle.map_asks.proofs.laws.window_is_box.Goals as goal

pub returns : goal.returns
returns c = record { none = crossed_has_none; nothing = beyond_is_nothing; shape = window_is }
