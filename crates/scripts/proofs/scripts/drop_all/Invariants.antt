use Rattle.std.proofs.Common.{◌≡◌, [], take}
use Rattle.scripts.specs.Indexed.{AllShut}
use Rattle.scripts.proofs.scripts.drop_all.Given as goal

abbrev pub invariant-loop-session : goal.invariant-loop-session
invariant-loop-session g l = record {
  shuts : AllShut (take l.session-index l.sessions) l.fn.world l.world;
  none : l.sessions ≡ [] → l.world ≡ l.fn.world;
}
