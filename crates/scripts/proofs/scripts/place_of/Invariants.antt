use Rattle.std.proofs.Common.{◌≡◌, ◌+◌, drop}
use Rattle.scripts.specs.Scripts.{place}
use Rattle.scripts.proofs.scripts.place_of.Given as goal

abbrev pub invariant-loop-session : goal.invariant-loop-session
invariant-loop-session l = record {
  at : l.at ≡ l.session-index;
  told : l.at + place l.label (drop l.session-index l.sessions) ≡ place l.label l.sessions;
}
