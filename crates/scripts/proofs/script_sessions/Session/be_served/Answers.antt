use Rattle.std.proofs.Common.{◌≡◌, refl, rules}
use Rattle.scripts.specs.declared.solos.Solo.{Solo}
use Rattle.scripts.specs.Causes.{Causes}
use Rattle.scripts.specs.Indexed.{ServesThere, asks_for}
use Rattle.session_lines.specs.Replies.{SaidData, said_view}
use Rattle.session_lines.specs.Services.{Call}
use Rattle.scripts.specs.Services.{ServesCall}
use Rattle.scripts.specs.States.{SoloIn, solo}
use Rattle.session_lines.specs.Desks.{desk}
use Rattle.world.specs.Index.{IndexedWorld}
use Rattle.scripts.proofs.LentLemmas.{session_shown}
use Rattle.scripts.proofs.script_sessions.Session.be_served.Goals as goal

pub returns-clause-answers : goal.returns-clause-answers
returns-clause-answers g c =
    let see : Solo g.row.A.Denot → SoloIn IndexedWorld = λ s. solo s.world.now s.seat in
    let lent : Call → Solo g.row.A.Denot → Solo g.row.A.Denot → SaidData → Type 0 =
    λ call old new said. (new.world.ghost_name ≡ old.world.ghost_name)
    × ServesCall call (solo old.world.now.plain old.seat) (solo new.world.now.plain new.seat) said × Causes call old.seat old.world.now new.world.now said in
    session_shown see (λ s. s.world.ghost_name) asks_for lent ServesThere (λ call old new said h. h.0) (λ call old new said h. (h.1, h.2)) c.args.text.now
    (desk c.self.inside.staged c.at-solo.result) (desk c.answer-said.new.staged c.answer-said.new.service) (said_view c.answer-said.result)
    c.args.self.now.staged c.answer-said.new.staged (solo c.args.world.now c.args.self.now.seat) _ c.answer-said.ensures (search rules) (search rules) refl (search rules)
