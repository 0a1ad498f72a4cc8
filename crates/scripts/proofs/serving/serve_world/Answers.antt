use Rattle.std.proofs.Common.{◌≡◌, None, rules}
use Rattle.scripts.specs.declared.solos.Solo.{Solo}
use Rattle.scripts.specs.Causes.{Causes}
use Rattle.scripts.specs.Indexed.{ServesThere, asks_for}
use Rattle.session_lines.specs.Replies.{SaidData}
use Rattle.session_lines.specs.Services.{Call, no_keys}
use Rattle.scripts.specs.Services.{ServesCall, solo_subject}
use Rattle.scripts.specs.States.{SoloIn, SoloState, solo}
use Rattle.world.specs.Index.{IndexedWorld}
use Rattle.scripts.proofs.LentLemmas.{run_idles, run_shown}
use Rattle.session_lines.proofs.ServingLemmas.{served_text_of}
use Rattle.scripts.proofs.serving.serve_world.Goals as goal

pub returns-clause-served_text : goal.returns-clause-served_text
returns-clause-served_text g c =
    let see : Solo g.row.A.Denot → SoloState = λ s. solo s.world.now.plain s.seat in
    let lent : Call → Solo g.row.A.Denot → Solo g.row.A.Denot → SaidData → Type 0 =
    λ call old new said. (new.world.ghost_name ≡ old.world.ghost_name) × ServesCall call (see old) (see new) said × Causes call old.seat old.world.now new.world.now said in
    let run = run_shown see (λ s. s.world.ghost_name) solo_subject lent ServesCall (λ call old new said h. h.0) (λ call old new said h. h.1)
    c.serve.result _ _ _ (solo c.args.world.now.plain None) (solo _ c.serve.new.service.seat) _ _ _ _ c.serve.ensures.calls (search rules) (search rules) c.serve.ensures.ran.1 in
    (c.serve.new.service.seat, served_text_of no_keys solo_subject ServesCall c.serve.result _ _ _ _ _ _ _ run)

pub returns-clause-ran : goal.returns-clause-ran
returns-clause-ran g c =
    let see : Solo g.row.A.Denot → SoloState = λ s. solo s.world.now.plain s.seat in
    let lent : Call → Solo g.row.A.Denot → Solo g.row.A.Denot → SaidData → Type 0 =
    λ call old new said. (new.world.ghost_name ≡ old.world.ghost_name) × ServesCall call (see old) (see new) said × Causes call old.seat old.world.now new.world.now said in (
      c.serve.ensures.ran.0,
      c.serve.new.service.seat,
      run_shown see (λ s. s.world.ghost_name) solo_subject lent ServesCall (λ call old new said h. h.0) (λ call old new said h. h.1)
          c.serve.result _ _ _ (solo c.args.world.now.plain None) (solo _ c.serve.new.service.seat) _ _ _ _ c.serve.ensures.calls (search rules) (search rules) c.serve.ensures.ran.1,
    )

pub returns-clause-runs : goal.returns-clause-runs
returns-clause-runs g c =
    let see : Solo g.row.A.Denot → SoloIn IndexedWorld = λ s. solo s.world.now s.seat in
    let lent : Call → Solo g.row.A.Denot → Solo g.row.A.Denot → SaidData → Type 0 =
    λ call old new said. (new.world.ghost_name ≡ old.world.ghost_name)
    × ServesCall call (solo old.world.now.plain old.seat) (solo new.world.now.plain new.seat) said × Causes call old.seat old.world.now new.world.now said in (
      c.serve.ensures.ran.0,
      c.serve.new.service.seat,
      run_shown see (λ s. s.world.ghost_name) asks_for lent ServesThere (λ call old new said h. h.0) (λ call old new said h. (h.1, h.2))
          c.serve.result _ _ _ (solo c.args.world.now None) (solo _ c.serve.new.service.seat) _ _ _ _ c.serve.ensures.calls (search rules) (search rules) c.serve.ensures.ran.1,
    )

pub returns-clause-idle : goal.returns-clause-idle
returns-clause-idle g c still =
    let see : Solo g.row.A.Denot → SoloState = λ s. solo s.world.now.plain s.seat in
    let lent : Call → Solo g.row.A.Denot → Solo g.row.A.Denot → SaidData → Type 0 =
    λ call old new said. (new.world.ghost_name ≡ old.world.ghost_name) × ServesCall call (see old) (see new) said × Causes call old.seat old.world.now new.world.now said in
    run_idles see (λ s. s.world.ghost_name) lent (λ call old new said h. h.0) (λ call old new said h. h.1) _ _ (solo c.args.world.now.plain None) (solo _ c.serve.new.service.seat) c.serve.ensures.calls (search rules) (search rules) still
