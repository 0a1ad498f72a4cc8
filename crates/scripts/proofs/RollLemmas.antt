-- ROLL: the trail is taken out.
use Rattle.std.proofs.Common.{◌≡◌, ℕ, Option, Some, Result, MatchOption, sym, subst}
use Rattle.plain_world.specs.declared.faults.Fault.{Fault}
use Rattle.plain_world.specs.Events.{Happens, Roll as RollEvent, TakenOut, reply_of}
use Rattle.plain_world.specs.Rolls.{RolledData}
use Rattle.session_lines.specs.declared.faults.LineFault.TheVariants.{BeforeHello}
use Rattle.session_lines.specs.declared.replies.Reply.TheVariants.{Error}
use Rattle.session_lines.specs.Replies.{SaidData, line, rolled, told}
use Rattle.session_lines.specs.Services.{Roll}
use Rattle.scripts.specs.Services.{ServesCall}
use Rattle.scripts.specs.States.{SoloState}

-- ROLL, by its result
pub rolled_so : (seat : ℕ) (old new : SoloState) (end : Result RolledData Fault) (said : SaidData) → old.seat ≡ Some seat → new.seat ≡ old.seat
    → Happens (RollEvent seat) old.world new.world (reply_of TakenOut end) → said ≡ told rolled end → ServesCall Roll old new said
rolled_so seat old new end said is same all shown =
    subst (λ (s : Option ℕ). MatchOption s ((new ≡ old) × (said ≡ line (Error BeforeHello))) (λ seat. (new.seat ≡ old.seat)
    × ((end : Result RolledData Fault) × Happens (RollEvent seat) old.world new.world (reply_of TakenOut end) × (said ≡ told rolled end)))) (sym is)
    (same, (end, all, shown))
