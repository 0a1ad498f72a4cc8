use Rattle.std.proofs.Common.{arith}
use Rattle.std.proofs.lemmas.Grind.{common_steps}
use Rattle.convex_parts.proofs.Runs.{detour_read}
use Rattle.convex_parts.proofs.bridges.detour.Goals as goal

pub returns-in_ok-try_extend-3 : goal.returns-in_ok-try_extend-3
returns-in_ok-try_extend-3 g c = λ f h.
    detour_read f h c.args.ring.now c.args.at c.requires c.args.hole.now c.if-hole-lt2.false (c.are_equal.ensures.0 c.if-are_equal.true)
    _ _ _ _ _ _ c.new-whole.ensures.items (grind (arith, common_steps)) (grind (arith, common_steps)) c.in_ok-try_extend.ensures.items c.in_ok-try_extend-2.ensures.items c.in_ok-try_extend-3.ensures.items
