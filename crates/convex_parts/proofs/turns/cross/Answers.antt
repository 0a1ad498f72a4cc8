use Rattle.std.proofs.Common.{◌≤◌, ◌^◌, lit<}
use Rattle.std.specs.Prelude.{ℤ, unsigned_abs}
use Rattle.plane.proofs.Wide.{IsCross, fits-cross, reads-cross, size-reads_cross}
use Rattle.convex_parts.proofs.turns.cross.Goals as goal

sizes : (a b c d : ℤ) → unsigned_abs a ≤ 2 ^ 32 → unsigned_abs b ≤ 2 ^ 32 → unsigned_abs c ≤ 2 ^ 32 → unsigned_abs d ≤ 2 ^ 32
    → IsCross a b c d (2 ^ 32) (2 ^ 32) (2 ^ 32) (2 ^ 32)
sizes a b c d h k i j = record { a_size = h; b_size = k; c_size = i; d_size = j; m_fits = lit< tt; n_fits = lit< tt; k_fits = lit< tt; l_fits = lit< tt; fits = lit< tt }

pub overflow_sub-result : goal.overflow_sub-result
overflow_sub-result c =
    fits-cross c.args.a c.args.b c.args.c c.args.d (2 ^ 32) (2 ^ 32) (2 ^ 32) (2 ^ 32) (sizes c.args.a c.args.b c.args.c c.args.d c.requires.a c.requires.b c.requires.c c.requires.d)

pub returns-clause-value : goal.returns-clause-value
returns-clause-value c =
    reads-cross c.args.a c.args.b c.args.c c.args.d (2 ^ 32) (2 ^ 32) (2 ^ 32) (2 ^ 32) (sizes c.args.a c.args.b c.args.c c.args.d c.requires.a c.requires.b c.requires.c c.requires.d)

pub returns-clause-size : goal.returns-clause-size
returns-clause-size c =
    size-reads_cross c.args.a c.args.b c.args.c c.args.d (2 ^ 32) (2 ^ 32) (2 ^ 32) (2 ^ 32) (sizes c.args.a c.args.b c.args.c c.args.d c.requires.a c.requires.b c.requires.c c.requires.d)
