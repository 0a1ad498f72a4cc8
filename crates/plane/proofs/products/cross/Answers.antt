use Rattle.plane.proofs.Long.{fits-cross, reads-cross}
use Rattle.plane.proofs.products.cross.Goals as goal

pub overflow_sub-result : goal.overflow_sub-result
overflow_sub-result c =
    fits-cross c.args.a c.args.b c.args.c c.args.d (record { a_size = c.requires.a; b_size = c.requires.b; c_size = c.requires.c; d_size = c.requires.d })

pub returns : goal.returns
returns c = reads-cross c.args.a c.args.b c.args.c c.args.d (record { a_size = c.requires.a; b_size = c.requires.b; c_size = c.requires.c; d_size = c.requires.d })
