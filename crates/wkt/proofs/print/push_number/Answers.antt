use Rattle.std.proofs.Common.{arith}
use Rattle.wkt.proofs.PrintingLemmas.{format_room}
use Rattle.wkt.proofs.print.push_number.Goals as goal

pub push_str-requires : goal.push_str-requires
push_str-requires c =
    let fits = format_room c.args.n c.format.result.now c.ranges.n c.format.ensures.text c.requires.range in
    (omega arith, omega (arith, c.requires.room))

pub returns-clause-room : goal.returns-clause-room
returns-clause-room c =
    let fits = format_room c.args.n c.format.result.now c.ranges.n c.format.ensures.text c.requires.range in
    omega (arith, c.push_str.ensures.len)
