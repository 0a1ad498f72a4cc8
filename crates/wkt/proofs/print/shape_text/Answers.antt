use Rattle.std.proofs.Common.{rules, ◌≡◌, sym, subst}
use Rattle.wkt.specs.Printing.{printed}
use Rattle.wkt.specs.Spelling.{Spells}
use Rattle.wkt.proofs.PrintedShapes.{printed_is_read}
use Rattle.wkt.proofs.SpellingFound.{found}
use Rattle.wkt.proofs.print.shape_text.Goals as goal

pub returns-clause-spells : goal.returns-clause-spells
returns-clause-spells c =
    let bytes : c.push_corners.new.text.bytes ≡ printed c.args.shape.now = search rules in
    subst (λ text. Spells text c.args.shape.now) (sym bytes)
    (found (printed c.args.shape.now) c.args.shape.now (printed_is_read c.args.shape.now c.corners.ensures.canonical))
