use Rattle.std.proofs.Common.{refl}
use Rattle.map_calls.proofs.pieces.Pieces.keep.Goals as goal

pub returns-clause-kept : goal.returns-clause-kept
returns-clause-kept g c =
    record {
      piece = record { number = c.saturating_add-number.result; asker = c.args.asker; rolled = c.args.rolled };
      number = c.saturating_add-number.ensures;
      asker_same = refl;
      rolled_same = refl;
      pieces = c.push_reserved.ensures.items;
      given = c.saturating_add-number.ensures;
    }
