use Rattle.std.proofs.Common.{refl, ap, ◌∙◌}
use Rattle.map_sessions.specs.Keeping.{trimmed}
use Rattle.map_sessions.proofs.kept.Kept.keep.Goals as goal

pub returns-clause-ok : goal.returns-clause-ok
returns-clause-ok g c =
    record {
      answer = record { number = c.next_number-number.result; layer = c.args.layer; asker = c.args.asker; rows = c.args.rows };
      number = c.next_number-number.ensures;
      layer_same = refl;
      asker_same = refl;
      rows_same = refl;
      answers = c.trim.ensures ∙ ap trimmed c.in_ok-try_push.ensures.items;
      given = c.next_number-number.ensures;
    }
