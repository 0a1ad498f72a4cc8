use Rattle.std.proofs.Common.{rules}
use Rattle.tree_nodes.proofs.descending.led_searches.Goals as goal

pub returns-clause-led : goal.returns-clause-led
returns-clause-led g c =
    let met = c.meeting.ensures.meeting in
    record {
      listed = λ number has.
          let found = met.listed number has in
          let accepted = found.3 in
          record { search = found.0; runs = found.1; inconsistent = search rules };
      led_on = λ number has.
          let found = met.listed number has in
          let accepted = found.3 in
          record { search = found.0; runs = found.1; is_attached = found.2; consistent = search rules };
      missed = λ number one runs attached apart.
          let refused = met.missed number one runs attached apart in
          search rules;
    }
