use Rattle.std.proofs.Common.{◌<◌, length, arith}
use Rattle.policy_text.proofs.WithZoneLemmas.{with_zone-read}
use Rattle.policy_text.proofs.areas.put_zone.Goals as goal

pub returns-clause-value : goal.returns-clause-value
returns-clause-value g c =
    let room : length c.args.zones.now.entries < 64 = omega arith in
    with_zone-read c.args.path c.args.zones.now c.args.name c.args.shape _ c.if-has_zone.ensures room c.in_ok-put.ensures.entries
