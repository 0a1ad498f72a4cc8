use Rattle.std.proofs.Common.{◌≡◌, rules}
use Rattle.program.proofs.BuiltInLemmas.{built_in_text, gives-built_in}
use Rattle.program.proofs.built_in.built_in_config.Goals as goal

pub returns : goal.returns
returns g c =
    let same : c.as_bytes.result.now ≡ built_in_text = search rules in
    gives-built_in c.read_config.result c.as_bytes.result.now same c.read_config.ensures.value
