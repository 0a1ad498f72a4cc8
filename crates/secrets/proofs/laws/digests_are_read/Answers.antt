use Rattle.secrets.proofs.SecretLemmas.{read}
use Rattle.secrets.proofs.laws.digests_are_read.Goals as goal

pub returns : goal.returns
returns c = read
