use Rattle.plain_world.proofs.AnswerLemmas.{piece_leads_on}
use Rattle.plain_world.proofs.RunLemmas.{sound_run}
use Rattle.plain_world.proofs.laws.every_piece_leads_on.Goals as goal

pub returns : goal.returns
returns c = λ old mid new before seat piece sound run happens.
    piece_leads_on seat mid new piece (sound_run old before mid run sound) happens
