use denote.RattleType.{RattleType}
use denote.Param.Send.{IsSend}
use Rattle.chunks.proofs.Sent.{Places-send}
use Rattle.chunks.specs.contracts.places.Places.{the_row}

pub send : (S : RattleType) → IsSend S → IsSend (the_row S)
send = Places-send
