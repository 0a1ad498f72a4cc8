use denote.RattleType.{RattleType}
use denote.Param.Send.{IsSync}
use Rattle.chunks.proofs.Sent.{Places-sync}
use Rattle.chunks.specs.contracts.places.Places.{the_row}

pub sync : (S : RattleType) → IsSync S → IsSync (the_row S)
sync = Places-sync
