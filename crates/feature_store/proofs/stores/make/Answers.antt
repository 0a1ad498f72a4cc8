use Rattle.std.proofs.Common.{arith}
use Rattle.feature_store.proofs.ChangeLemmas.{room_for_less}
use Rattle.feature_store.proofs.stores.make.Goals as goal

pub returns-in-Add-clause-room : goal.returns-in-Add-clause-room
returns-in-Add-clause-room g c = λ n room. c.put.ensures.room n (let one = rw c.in-Add.is at room in one)

pub returns-in-Reshape-clause-room : goal.returns-in-Reshape-clause-room
returns-in-Reshape-clause-room g c = λ n room. c.reshape.ensures.room n (let none = rw c.in-Reshape.is at room in room_for_less _ n _ (omega arith) none)

pub returns-in-Delete-clause-room : goal.returns-in-Delete-clause-room
returns-in-Delete-clause-room g c = λ n room. c.take_out.ensures.room n (let none = rw c.in-Delete.is at room in room_for_less _ n _ (omega arith) none)
