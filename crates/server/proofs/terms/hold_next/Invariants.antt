use Rattle.server.specs.Served.{opening_of}
use Rattle.server.proofs.terms.hold_next.Given as goal

abbrev pub ghosts-hold-L-Ledger : goal.ghosts-hold-L-Ledger
ghosts-hold-L-Ledger g a = record { name = a.unnamed.ledger.name; parts = a.unnamed.ledger.parts }

abbrev pub ghosts-hold-L-ListName : goal.ghosts-hold-L-ListName
ghosts-hold-L-ListName g a = record { book = a.unnamed.list }

abbrev pub ghosts-hold-L-HallName : goal.ghosts-hold-L-HallName
ghosts-hold-L-HallName g a = record { opening = opening_of a.subjects a.begins }

abbrev pub ghosts-hold-L-StatesName : goal.ghosts-hold-L-StatesName
ghosts-hold-L-StatesName g a = record { states = a.unnamed.states }
