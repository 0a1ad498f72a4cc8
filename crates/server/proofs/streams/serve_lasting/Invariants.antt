use Rattle.server.specs.Served.{opening_of}
use Rattle.server.proofs.streams.serve_lasting.Given as goal

abbrev pub ghosts-serve_hall-L-Ledger : goal.ghosts-serve_hall-L-Ledger
ghosts-serve_hall-L-Ledger g a = record { name = a.unnamed.ledger.name; parts = a.unnamed.ledger.parts }

abbrev pub ghosts-serve_hall-L-ListName : goal.ghosts-serve_hall-L-ListName
ghosts-serve_hall-L-ListName g a = record { book = a.unnamed.list }

abbrev pub ghosts-serve_hall-L-HallName : goal.ghosts-serve_hall-L-HallName
ghosts-serve_hall-L-HallName g a = record { opening = opening_of a.serving.subjects a.serving.begins }

abbrev pub ghosts-serve_hall-L-StatesName : goal.ghosts-serve_hall-L-StatesName
ghosts-serve_hall-L-StatesName g a = record { states = a.unnamed.states }
