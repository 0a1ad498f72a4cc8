-- The codes of a line's faults.
use Rattle.std.specs.Prelude.{ℕ, List, codes}
use Rattle.wkt.specs.FaultCodes.{code_of as wkt_code_of}
use Rattle.session_lines.specs.declared.faults.LineFault.{LineFault}
use Rattle.session_lines.specs.declared.faults.LineFault.TheVariants.{LineTooLong, Command, Number, Name, BeforeHello, HelloAgain, NothingStaged, OutOfTurn, NoLabel, NoSubject, NoPlace, Closed, NotRead, Shape}

abbrev pub code_of : LineFault → List ℕ
code_of LineTooLong = codes "E1"
code_of Command = codes "E2"
code_of Number = codes "E3"
code_of Name = codes "E4"
code_of BeforeHello = codes "E5"
code_of HelloAgain = codes "E6"
code_of NothingStaged = codes "E7"
code_of OutOfTurn = codes "E8"
code_of NoLabel = codes "E9"
code_of NoSubject = codes "H1"
code_of NoPlace = codes "H2"
code_of Closed = codes "H3"
code_of NotRead = codes "H7"
code_of (Shape fault) = wkt_code_of fault
