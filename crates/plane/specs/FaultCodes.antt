-- The codes of the faults.
use Rattle.std.specs.Prelude.{ℕ, List, codes}
use Rattle.plane.specs.declared.fault.ShapeFault.{ShapeFault}
use Rattle.plane.specs.declared.fault.ShapeFault.TheVariants.{OutOfRange, SameEnds, TooManyPoints, TooFew, NotClosed, Repeated, Flat, NotConvex, TooManyCorners}

abbrev pub code_of : ShapeFault → List ℕ
code_of OutOfRange = codes "P1"
code_of SameEnds = codes "P2"
code_of TooManyPoints = codes "P3"
code_of TooFew = codes "P4"
code_of NotClosed = codes "P5"
code_of Repeated = codes "P6"
code_of Flat = codes "P7"
code_of NotConvex = codes "P8"
code_of TooManyCorners = codes "P9"
