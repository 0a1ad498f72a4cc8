-- The codes of the faults by which a run ends before its input does.
use Rattle.std.specs.Prelude.{ℕ, List, codes}
use Rattle.line_streams.specs.declared.streams.ServeFault.{ServeFault}
use Rattle.line_streams.specs.declared.streams.ServeFault.TheVariants.{Read, Write, TooManyTurns, Memory}

abbrev pub serve_code_of : ServeFault → List ℕ
serve_code_of (Read failed) = codes "V1"
serve_code_of (Write failed) = codes "V2"
serve_code_of (TooManyTurns turns) = codes "V3"
serve_code_of (Memory refused) = codes "V4"
