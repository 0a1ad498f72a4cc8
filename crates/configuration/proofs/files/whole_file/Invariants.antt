use Rattle.std.proofs.Common.{◌≤◌, length}
use Rattle.std.specs.Io.KnownBytes.{Consumes}
use Rattle.configuration.specs.declared.files.TheConstants.{CONFIG_LIMIT}
use Rattle.configuration.proofs.files.whole_file.Given as goal

abbrev pub invariant-loop : goal.invariant-loop
invariant-loop g l = record {
  taken : Consumes (g.R.Read.remaining l.fn.file) (g.R.Read.remaining l.file) l.bytes.items;
  fits : length l.bytes.items ≤ CONFIG_LIMIT;
  enough : l.counter ≤ length l.bytes.items;
}
