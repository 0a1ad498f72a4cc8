use Rattle.std.proofs.Common.{[]}
use Rattle.line_streams.proofs.LineLemmas.{no_line}
use Rattle.line_streams.proofs.StreamLemmas.{never_memory, ran_first}
use Rattle.line_streams.proofs.streams.run_lines_within.Goals as goal

pub returns-clause-ran : goal.returns-clause-ran
returns-clause-ran g c = ran_first g.D.LineDesk.tells _ c.go_on_within.result _ _ _ _ _ _ _ (c.go_on_within.ensures [] no_line c.in_ok-begun.ensures)

pub returns-clause-untouched : goal.returns-clause-untouched
returns-clause-untouched g c = never_memory g.D.LineDesk.tells _ c.go_on_within.result _ _ _ _ _ _ _ _ (c.go_on_within.ensures [] no_line c.in_ok-begun.ensures)
