use Rattle.scripts.proofs.KeepLemmas.{idle_rests}
use Rattle.scripts.proofs.LineLemmas.{alone_rests, line_rests}
use Rattle.scripts.proofs.laws.lines_leave_worlds_at_rest.Goals as goal

pub returns-clause-idle : goal.returns-clause-idle
returns-clause-idle c = λ world idle. idle_rests world idle

pub returns-clause-line : goal.returns-clause-line
returns-clause-line c = λ text old new said told still. line_rests text old new said told still

pub returns-clause-alone : goal.returns-clause-alone
returns-clause-alone c = λ text old new said next told still. alone_rests text old new said next told still
