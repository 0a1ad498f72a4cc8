use Rattle.line_streams.proofs.GoingOnLemmas.{begun_is_line, one_run}
use Rattle.line_streams.proofs.laws.parts_are_one_run.Goals as goal

pub returns-clause-line : goal.returns-clause-line
returns-clause-line g c text = begun_is_line text

pub returns-clause-whole : goal.returns-clause-whole
returns-clause-whole g c reads result old mid new held kept input left rest before between after first last =
    one_run g.D.LineDesk.tells reads result old mid new held kept input left rest before between after first last
