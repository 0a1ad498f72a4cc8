use Rattle.std.proofs.Common.{refl}
use Rattle.program.proofs.ProgramLemmas.{was_done, was_turned_down, was_wanted}
use Rattle.program.proofs.runs.run_program.Goals as goal

pub returns-in-Ok-Done : goal.returns-in-Ok-Done
returns-in-Ok-Done g c = (was_done _ _ _ g.O.Write.contents c.args.output.now c.run_asked.new.output c.run_asked.result c.in-Ok-Done.field-0 c.in-Ok-Done.flushed c.run_asked.ensures c.in-Ok-Done.is c.in-Ok-Done.field-0-is, refl)

pub returns-in-Ok-Serve : goal.returns-in-Ok-Serve
returns-in-Ok-Serve g c =
    let wanted = was_wanted _ _ _ g.O.Write.contents c.args.output.now c.run_asked.new.output c.run_asked.result c.in-Ok-Serve.field-0 c.in-Ok-Serve.server c.run_asked.ensures c.in-Ok-Serve.is c.in-Ok-Serve.field-0-is in
    (wanted.0, wanted.1, refl)

pub returns-in-Ok-Connect : goal.returns-in-Ok-Connect
returns-in-Ok-Connect g c =
    let wanted = rw (c.in-Ok-Connect.is, c.in-Ok-Connect.field-0-is) at c.run_asked.ensures in
    (wanted.0, wanted.1, refl)

pub returns-in-Ok-Keep : goal.returns-in-Ok-Keep
returns-in-Ok-Keep g c =
    let wanted = rw (c.in-Ok-Keep.is, c.in-Ok-Keep.field-0-is) at c.run_asked.ensures in
    (wanted.0, wanted.1, refl)

pub returns-in-Ok-Look : goal.returns-in-Ok-Look
returns-in-Ok-Look g c =
    let wanted = rw (c.in-Ok-Look.is, c.in-Ok-Look.field-0-is) at c.run_asked.ensures in
    (wanted.0, wanted.1, refl)

pub returns-in-Ok-Secret : goal.returns-in-Ok-Secret
returns-in-Ok-Secret g c =
    let wanted = rw (c.in-Ok-Secret.is, c.in-Ok-Secret.field-0-is) at c.run_asked.ensures in
    (wanted.0, wanted.1, refl)

pub returns-in-Ok-Mistaken : goal.returns-in-Ok-Mistaken
returns-in-Ok-Mistaken g c =
    was_turned_down _ _ _ g.O.Write.contents c.args.output.now c.run_asked.new.output c.run_asked.result c.in-Ok-Mistaken.field-0 c.in-Ok-Mistaken.mistake c.run_asked.ensures c.in-Ok-Mistaken.is c.in-Ok-Mistaken.field-0-is
