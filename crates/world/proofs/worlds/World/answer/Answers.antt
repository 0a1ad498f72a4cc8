use Rattle.std.proofs.Common.{sym, ◌∙◌}
use Rattle.world.proofs.RefusingLemmas.{index_fails, plain_fails}
use Rattle.world.proofs.WorldLemmas.{names_all}
use Rattle.world.proofs.worlds.World.answer.Goals as goal

pub answer_whole-requires : goal.answer_whole-requires
answer_whole-requires g c = names_all c.self.inside.plain c.self.inside.index c.args.window c.in-Ok.ids.items c.self.invariant.world.serves (rw c.new-query.ensures at c.in-Ok.ensures.all)

pub returns-in-Ok-clause-answer : goal.returns-in-Ok-clause-answer
returns-in-Ok-clause-answer g c = rw (← c.self.view_is) c.answer_whole.ensures.answer

pub returns-in-Ok-clause-fault : goal.returns-in-Ok-clause-fault
returns-in-Ok-clause-fault g c =
    let given = sym c.subject_at.ensures ∙ c.in_ok-subject_at.was in
    rw (← c.self.view_is) (plain_fails _ c.in_ok-subject_at.field-0 c.answer_whole.result given c.answer_whole.ensures.fault)

pub returns-in-Err-clause-fault : goal.returns-in-Err-clause-fault
returns-in-Err-clause-fault g c =
    let given = sym c.subject_at.ensures ∙ c.in_ok-subject_at.was in
    rw (← c.self.view_is) (index_fails _ c.in_ok-subject_at.field-0 c.in-Err.fault c.fault_of.result given c.in-Err.ensures.fault c.fault_of.ensures)
