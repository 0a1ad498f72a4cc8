use Rattle.plain_world.proofs.TransactionLemmas.{may_stage_in}
use Rattle.plain_world.proofs.worlds.PlainWorld.stage.Goals as goal

pub stage_in-requires : goal.stage_in-requires
stage_in-requires g c =
    let may = rw (← c.self.view_is) at c.in_ok-may_stage.ensures.may in
    rw (c.deref_mut.ensures.value) (may_stage_in c.args.number c.args.change c.self.inside.transactions.items may.0 may.1 may.2 may.3)
