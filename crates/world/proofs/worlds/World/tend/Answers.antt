use Rattle.std.proofs.Common.{◌≡◌, Result, sym, ap, ◌∙◌}
use Rattle.predicate_locks.specs.Searches.{last_number}
use Rattle.plain_world.specs.declared.faults.Fault.{Fault}
use Rattle.tree_answers.specs.declared.answers.Tending.{Tending}
use Rattle.tree_answers.specs.declared.fault.TreeFault.{TreeFault}
use Rattle.world.specs.Stepping.{in_world_faults}
use Rattle.world.proofs.ServeLemmas.{serves_after_tending}
use Rattle.world.proofs.TendedLemmas.{tended_by}
use Rattle.world.proofs.TendLemmas.{tends_as, told_spent}
use Rattle.world.proofs.WorldLemmas.{index_of, plain_of, world_served}
use Rattle.world.proofs.worlds.World.tend.Goals as goal
use Rattle.world.proofs.worlds.World.tend.Goals.{in-Ok, in-Err}

pub invariant_of-self : goal.invariant_of-self
invariant_of-self g c =
    let tends = c.tend.ensures.tends in
    tended_by c.tend.ensures.kept (world_served c.self.inside.plain c.self.inside.index c.tend.new.index c.self.inside.walks c.self.invariant.world
    (serves_after_tending c.self.inside.plain c.self.inside.index c.tend.new.index c.tend.result c.self.invariant.world.ordered c.self.invariant.world.serves tends.tended tends.contents tends.refused))

pub returns-clause-index : goal.returns-clause-index
returns-clause-index g c =
    let told : ◌≡◌ {A = Result Tending Fault} c.match-tend.result (in_world_faults c.tend.result) = elim c.match-tend.branch [
      | in-Ok x ↦ x.result-is ∙ sym (ap (λ (r : Result Tending TreeFault). in_world_faults r) x.in-Ok.is)
      | in-Err x ↦ x.result-is ∙ told_spent (λ f. c.self.inside.index.counter ≡ last_number) c.tend.result x.in-Err.fault x.in-Err.is c.tend.ensures.spent
    ] in
    tends_as c.self.inside.plain _ c.args.slot c.self.inside.index _ c.tend.new.index _ (plain_of _ _ c.self.view_is) (index_of _ _ c.self.view_is) (record {
      answer = c.tend.result;
      is = told;
      tended = c.tend.ensures.tends.tended;
      contents = c.tend.ensures.tends.contents;
      first = c.tend.ensures.tends.first;
      step = c.tend.ensures.tends.step;
      refused = c.tend.ensures.tends.refused;
      nobody = c.tend.ensures.tends.nobody;
      untouched = c.tend.ensures.tends.untouched;
    })
