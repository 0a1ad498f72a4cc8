use Rattle.std.proofs.Common.{◌∙◌, sym, ap}
use Rattle.plain_world.specs.Admitting.{may_commit}
use Rattle.plain_world.specs.Staging.{staged_in}
use Rattle.plain_world.proofs.EventLemmas.{admitted, commits_accepted}
use Rattle.plain_world.proofs.worlds.PlainWorld.commit_list.Goals as goal

pub returns-in-Accepted : goal.returns-in-Accepted
returns-in-Accepted g c =
    let e = sym c.may_commit.ensures.value ∙ c.in_ok-subject.was in
    let listed = c.as_slice-changes.ensures.value ∙ c.in_ok-held.ensures.items ∙ c.staged_in.ensures.value ∙ ap (staged_in c.args.number) c.deref.ensures.value in
    admitted (may_commit c.args.seat c.args.number c.args.self.now) c.in_ok-subject.subject _ _ _ _ e
    (commits_accepted c.args.seat c.args.number c.in_ok-subject.subject c.as_slice-changes.result.now _ _ _ (rw (← c.self.view_is) listed) (rw (← c.self.view_is) c.in-Accepted.ensures.judged) (rw (c.tell_kinds.ensures) at c.apply.ensures))
