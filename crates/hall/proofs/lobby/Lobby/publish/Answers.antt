use Rattle.std.proofs.Common.{None, Some, ap, sym, ◌∙◌}
use Rattle.std.specs.Arc.{arc_value}
use Rattle.std.specs.List.{last_or}
use Rattle.decision.specs.Deciders.{DeciderData}
use Rattle.published_policies.proofs.ListLemmas.{last_push}
use Rattle.answer_tray.specs.Trays.{TrayData}
use Rattle.hall.specs.Present.{policy_of}
use Rattle.hall.proofs.Lasts.{first_push}
use Rattle.hall.proofs.lobby.Lobby.publish.Goals as goal

pub invariant_of-self : goal.invariant_of-self
invariant_of-self g c =
    let old = c.args.self.now in
    let list = c.publish-edition.ensures.list in
    let decider = arc_value c.args.decider in
    let published = ap (last_or None) list ∙ last_push None old.publisher decider in
    let here = ap (λ (t : TrayData). policy_of (last_or None t.seen)) c.note-receipt.ensures.level ∙ ap policy_of c.note-receipt.ensures.seen
    ∙ ap (λ (d : DeciderData). Some d) c.requires.in_force in
    record {
      begins = rw list (first_push old.publisher decider _ old.begins);
      in_force = published ∙ sym here;
    }
