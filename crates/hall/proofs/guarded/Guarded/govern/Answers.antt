use Rattle.std.proofs.Common.{◌+◌, ◌∷◌, ◌++◌, [], Option, ap, sym, ◌∙◌}
use Rattle.std.specs.Arc.{arc_value}
use Rattle.chronicle.specs.Chronicles.{ChronicleData}
use Rattle.decision.specs.Deciders.{DeciderData}
use Rattle.published_policies.specs.Lists.{edition_of}
use Rattle.hall.proofs.Governed.{GoesOn, ends_so, told_so}
use Rattle.hall.proofs.Lasts.{pushed_last}
use Rattle.hall.proofs.Level.{one_more, policy_at}
use Rattle.hall.proofs.guarded.Guarded.govern.Goals as goal

pub publish-requires-clause-told : goal.publish-requires-clause-told
publish-requires-clause-told g c =
    let old = c.take_in.new.self in
    one_more c.take_in.new.lobby.tray old.seen old.chronicle _ _ c.in_ok-take_in.ensures.level old.present (ap (λ d. d.records) c.in_ok-govern_by.ensures.ok.told)

pub publish-requires-clause-next : goal.publish-requires-clause-next
publish-requires-clause-next g c =
    let old = c.take_in.new.self in
    ap (λ (d : DeciderData). d.edition) c.in_ok-published.ensures ∙ c.in_ok-decider.ensures.edition
    ∙ ap (λ (d : ChronicleData). d.state.decider.edition + 1) (sym c.in_ok-take_in.ensures.same)
    ∙ sym (ap (λ (o : Option DeciderData). edition_of o + 1) (policy_at old.chronicle c.take_in.new.lobby.tray old.seen c.in_ok-take_in.ensures.level old.present))

pub returns-clause-last : goal.returns-clause-last
returns-clause-last g c =
    let next = c.in_ok-decider.ensures in
    let on : GoesOn c.args.document c.take_in.new.lobby.publisher (arc_value c.in_ok-decider.decider) c.publish.result.0 = record {
      document = next.document;
      list = c.publish.ensures.edition ∙ ap (λ (d : DeciderData). c.take_in.new.lobby.publisher ++ d ∷ []) c.in_ok-published.ensures;
    } in
    ends_so _ _ _ _ on

pub returns-clause-receipt : goal.returns-clause-receipt
returns-clause-receipt g c =
    let next = c.in_ok-decider.ensures in
    let on : GoesOn c.args.document c.take_in.new.lobby.publisher (arc_value c.in_ok-decider.decider) c.publish.result.0 = record {
      document = next.document;
      list = c.publish.ensures.edition ∙ ap (λ (d : DeciderData). c.take_in.new.lobby.publisher ++ d ∷ []) c.in_ok-published.ensures;
    } in
    let last = rw c.in_ok-govern_by.ensures.ok.told at c.publish.ensures.last in
    pushed_last c.take_in.new.self.chronicle.records _ _ last ∙ told_so _ _ _ _ on c.args.seat
