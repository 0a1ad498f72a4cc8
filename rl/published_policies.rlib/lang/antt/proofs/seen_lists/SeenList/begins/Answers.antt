use Rattle.std.proofs.Common.{List, ap, subst}
use mathlib.Core.List.{IsPrefix}
use Rattle.decision.specs.Deciders.{DeciderData}
use Rattle.published_policies.proofs.ListLemmas.{prefix_shorter}
use Rattle.published_policies.proofs.seen_lists.SeenList.begins.Goals as goal

pub returns : goal.returns
returns c =
    let whole = c.learn.new.self.log in
    let mine : IsPrefix c.self.inside.seen.log whole = subst (λ (seen : List DeciderData). IsPrefix seen whole) (ap (λ s. s.log) c.again-both.ensures) c.learn.ensures.2 in
    rw (← c.self.view_is, ← c.other.view_is) (prefix_shorter c.self.inside.seen.log c.other.inside.seen.log whole mine c.learn.ensures.3)
