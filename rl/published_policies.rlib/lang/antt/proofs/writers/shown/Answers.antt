use Rattle.std.proofs.Common.{◌≡◌, List, ap, sym, ◌∙◌, fold}
use mathlib.Core.List.{IsPrefix}
use Rattle.published_policies.specs.Lists.{SeenData}
use Rattle.published_policies.proofs.CopyLemmas.{learns}
use Rattle.published_policies.proofs.writers.shown.Goals as goal

pub publish_as-writer-requires : goal.publish_as-writer-requires
publish_as-writer-requires g c next is views all at =
    let before = c.loop.copies.desk.shown.value in
    let kept = c.loop.invariant in
    let same : next ≡ c.args.list.now = is ∙ ap (λ (pending : List SeenData). fold (λ policy later. later) before pending) kept.3 in
    let book : next.book ≡ before.book = ap (λ list. list.book) same ∙ c.requires.book ∙ sym (ap (λ list. list.book) kept.2) in
    let longer : IsPrefix before.list next.list = rw (kept.2, same) c.requires.longer in
    learns _ _ before next book longer views all at
