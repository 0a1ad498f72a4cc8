use Rattle.policy_documents.specs.declared.zones.ZoneName.{ZoneName}
use Rattle.plane.specs.declared.point.Point.{Point}
use Rattle.std.proofs.Common.{◌≡◌, List, ap, sym, ◌∙◌, [], ◌∷◌, ◌++◌, subst, append_assoc}
use Rattle.std.specs.List.{IsDistinct}
use Rattle.std.specs.Map.{keys_of}
use Rattle.policy_documents.proofs.ZoneLemmas.{same_key, insert_entry-behind}
use Rattle.policy_documents.proofs.documents.copy_zones.Goals as goal

pub loop-key-preserved : goal.loop-key-preserved
loop-key-preserved g c =
    let e : ZoneName × List Point = (c.in-Some.key.now, c.in-Some.shape.now) in
    let done = c.loop-key.copies in
    let left = c.next.new.self in
    let all : c.args.zones.now.entries ≡ done.entries ++ e ∷ left = c.loop-key.invariant ∙ ap (λ es. done.entries ++ es) c.in-Some.ensures.steps in
    let distinct = subst (λ es. IsDistinct same_key (keys_of es)) all c.iter-key-items.ensures.unique in
    all ∙ sym (append_assoc done.entries (e ∷ []) left) ∙ ap (λ es. es ++ left) (sym (c.in_ok-put.ensures.entries ∙ insert_entry-behind _ done e left distinct))
