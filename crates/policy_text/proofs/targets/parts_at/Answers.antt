use Rattle.std.proofs.Common.{map, sym, ap, ◌∙◌, subst, Ok}
use Rattle.policy_documents.specs.Views.{zone_of}
use Rattle.policy_text.specs.Reading.{Fails}
use Rattle.policy_text.proofs.EachLemmas.{Gives-residual, left_at-more, left_at-fails, left_at-end}
use Rattle.policy_text.proofs.targets.parts_at.Goals as goal

pub returns-in_err-part : goal.returns-in_err-part
returns-in_err-part g c =
    Gives-residual _ _ _ _ c.from_residual.ensures.1 (subst (Fails c.in_err-part.field-0.0) c.loop-index.invariant
    (left_at-fails (g.T.Part.reads (map zone_of c.args.zones.now.entries)) c.args.path c.loop-index.parts.items c.loop-index.index c.loop-index.tests c.args.items.now
    c.index-items-index.result c.in_err-part.field-0.0 c.loop-index-test.true c.index-items-index.is (rw (← c.with.ensures) (c.in_err-part.ensures))))

pub returns : goal.returns
returns g c =
    sym c.loop-index.invariant ∙ left_at-end (g.T.Part.reads (map zone_of c.args.zones.now.entries)) c.args.path c.loop-index.parts.items c.loop-index.index c.loop-index.tests c.args.items.now c.loop-index-test.false
    ∙ ap (λ xs. Ok (xs, c.loop-index.tests)) (sym c.from_vec.ensures)

pub loop-index-preserved : goal.loop-index-preserved
loop-index-preserved g c =
    rw c.in_ok-try_push.ensures.items (left_at-more (g.T.Part.reads (map zone_of c.args.zones.now.entries)) c.args.path c.loop-index.parts.items c.loop-index.index c.loop-index.tests c.in_ok-part.after c.args.items.now
    c.index-items-index.result c.in_ok-part.part c.loop-index-test.true c.index-items-index.is (rw (← c.with.ensures) (c.in_ok-part.ensures)) ∙ c.loop-index.invariant)
