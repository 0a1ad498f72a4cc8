use Rattle.std.proofs.Common.{map, sym, ◌∙◌, subst}
use Rattle.policy_documents.specs.Views.{zone_of}
use Rattle.policy_text.specs.SeenViews.{seen_view}
use Rattle.policy_text.specs.Reading.{Fails, rule_at}
use Rattle.policy_text.proofs.EachLemmas.{Gives-residual, left_at-more, left_at-fails, left_at-end}
use Rattle.policy_text.proofs.reading.rules_at.Goals as goal

pub returns-in_err-rule : goal.returns-in_err-rule
returns-in_err-rule g c =
    Gives-residual _ _ _ _ c.from_residual.ensures.1 (subst (Fails c.in_err-rule.field-0.0) c.loop-index.invariant
    (left_at-fails (rule_at (map zone_of c.args.zones.now.entries)) c.args.path c.loop-index.rules.items c.loop-index.index (seen_view c.loop-index.seen) c.args.items.now
    c.index-items-index.result c.in_err-rule.field-0.0 c.loop-index-test.true c.index-items-index.is (rw (← c.with.ensures) c.in_err-rule.ensures)))

pub returns : goal.returns
returns g c =
    sym c.loop-index.invariant ∙ left_at-end (rule_at (map zone_of c.args.zones.now.entries)) c.args.path c.loop-index.rules.items c.loop-index.index (seen_view c.loop-index.seen) c.args.items.now c.loop-index-test.false

pub loop-index-preserved : goal.loop-index-preserved
loop-index-preserved g c =
    rw c.in_ok-try_push.ensures.items (left_at-more (rule_at (map zone_of c.args.zones.now.entries)) c.args.path c.loop-index.rules.items c.loop-index.index (seen_view c.loop-index.seen) (seen_view c.rule_at.new.seen) c.args.items.now
    c.index-items-index.result c.in_ok-rule.rule c.loop-index-test.true c.index-items-index.is (rw (← c.with.ensures) c.in_ok-rule.ensures) ∙ c.loop-index.invariant)
