use Rattle.std.proofs.Common.{◌≡◌, length, bytes_eq, true, false, Bool, take, sym, ap, ◌∙◌}
use Rattle.std.specs.List.{list_any}
use Rattle.configuration.proofs.ConfigLemmas.{again_at-end, again_at-here, again_at-more}
use Rattle.configuration.proofs.configs.count_before_again.Goals as goal

pub returns-then-is_named_before : goal.returns-then-is_named_before
returns-then-is_named_before c =
    sym (again_at-here c.loop-index.index c.args.subjects.now c.index-subjects-index.result c.loop-index-test.true c.index-subjects-index.is (sym c.is_named_before.ensures ∙ c.if-is_named_before.true))
    ∙ c.loop-index.invariant

pub loop-index-preserved : goal.loop-index-preserved
loop-index-preserved c =
    again_at-more c.loop-index.index c.args.subjects.now c.index-subjects-index.result c.loop-index-test.true c.index-subjects-index.is (sym c.is_named_before.ensures ∙ c.if-is_named_before.false)
    ∙ c.loop-index.invariant

pub returns : goal.returns
returns c = sym (again_at-end c.loop-index.index c.args.subjects.now c.loop-index-test.false) ∙ c.loop-index.invariant
