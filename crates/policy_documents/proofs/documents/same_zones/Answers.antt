use Rattle.std.proofs.Common.{◌∙◌, arith}
use Rattle.policy_documents.specs.Equality.{same_zone}
use Rattle.policy_documents.proofs.EqualLemmas.{zones_differ, zones_more}
use Rattle.policy_documents.proofs.RowLemmas.{same_from-end}
use Rattle.policy_documents.proofs.documents.same_zones.Goals as goal

pub returns-then-ne : goal.returns-then-ne
returns-then-ne g c =
    zones_differ c.loop-index.index c.args.document.now.zones c.args.other.now.zones _ _ _ c.zone_at.ensures c.zone_at-in-loop-index.ensures c.ne.ensures c.if-ne.true (omega arith) (omega arith) ∙ c.loop-index.invariant

pub loop-index-preserved : goal.loop-index-preserved
loop-index-preserved g c =
    zones_more c.loop-index.index c.args.document.now.zones c.args.other.now.zones _ _ _ c.zone_at.ensures c.zone_at-in-loop-index.ensures c.ne.ensures c.if-ne.false (omega arith) (omega arith) ∙ c.loop-index.invariant

pub returns : goal.returns
returns g c =
    same_from-end same_zone c.loop-index.index c.args.document.now.zones c.args.other.now.zones (omega arith) (omega arith) ∙ c.loop-index.invariant
