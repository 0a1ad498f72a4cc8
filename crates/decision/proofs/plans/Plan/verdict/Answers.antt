use Rattle.std.specs.Prelude.{[]}
use Rattle.std.proofs.Common.{◌∙◌, sym, subst}
use Rattle.std.proofs.lemmas.List.{nil_from_length}
use Rattle.combining.specs.Holding.{AreMet}
use Rattle.decision.proofs.plans.Plan.verdict.Goals as goal

-- a document without zones: no zone is met
pub returns-then-zone_count-eq0 : goal.returns-then-zone_count-eq0
returns-then-zone_count-eq0 g c =
    let no_zones = nil_from_length c.args.document.now.zones (sym c.zone_count.ensures ∙ c.if-zone_count-eq0.true) in
    record {
      met = [];
      are_met = subst (λ zones. AreMet c.args.question.now.shape zones []) (sym no_zones) AreMet.none;
      is = c.verdict_by.ensures c.args.document.now.root c.requires;
    }
