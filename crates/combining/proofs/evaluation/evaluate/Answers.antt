use Rattle.std.proofs.Common.{◌∙◌, refl, arith}
use Rattle.combining.proofs.evaluation.evaluate.Goals as goal

pub decide_node-requires : goal.decide_node-requires
decide_node-requires g c = rw c.root-root.ensures.root (omega (arith, c.root-root.ensures.sound.rules))

pub returns : goal.returns
returns g c = record {
  met = c.met_zones-met.result;
  are_met = c.met_zones-met.ensures;
  is = c.decide_node.ensures ∙ rw (c.as_slice.ensures, c.root-root.ensures.root) refl;
}
