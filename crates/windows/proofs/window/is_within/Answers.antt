use Rattle.windows.proofs.RectangleLemmas.{read_between}
use Rattle.windows.proofs.window.is_within.Goals as goal

pub returns-then-is_between : goal.returns-then-is_between
returns-then-is_between c = λ t. record {
  across = read_between _ _ _ _ _ c.x0.ensures.frame.x0_in_range c.requires.x_in_range c.x0.ensures.frame.x1_in_range c.x0.ensures.value c.x1.ensures (c.is_between.ensures c.if-is_between.true);
  up = read_between _ _ _ _ _ c.x0.ensures.frame.y0_in_range c.requires.y_in_range c.x0.ensures.frame.y1_in_range c.y0.ensures c.y1.ensures (c.is_between-then-is_between.ensures t);
}
