use Rattle.frame_keys.proofs.Growth.{margin_grows}
use Rattle.frame_keys.proofs.frames.FramesKeyClass.second_penalty.Goals as goal

pub overflow_sub-result : goal.overflow_sub-result
overflow_sub-result c = rw (c.margin.ensures.value, c.margin-2.ensures.value, c.hull.ensures.value) (margin_grows c.args.key c.args.other c.fact_known_key.ensures)
