use Rattle.frame_keys.proofs.Growth.{area_grows}
use Rattle.frame_keys.proofs.frames.FramesKeyClass.penalty.Goals as goal

pub overflow_sub-result : goal.overflow_sub-result
overflow_sub-result c = rw (c.area.ensures.value, c.area-2.ensures.value, c.hull.ensures.value) (area_grows c.args.key c.args.other c.fact_known_key.ensures)
