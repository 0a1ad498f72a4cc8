use Rattle.frame_keys.specs.Laws.{encloses_covers, covers_encloses}
use Rattle.frame_keys.proofs.laws.frames_cover_by_ends.Goals as goal

pub returns : goal.returns
returns c = λ outer inner frame. (encloses_covers outer inner, covers_encloses outer inner frame)
