use Rattle.search_tree.proofs.GrowSteps.{still_rises}
use Rattle.search_tree.proofs.growing.put_below.Goals as goal

pub rise-requires : goal.rise-requires
rise-requires g c = still_rises c.args.root c.requires.rise c.put_over-first.ensures.put c.put_over-second.ensures.put
