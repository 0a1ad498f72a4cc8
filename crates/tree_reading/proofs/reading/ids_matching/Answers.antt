use Rattle.tree_reading.proofs.ReadingLemmas.{reads_all, reads_only, if_ok_map}
use Rattle.tree_reading.proofs.reading.ids_matching.Goals as goal

pub returns-clause-all : goal.returns-clause-all
returns-clause-all g c =
    if_ok_map c.read_all.result (λ ids reads. reads_all _ _ _ _ ids.items g.met.C.KeyClass.laws reads) c.read_all.ensures.ok

pub returns-clause-only : goal.returns-clause-only
returns-clause-only g c =
    if_ok_map c.read_all.result (λ ids reads. reads_only _ _ _ _ ids.items reads) c.read_all.ensures.ok
