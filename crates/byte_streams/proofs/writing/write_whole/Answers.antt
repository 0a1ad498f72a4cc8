use Rattle.byte_streams.proofs.WrittenLemmas.{wrote_more}
use Rattle.byte_streams.proofs.writing.write_whole.Goals as goal

pub loop-preserved : goal.loop-preserved
loop-preserved g c = wrote_more c.args.bytes.now c.loop.rest.now _ c.in_ok-count.count _ _ _ c.loop.invariant c.in_ok-count.ensures.1 c.split_at.ensures.back
