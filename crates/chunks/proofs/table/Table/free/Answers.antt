use Rattle.std.proofs.Common.{sym, ◌∙◌, arith, le_refl}
use Rattle.chunks.proofs.Emptied.{IsSome-emptied}
use Rattle.chunks.proofs.TableLaws.{chunks_full, part}
use Rattle.chunks.proofs.table.Table.free.Goals as goal

pub take-requires-clause-filled : goal.take-requires-clause-filled
take-requires-clause-filled g c =
    IsSome-emptied _ _ c.loop-k.k c.loop-k.invariant.1 (chunks_full _ _ _ _ c.self.invariant c.loop-k.k (omega (arith, c.loop-k-test.true)))

pub free-requires-clause-heap : goal.free-requires-clause-heap
free-requires-clause-heap g c =
    let at = sym (c.loop-k.invariant.1.rest c.loop-k.k (le_refl c.loop-k.k)) ∙ c.take.ensures.value in
    (part _ _ _ _ c.self.invariant c.loop-k.k c.take.result (omega (arith, c.loop-k-test.true)) at).heap ∙ (rw (← c.self.view_is) at c.requires)

pub free-requires-clause-size : goal.free-requires-clause-size
free-requires-clause-size g c =
    let at = sym (c.loop-k.invariant.1.rest c.loop-k.k (le_refl c.loop-k.k)) ∙ c.take.ensures.value in
    ((part _ _ _ _ c.self.invariant c.loop-k.k c.take.result (omega (arith, c.loop-k-test.true)) at).size, omega (arith, c.filled_of.ensures))

pub free-requires-clause-full : goal.free-requires-clause-full
free-requires-clause-full g c =
    let at = sym (c.loop-k.invariant.1.rest c.loop-k.k (le_refl c.loop-k.k)) ∙ c.take.ensures.value in
    rw c.filled_of.ensures (part _ _ _ _ c.self.invariant c.loop-k.k c.take.result (omega (arith, c.loop-k-test.true)) at).full

pub free-requires-clause-empty : goal.free-requires-clause-empty
free-requires-clause-empty g c =
    let at = sym (c.loop-k.invariant.1.rest c.loop-k.k (le_refl c.loop-k.k)) ∙ c.take.ensures.value in
    rw c.filled_of.ensures (part _ _ _ _ c.self.invariant c.loop-k.k c.take.result (omega (arith, c.loop-k-test.true)) at).free
