use Rattle.hall.proofs.guarded.Guarded.take_in.Goals as goal

pub invariant_of-self : goal.invariant_of-self
invariant_of-self g c =
    let old = c.args.self.now in
    record {
      ends = old.ends;
      idle = old.idle;
      cut = rw c.take_in.ensures.same old.cut;
      opened = rw c.take_in.ensures.same old.opened;
      edition = rw c.take_in.ensures.same old.edition;
      present = c.take_in.ensures.seen;
    }
