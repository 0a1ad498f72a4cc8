use Rattle.hall.proofs.guarded.Guarded.stage.Goals as goal

pub invariant_of-self : goal.invariant_of-self
invariant_of-self g c =
    let old = c.args.self.now in
    record {
      ends = old.ends;
      idle = old.idle;
      cut = rw c.stage.ensures old.cut;
      opened = rw c.stage.ensures old.opened;
      edition = rw c.stage.ensures old.edition;
      present = rw c.stage.ensures old.present;
    }
