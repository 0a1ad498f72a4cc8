use Rattle.std.proofs.Common.{◌≡◌, arith}
use Rattle.audit_trail.proofs.EqualLemmas.{exact_record}
use Rattle.audit_trail.proofs.comparing.RecordPartialEq.eq.Goals as goal

pub returns-then-seat-clause-exact : goal.returns-then-seat-clause-exact
returns-then-seat-clause-exact g c =
    let seats : c.args.self.now.seat ≡ c.args.other.now.seat = omega arith in
    exact_record c.same_deed.result c.args.self.now c.args.other.now seats (rw (c.deed.ensures, c.deed-then-seat.ensures) at c.same_deed.ensures)
