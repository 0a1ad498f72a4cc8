use Rattle.std.proofs.Common.{true, Some, refl, sym, ap, ◌∙◌}
use Rattle.combining.specs.Holding.{atom_holds}
use Rattle.decision.proofs.KnownLemmas.{told-atom, all-skip, all-keep, all-end}
use Rattle.decision.proofs.known.keep_conditions.Goals as goal
use Rattle.decision.proofs.known.keep_conditions.Goals.{in-Some-true, in-None+in_ok-try_push-in-None}

pub loop-atom-preserved : goal.loop-atom-preserved
loop-atom-preserved g c =
    let known = c.args.known.now in
    let i = c.loop-atom.atom-index in
    let xs = c.as_slice-atoms.result.now in
    let x = c.atom-item.result in
    elim c.match-known_atom.branch [
      | in-Some-true w ↦ rw w.kept-is (all-skip known atom_holds xs i x c.loop-atom.kept.items c.loop-atom-test.true c.atom-item.is
          (told-atom known x true (sym c.known_atom.ensures ∙ w.in-Some-true.is ∙ ap Some w.in-Some-true.field-0-test)) c.loop-atom.invariant)
      | in-None+in_ok-try_push-in-None w ↦ rw w.kept-is (all-keep known atom_holds xs i x x c.loop-atom.kept.items w.try_push.new.self.items c.loop-atom-test.true c.atom-item.is
          w.in_ok-try_push-in-None.ensures.items (λ q met fits. refl) c.loop-atom.invariant)
    ]

pub returns : goal.returns
returns g c =
    all-end c.args.known.now atom_holds c.as_slice-atoms.result.now c.args.when.now c.loop-atom.kept.items c.from_vec.result c.loop-atom.atom-index c.loop-atom-test.false c.as_slice-atoms.ensures c.from_vec.ensures c.loop-atom.invariant
