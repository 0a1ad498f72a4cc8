use Rattle.std.proofs.Common.{◌≡◌, ◌≤◌, ap, subst, arith, length, List}
use Rattle.std.proofs.lemmas.Bool.Decides.{nat_tests}
use mathlib.Core.List.{IsPrefix}
use Rattle.state_lists.proofs.Prefixes.{prefix_shorter, prefix_whole}
use Rattle.state_lists.proofs.seen_states.SeenStates.is_same.Goals as goal

pub returns : goal.returns
returns g c = λ told.
    let both = c.learn.new.self.log in
    let this : IsPrefix c.self.inside.seen.log both = subst (λ (l : List _). IsPrefix l both) (ap (λ s. s.log) c.again-both.ensures) c.learn.ensures.2 in
    let len : length c.self.inside.seen.log ≡ length c.other.inside.seen.log = grind (arith, nat_tests, told) in
    rw (← c.self.view_is, ← c.other.view_is) (prefix_whole c.self.inside.seen.log c.other.inside.seen.log (prefix_shorter c.self.inside.seen.log c.other.inside.seen.log both this c.learn.ensures.3 (omega arith)) (omega arith))
