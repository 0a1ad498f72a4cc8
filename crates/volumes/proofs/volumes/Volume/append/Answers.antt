use Rattle.std.proofs.Common.{◌≡◌, ◌+◌, map, length, subst, sym, ap, ◌∙◌, arith}
use Rattle.std.proofs.lemmas.List.{length-map}
use Rattle.std.specs.Arc.{arc_value}
use Rattle.sqlite_trees.specs.View.{IsClean}
use Rattle.volumes.specs.Promises.{Keeps, told_lives}
use Rattle.volumes.proofs.RestLemmas.{held_committed, lives_kept}
use Rattle.volumes.proofs.volumes.Volume.append.Goals as goal

pub returns-clause-ok : goal.returns-clause-ok
returns-clause-ok g c = λ clean v keeps.
    let view = g.S.Store.view in
    let rs = map arc_value c.args.records.now in
    let before : IsClean (view c.put_records-put.new.store) = omega (arith, c.commit.ensures.clean, clean) in
    let first : IsClean (view c.self.inside.store) = omega (arith, c.put_records-put.ensures.quiet.clean, c.commit.ensures.clean, clean) in
    let held = subst (λ w. Keeps view w v) (sym c.self.view_is) keeps in
    let count : c.in-Some.next ≡ c.self.inside.next + length rs = c.in-Some.ensures.some.0 ∙ ap (λ n. c.self.inside.next + n) (sym (length-map c.args.records.now arc_value)) in
    held_committed (view c.self.inside.store) (view c.put_records-put.new.store) (view c.commit.new.self) c.self.inside.tables c.self.inside.next c.in-Some.next rs v
    c.self.invariant first (c.in_default-put.ensures.ok before) (c.in_ok-commit.ensures.ok clean) count held

pub returns-clause-lives : goal.returns-clause-lives
returns-clause-lives g c = λ clean.
    let view = g.S.Store.view in
    let before : IsClean (view c.put_records-put.new.store) = omega (arith, c.commit.ensures.clean, clean) in
    let first : IsClean (view c.self.inside.store) = omega (arith, c.put_records-put.ensures.quiet.clean, c.commit.ensures.clean, clean) in
    let more = c.in_default-put.ensures.ok before in
    lives_kept (view c.self.inside.store) (view c.put_records-put.new.store) (view c.commit.new.self) c.self.inside.tables c.self.invariant first
    more.frame more.lives (c.in_ok-commit.ensures.ok clean)
    ∙ ap (told_lives view) c.self.view_is
