use Rattle.std.proofs.Common.{◌≡◌, ap, ◌∙◌, subst, sym, arith}
use Rattle.sqlite_trees.specs.Tree.{put_row}
use Rattle.sqlite_trees.specs.View.{IsClean}
use Rattle.volumes.specs.Promises.{Keeps, told_lives}
use Rattle.volumes.specs.Rows.{row_of_life}
use Rattle.volumes.proofs.RestLemmas.{held_beside, life_noted}
use Rattle.volumes.proofs.volumes.Volume.note_life.Goals as goal

pub returns-clause-kept : goal.returns-clause-kept
returns-clause-kept g c = λ clean v keeps.
    let view = g.S.Store.view in
    let before : IsClean (view c.put_life-put.new.store) = omega (arith, c.commit.ensures.clean, clean) in
    let first : IsClean (view c.self.inside.store) = omega (arith, c.put_life-put.ensures.quiet.clean, c.commit.ensures.clean, clean) in
    let held = subst (λ w. Keeps view w v) (sym c.self.view_is) keeps in
    held_beside (view c.self.inside.store) (view c.put_life-put.new.store) (view c.commit.new.self) c.self.inside.tables c.self.inside.next _ v
    c.self.invariant first (c.in_default.ensures.ok before) (c.in_ok-commit.ensures.ok clean) held

pub returns-clause-noted : goal.returns-clause-noted
returns-clause-noted g c = λ clean.
    let view = g.S.Store.view in
    let before : IsClean (view c.put_life-put.new.store) = omega (arith, c.commit.ensures.clean, clean) in
    let first : IsClean (view c.self.inside.store) = omega (arith, c.put_life-put.ensures.quiet.clean, c.commit.ensures.clean, clean) in
    let row = row_of_life c.args.life c.self.inside.next c.args.subjects.now in
    life_noted (view c.self.inside.store) (view c.put_life-put.new.store) (view c.commit.new.self) c.self.inside.tables row
    c.self.invariant first (c.in_default.ensures.ok before) (c.in_ok-commit.ensures.ok clean)
    ∙ ap (λ w. put_row (row_of_life c.args.life w.next c.args.subjects.now) (told_lives view w)) c.self.view_is
