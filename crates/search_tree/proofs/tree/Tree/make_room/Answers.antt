use Rattle.std.proofs.Common.{refl}
use Rattle.std.proofs.lemmas.Result.{err_from_is_err_and}
use Rattle.search_tree.specs.Cases.Answers.{links, parts, grows}
use Rattle.search_tree.proofs.AdvanceLemmas.{not_linked, not_parted, not_grown}
use Rattle.search_tree.proofs.tree.Tree.make_room.Goals as goal

pub returns-in_ok-seq-in-Install-clause-made : goal.returns-in_ok-seq-in-Install-clause-made
returns-in_ok-seq-in-Install-clause-made g c = rw c.in-Install.is (links c.install.ensures.step refl)

pub returns-in_err-seq-in-Install-clause-made : goal.returns-in_err-seq-in-Install-clause-made
returns-in_err-seq-in-Install-clause-made g c =
    let p = err_from_is_err_and c.from_residual.result c.from_residual.ensures.1 in
    rw (c.in-Install.is, p.1, p.2) (not_linked g.C.KeyClass.class c.args.self.now c.args.self.now c.args.at c.args.at _ c.in_err-seq-in-Install.field-0.0 c.in_err-seq-in-Install.ensures.err refl)

pub returns-in_ok-right-in-Split-clause-made : goal.returns-in_ok-right-in-Split-clause-made
returns-in_ok-right-in-Split-clause-made g c = rw c.in-Split.is (parts c.in_ok-right-in-Split.ensures.parted)

pub returns-in_err-right-in-Split-clause-made : goal.returns-in_err-right-in-Split-clause-made
returns-in_err-right-in-Split-clause-made g c =
    let p = err_from_is_err_and c.from_residual-in_err-right-in-Split.result c.from_residual-in_err-right-in-Split.ensures.1 in
    rw (c.in-Split.is, p.1, p.2) (not_parted g.C.KeyClass.class c.args.self.now c.split.new.self c.args.at c.args.at _ _ c.in_err-right-in-Split.field-0.0 c.in_err-right-in-Split.ensures.faults c.in_err-right-in-Split.ensures.full c.in_err-right-in-Split.ensures.untouched c.in_err-right-in-Split.ensures.err)

pub returns-in_ok-grow-in-Grow-clause-made : goal.returns-in_ok-grow-in-Grow-clause-made
returns-in_ok-grow-in-Grow-clause-made g c = rw c.in-Grow.is (grows c.in_ok-grow-in-Grow.ensures.grown refl)

pub returns-in_err-grow-in-Grow-clause-made : goal.returns-in_err-grow-in-Grow-clause-made
returns-in_err-grow-in-Grow-clause-made g c =
    let p = err_from_is_err_and c.from_residual-in_err-grow-in-Grow.result c.from_residual-in_err-grow-in-Grow.ensures.1 in
    rw (c.in-Grow.is, p.1, p.2) (not_grown g.C.KeyClass.class c.args.self.now c.grow.new.self c.args.at c.args.at _ c.in_err-grow-in-Grow.field-0.0 c.in_err-grow-in-Grow.ensures.faults c.in_err-grow-in-Grow.ensures.too_high c.in_err-grow-in-Grow.ensures.full c.in_err-grow-in-Grow.ensures.untouched c.in_err-grow-in-Grow.ensures.err)
