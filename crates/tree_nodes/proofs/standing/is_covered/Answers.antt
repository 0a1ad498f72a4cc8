use Rattle.std.proofs.Common.{sym, ◌∙◌}
use Rattle.std.proofs.lemmas.Bool.{false≢true}
use Rattle.tree_theory.specs.Nodes.{entries_of}
use Rattle.tree_nodes.proofs.StandingLemmas.{named_with, unnamed, one_covers}
use Rattle.tree_nodes.proofs.standing.is_covered.Goals as goal

pub returns-in-None-clause-other : goal.returns-in-None-clause-other
returns-in-None-clause-other g c = λ differ no covered. unnamed _ c.args.nodes.now c.args.parent c.args.child c.args.key c.in-Some.node.now (sym c.in-Some.ensures.value) (rw c.children.ensures.value at c.in-None.ensures.none) covered

pub returns-in-Some-place_among-clause-covered : goal.returns-in-Some-place_among-clause-covered
returns-in-Some-place_among-clause-covered g c = λ yes.
    record {
      node = c.in-Some.node.now;
      is = sym c.in-Some.ensures.value;
      entry_key = c.index-keys-place.result;
      entry = named_with (entries_of c.in-Some.node.now.body) c.keys.result.now c.children.result.now c.in-Some-place_among.place c.index-keys-place.result c.args.child c.keys.ensures.value c.children.ensures.value c.in-Some-place_among.ensures.some c.index-keys-place.is;
      covers = c.covers.ensures.0 yes;
    }

pub returns-in-Some-place_among-clause-other : goal.returns-in-Some-place_among-clause-other
returns-in-Some-place_among-clause-other g c = λ differ no covered.
    let named = named_with (entries_of c.in-Some.node.now.body) c.keys.result.now c.children.result.now c.in-Some-place_among.place c.index-keys-place.result c.args.child c.keys.ensures.value c.children.ensures.value c.in-Some-place_among.ensures.some c.index-keys-place.is in
    absurd (false≢true (sym no ∙ c.covers.ensures.1 (one_covers _ c.args.nodes.now c.args.parent c.args.child c.args.key c.in-Some.node.now (sym c.in-Some.ensures.value) differ c.index-keys-place.result named covered)))
