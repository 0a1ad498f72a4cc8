use Rattle.std.proofs.Common.{◌≡◌, ap, length, arith, ◌∙◌}
use Rattle.feature_store.proofs.BlockLemmas.{read_block, found_at_position, gap_at_position}
use Rattle.feature_store.proofs.blocks.find_in.Goals as goal

pub returns-then-index-entries-clause-missing : goal.returns-then-index-entries-clause-missing
returns-then-index-entries-clause-missing c =
    let is = c.as_slice-entries.ensures.value ∙ read_block _ _ _ c.requires.within c.index-blocks-block.is in
    gap_at_position c.args.id c.args.blocks.now c.requires.rising c.requires.filled c.args.block c.requires.within c.index_in-index.result
    (rw is at c.index_in-index.ensures.within) (rw is at c.index_in-index.ensures.before) c.requires.before (rw is at c.index_in-index.ensures.behind) c.requires.behind
    (λ inside. absurd (omega (arith, inside, c.if-index-entries.true, ap length is)))

pub returns-then-entries-index-clause-found : goal.returns-then-entries-index-clause-found
returns-then-entries-index-clause-found c =
    let is = c.as_slice-entries.ensures.value ∙ read_block _ _ _ c.requires.within c.index-blocks-block.is in
    found_at_position c.args.id c.args.blocks.now c.requires.rising c.requires.filled c.args.block c.requires.within c.index_in-index.result
    (rw is at c.index_in-index.ensures.within) (rw is at c.index_in-index.ensures.before) c.requires.before (rw is at c.index_in-index.ensures.behind) c.requires.behind
    (let ne : c.index_in-index.result ≡ length c.as_slice-entries.result.now → ⊥ = c.if-index-entries.false in omega (arith, ne, c.index_in-index.ensures.within, ap length is))
    (rw is at c.if-entries-index.true)

pub returns-clause-missing : goal.returns-clause-missing
returns-clause-missing c =
    let is = c.as_slice-entries.ensures.value ∙ read_block _ _ _ c.requires.within c.index-blocks-block.is in
    gap_at_position c.args.id c.args.blocks.now c.requires.rising c.requires.filled c.args.block c.requires.within c.index_in-index.result
    (rw is at c.index_in-index.ensures.within) (rw is at c.index_in-index.ensures.before) c.requires.before (rw is at c.index_in-index.ensures.behind) c.requires.behind
    (λ inside. rw is at c.if-entries-index.false)
