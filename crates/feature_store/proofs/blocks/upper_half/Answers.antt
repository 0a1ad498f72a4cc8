use Rattle.std.proofs.Common.{◌∙◌, sym, arith}
use Rattle.std.proofs.lemmas.List.{drop_all}
use Rattle.feature_store.proofs.blocks.upper_half.Goals as goal

pub returns-else-len-gt-HALF : goal.returns-else-len-gt-HALF
returns-else-len-gt-HALF c = c.new-upper.ensures ∙ sym (drop_all 256 c.args.block.now.items (omega (arith, c.if-len-gt-HALF.false, c.len.ensures.value)))
