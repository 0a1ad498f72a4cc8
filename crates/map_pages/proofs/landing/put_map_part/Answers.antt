use Rattle.std.proofs.Common.{◌++◌, codes}
use Rattle.map_answers.proofs.PieceLemmas.{then_last}
use Rattle.map_answers.specs.Links.{link_text}
use Rattle.map_answers.specs.declared.answers.MediaType.TheVariants.{Html}
use Rattle.map_pages.specs.Landing.{map_part}
use Rattle.map_pages.proofs.landing.put_map_part.Goals as goal

pub returns : goal.returns
unfolding map_part
returns g c =
    then_last c.put_path_link.result _ _ _ (codes ",") (link_text (codes "alternate") Html (c.args.base.now ++ codes "/map")) c.in_ok-put.ensures c.put_path_link.ensures
