use Rattle.std.proofs.Common.{◌++◌, codes}
use Rattle.map_answers.proofs.PieceLemmas.{then_last}
use Rattle.map_answers.specs.Links.{link_text}
use Rattle.map_answers.specs.declared.answers.MediaType.TheVariants.{OpenApi}
use Rattle.map_pages.specs.Landing.{api_part}
use Rattle.map_pages.proofs.landing.put_api_part.Goals as goal

pub returns : goal.returns
unfolding api_part
returns g c =
    then_last c.put_path_link.result _ _ _ (codes ",") (link_text (codes "service-desc") OpenApi (c.args.base.now ++ codes "/api")) c.in_ok-put.ensures c.put_path_link.ensures
