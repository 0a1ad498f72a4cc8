use Rattle.published_policies.proofs.LawLemmas.{still_told, no_older}
use Rattle.published_policies.proofs.laws.caught_up_then_explained.Goals as goal

pub returns-clause-told : goal.returns-clause-told
returns-clause-told g c = still_told c.args.edition _ _ c.catch_up.ensures.edition _ c.explain.ensures.later

pub returns-clause-later : goal.returns-clause-later
returns-clause-later g c = no_older c.args.edition _ _ c.catch_up.ensures.edition _ c.explain.ensures.later c.explain.ensures.edition c.explain.ensures.published
