use Rattle.search_tree.proofs.TendSteps.{still_inner, still_within, retired_sound, retired_same, retired_call, retired_step}
use Rattle.search_tree.proofs.tree.Tree.retire.Goals as goal

pub remove_entry-requires-clause-inner : goal.remove_entry-requires-clause-inner
remove_entry-requires-clause-inner g c = still_inner _ _ _ c.args.at c.args.parent c.args.place _ (rw (← c.self.view_is) at c.requires.may) c.set_place.ensures

pub remove_entry-requires-clause-place : goal.remove_entry-requires-clause-place
remove_entry-requires-clause-place g c = still_within _ _ _ c.args.at c.args.parent c.args.place _ (rw (← c.self.view_is) at c.requires.may) c.set_place.ensures

pub invariant_of-self : goal.invariant_of-self
invariant_of-self g c = retired_sound _ _ _ _ c.args.at c.args.parent c.args.place _ (rw (← c.self.view_is) at c.requires.may) c.set_place.ensures c.remove_entry.ensures (rw (← c.self.view_is) at c.requires.stamp) c.self.invariant

pub returns-clause-contents : goal.returns-clause-contents
returns-clause-contents g c = rw (← c.self.view_is) (retired_same _ _ _ _ c.args.at c.args.parent c.args.place _ (rw (← c.self.view_is) at c.requires.may) c.set_place.ensures c.remove_entry.ensures (rw (← c.self.view_is) at c.requires.stamp))

pub returns-clause-tended : goal.returns-clause-tended
returns-clause-tended g c = rw (← c.self.view_is) (retired_call _ _ _ _ c.args.at c.args.parent c.args.place _ (rw (← c.self.view_is) at c.requires.may) c.set_place.ensures c.remove_entry.ensures (rw (← c.self.view_is) at c.requires.stamp))

pub returns-clause-step : goal.returns-clause-step
returns-clause-step g c = rw (← c.self.view_is) (retired_step _ _ _ _ c.args.at c.args.parent c.args.place _ (rw (← c.self.view_is) at c.requires.may) c.set_place.ensures c.remove_entry.ensures (rw (← c.self.view_is) at c.requires.stamp))
