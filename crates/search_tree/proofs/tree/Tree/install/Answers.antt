use Rattle.search_tree.proofs.InstallSteps.{parent_inner, entry_there, place_within, keyed_inner, keyed_room, installed_sound, installed_same, installed_call, installed_step}
use Rattle.search_tree.proofs.tree.Tree.install.Goals as goal

pub set_key-requires-clause-inner : goal.set_key-requires-clause-inner
set_key-requires-clause-inner g c = parent_inner _ _ _ (rw (← c.self.view_is) at c.requires.may)

pub set_key-requires-clause-place : goal.set_key-requires-clause-place
set_key-requires-clause-place g c = place_within _ _ _ (rw (← c.self.view_is) at c.requires.may)

pub push_entry-requires-clause-inner : goal.push_entry-requires-clause-inner
push_entry-requires-clause-inner g c =
    let may = rw (← c.self.view_is) at c.requires.may in
    keyed_inner _ _ _ may _ (c.set_key.ensures may.old c.args.entry.now.left (entry_there _ _ _ may))

pub push_entry-requires-clause-room : goal.push_entry-requires-clause-room
push_entry-requires-clause-room g c =
    let may = rw (← c.self.view_is) at c.requires.may in
    keyed_room _ _ _ may _ (c.set_key.ensures may.old c.args.entry.now.left (entry_there _ _ _ may))

pub invariant_of-self : goal.invariant_of-self
invariant_of-self g c =
    let laws = g.met.C.KeyClass.laws in
    let may = rw (← c.self.view_is) at c.requires.may in
    installed_sound _ _ _ may c.self.invariant _ _ _ _ _ _ (c.set_key.ensures may.old c.args.entry.now.left (entry_there _ _ _ may)) c.push_entry.ensures c.set_place.ensures c.set_seq.ensures c.set_place-2.ensures (rw (← c.self.view_is) at c.requires.seq) laws

pub returns-clause-contents : goal.returns-clause-contents
returns-clause-contents g c =
    let may = rw (← c.self.view_is) at c.requires.may in
    rw (← c.self.view_is) (installed_same _ _ _ may c.self.invariant _ _ _ _ _ _ (c.set_key.ensures may.old c.args.entry.now.left (entry_there _ _ _ may)) c.push_entry.ensures c.set_place.ensures c.set_seq.ensures c.set_place-2.ensures (rw (← c.self.view_is) at c.requires.seq))

pub returns-clause-tended : goal.returns-clause-tended
returns-clause-tended g c =
    let may = rw (← c.self.view_is) at c.requires.may in
    rw (← c.self.view_is) (installed_call _ _ _ may c.self.invariant _ _ _ _ _ _ (c.set_key.ensures may.old c.args.entry.now.left (entry_there _ _ _ may)) c.push_entry.ensures c.set_place.ensures c.set_seq.ensures c.set_place-2.ensures (rw (← c.self.view_is) at c.requires.seq))

pub returns-clause-step : goal.returns-clause-step
returns-clause-step g c =
    let may = rw (← c.self.view_is) at c.requires.may in
    rw (← c.self.view_is) (installed_step _ _ _ may c.self.invariant _ _ _ _ _ _ (c.set_key.ensures may.old c.args.entry.now.left (entry_there _ _ _ may)) c.push_entry.ensures c.set_place.ensures c.set_seq.ensures c.set_place-2.ensures (rw (← c.self.view_is) at c.requires.seq))
