use Rattle.std.proofs.Common.{◌≢◌, ◌+◌, ◌≤◌, Err, ap, arith, length, refl}
use Rattle.feature_store.specs.declared.stores.StoreFault.TheVariants.{Full}
use Rattle.feature_store.specs.declared.tables.TheConstants.{LIST_LIMIT}
use Rattle.judging.proofs.AcceptedLemmas.{can_apply}
use Rattle.plain_world.specs.Events.{Ended}
use Rattle.plain_world.proofs.EventLemmas.{applied_whole, handed_on, store_refused, too_many}
use Rattle.plain_world.proofs.SoundLemmas.{keeps_added}
use Rattle.plain_world.proofs.worlds.PlainWorld.apply.Goals as goal

pub len_after-requires : goal.len_after-requires
len_after-requires g c =
    let accepted = rw (← c.self.view_is) at c.requires.accepted in
    (can_apply (c.self.inside.in_force).document c.self.inside.store c.args.subject c.args.changes.now c.requires.distinct accepted)

pub returns-then-len_after-most_features : goal.returns-then-len_after-most_features
returns-then-len_after-most_features g c =
    let counted = c.len_after.ensures (c.self.inside.version + 1) c.args.subject.office in
    let more = rw (c.most_features.ensures.value, ← c.self.view_is) at c.if-len_after-most_features.true in
    rw (← c.self.view_is) (too_many c.args.seat c.args.number c.args.subject c.args.changes.now _ c.len_after.result c.if-self.false more counted)

pub apply-requires-clause-can : goal.apply-requires-clause-can
apply-requires-clause-can g c =
    let accepted = rw (← c.self.view_is) at c.requires.accepted in
    (can_apply (c.self.inside.in_force).document c.self.inside.store c.args.subject c.args.changes.now c.requires.distinct accepted)

pub apply-requires-clause-few : goal.apply-requires-clause-few
apply-requires-clause-few g c =
    omega (arith, c.requires.few)

pub invariant_of-self-2 : goal.invariant_of-self-2
invariant_of-self-2 g c =
    let seated = rw (← c.self.view_is) at c.requires.seated in
    let accepted = rw (← c.self.view_is) at c.requires.accepted in
    let below = rw (← c.self.view_is) at c.requires.below in
    rw (c.put.ensures.records, c.in_ok-entry.ensures.records, c.in_ok-apply.ensures.ok, c.in_ok-entry.ensures.entry, c.applied-told.ensures, c.in_ok-list.ensures)
    (keeps_added _ _ _ _ _ _ c.self.invariant below (seated, accepted, refl))

pub returns-in_err-apply : goal.returns-in_err-apply
returns-in_err-apply g c =
    let counted = c.len_after.ensures (c.self.inside.version + 1) c.args.subject.office in
    let other : c.in_err-apply.field-0.0 ≢ Full = λ full. (let over = c.in_err-apply.ensures.full.0 (ap Err full) in absurd (omega (arith, over, counted, c.if-len_after-most_features.false, c.most_features.ensures.within))) in
    handed_on Ended c.from_residual-in_err-apply.result _ _ _ _ c.from_residual-in_err-apply.ensures.1
    (store_refused c.in_err-apply.field-0.0 _ _ _ other (rw (← c.self.view_is, c.in_err-apply.ensures.err, c.in_ok-entry.ensures.records, c.in_ok-entry.ensures.first) refl))

pub returns : goal.returns
returns g c =
    let counted = c.len_after.ensures (c.self.inside.version + 1) c.args.subject.office in
    let few = rw (c.most_features.ensures.value, ← c.self.view_is) at c.if-len_after-most_features.false in
    rw (← c.self.view_is) (applied_whole c.args.seat c.args.number c.args.subject c.args.changes.now _ _ c.len_after.result c.if-self.false (omega (arith, few)) counted
    (rw (c.put.ensures.records, c.in_ok-entry.ensures.records, c.in_ok-entry.ensures.entry, c.applied-told.ensures, c.in_ok-list.ensures, c.put.ensures.first, c.in_ok-entry.ensures.first, c.in_ok-apply.ensures.ok, c.end.ensures) refl))
