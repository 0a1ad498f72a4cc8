use Rattle.std.proofs.Common.{◌+◌, ◌∙◌, Some, None, drop, get_or, List, sym, arith, subst}
use Rattle.std.proofs.lemmas.List.{drop_more, drop_all}
use Rattle.features.specs.declared.rows.Feature.{Feature}
use Rattle.judging.proofs.ListingLemmas.{Lists, lists_yes, lists_no, lists_end}
use Rattle.plain_world.proofs.FindingLemmas.{looked_up, looks_up, found_listed}
use Rattle.plain_world.proofs.listing.listed.Goals as goal
use Rattle.plain_world.proofs.listing.listed.Goals.{in-Some+in_ok-shows+then-branch+in_ok-try_push, in-Some+in_ok-shows+else-branch, in_default}

pub loop-id-preserved : goal.loop-id-preserved
loop-id-preserved g c =
    let document = c.args.reading.now.decider.document in
    let subject = c.args.reading.now.subject in
    let window = c.args.window.now in
    let features = c.args.store.now in
    let ids = c.args.ids.now in
    let i = c.loop-id.id-index in
    let id = get_or ids i 0 in
    let left = drop (i + 1) ids in
    let front = c.loop-id.rows.items in
    let all = looked_up features ids in
    let told = rw (drop_more ids i 0 c.loop-id-test.true) at c.loop-id.invariant.told in
    record {
      same = elim c.match-get.branch [
        | in-Some+in_ok-shows+then-branch+in_ok-try_push w ↦ w.reading-is ∙ w.in_ok-shows.ensures.same ∙ c.loop-id.invariant.same
        | in-Some+in_ok-shows+else-branch w ↦ w.reading-is ∙ w.in_ok-shows.ensures.same ∙ c.loop-id.invariant.same
        | in_default w ↦ w.reading-is ∙ c.loop-id.invariant.same
      ];
      told = elim c.match-get.branch [
        | in-Some+in_ok-shows+then-branch+in_ok-try_push w ↦ (
            let there = subst (λ (xs : List Feature). Lists document subject window all xs front) (looks_up features id left (Some w.in-Some.feature) (sym (rw c.loop-id.invariant.looked at w.in-Some.ensures.value))) told in
            rw (w.rows-is, w.in_ok-try_push.ensures.items) (lists_yes document subject window all (looked_up features left) front w.in-Some.feature there ((rw (c.loop-id.invariant.same, c.new-prepared.ensures) at w.in_ok-shows.ensures.shown).0 w.if-branch.true)))
        | in-Some+in_ok-shows+else-branch w ↦ (
            let there = subst (λ (xs : List Feature). Lists document subject window all xs front) (looks_up features id left (Some w.in-Some.feature) (sym (rw c.loop-id.invariant.looked at w.in-Some.ensures.value))) told in
            rw w.rows-is (lists_no document subject window all (looked_up features left) front w.in-Some.feature there (λ shown. (let met = (rw (c.loop-id.invariant.same, c.new-prepared.ensures) at w.in_ok-shows.ensures.shown).1 shown in cc (met, w.if-branch.false)))))
        | in_default w ↦ (
            let there = subst (λ (xs : List Feature). Lists document subject window all xs front) (looks_up features id left None (sym (rw c.loop-id.invariant.looked at w.in_default.ensures.value))) told in
            rw w.rows-is there)
      ];
      looked = c.get.ensures.same ∙ c.loop-id.invariant.looked;
      metered = omega (arith, c.get.ensures.cost, c.loop-id.invariant.metered);
      raised = omega (arith, c.get.ensures.cost, c.loop-id.invariant.raised, c.loop-id.invariant.within);
      within = omega (arith, c.get.ensures.cost, c.loop-id.invariant.within);
    }

pub returns-clause-listed : goal.returns-clause-listed
returns-clause-listed g c =
    let document = c.args.reading.now.decider.document in
    let subject = c.args.reading.now.subject in
    let window = c.args.window.now in
    let features = c.args.store.now in
    let ids = c.args.ids.now in
    let told = rw (drop_all c.loop-id.id-index ids c.loop-id-test.false) at c.loop-id.invariant.told in
    found_listed window document subject features ids c.loop-id.rows.items c.fact_sorted_by_id.ensures c.requires.rise c.requires.all
    (lists_end document subject window (looked_up features ids) c.loop-id.rows.items told)
