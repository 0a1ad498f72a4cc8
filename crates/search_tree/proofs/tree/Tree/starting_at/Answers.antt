use Rattle.std.proofs.Common.{◌≡◌, Some, refl, ap, ◌∙◌, arith}
use Rattle.node_arena.specs.Slots.{slot_count, taken_count}
use Rattle.tree_theory.proofs.Steps.{started_keeps}
use Rattle.tree_theory.proofs.ContentsKept.{contents_started}
use Rattle.search_tree.proofs.TreeSteps.{handle_is}
use Rattle.search_tree.proofs.tree.Tree.starting_at.Goals as goal

pub invariant_of-result : goal.invariant_of-result
invariant_of-result g c =
    let given = c.in_ok-root.ensures.ok in
    let empty = c.starting_at-nodes.ensures.empty in
    record {
      invariant = started_keeps (record {
        root_now = given.has_value ∙ ap Some c.in_ok-first.ensures;
        others = λ x apart. given.other_values x apart ∙ empty.no_values x;
        searches = λ s. rw c.in_ok-running.ensures refl;
      });
      progress_of_each = λ s. rw (c.in_ok-running.ensures, c.new.ensures.items) refl;
      progress_once = rw c.new.ensures.items (λ i j d order within. absurd (omega arith));
      limited = c.requires;
    }

pub returns-clause-ok : goal.returns-clause-ok
returns-clause-ok g c =
    let given = c.in_ok-root.ensures.ok in
    let empty = c.starting_at-nodes.ensures.empty in
    let counts = c.in_ok-root.ensures.counts in
    let none : taken_count c.starting_at-nodes.result ≡ 0 = rw c.starting_at-nodes.ensures.value refl in
    let none_yet : slot_count c.starting_at-nodes.result ≡ 0 = rw c.starting_at-nodes.ensures.value refl in
    let next = counts.next_slot in
    let slot : c.in_ok-root.root.slot ≡ 0 = omega (arith, next, none_yet) in
    record {
      contents = contents_started (record {
        root_now = given.has_value ∙ ap Some c.in_ok-first.ensures;
        others = λ x apart. given.other_values x apart ∙ empty.no_values x;
        searches = λ s. rw c.in_ok-running.ensures refl;
      });
      searches = λ s. rw c.in_ok-running.ensures refl;
      none_run = rw c.in_ok-running.ensures refl;
      counter_is = refl;
      next_is = rw c.in_ok-running.ensures refl;
      limit_is = refl;
      level = rw (given.has_value, c.in_ok-first.ensures) refl;
      root_is = given.has_value ∙ ap Some c.in_ok-first.ensures;
      taken = let more = counts.taken in omega (arith, more, none);
      slots = counts.slots ∙ rw (none_yet, slot) refl;
      generation_is = given.same_first ∙ rw c.starting_at-nodes.ensures.value refl;
      root_at = handle_is c.in_ok-root.root 0 c.args.generation slot (counts.generation ∙ rw (slot, c.starting_at-nodes.ensures.value) refl);
    }
