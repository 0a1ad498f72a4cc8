use Rattle.std.proofs.Common.{◌≡◌, ℕ, [], ◌∷◌, ◌++◌, sym, subst, ◌∙◌}
use Rattle.predicate_locks.specs.Searches.{IsEntered}
use Rattle.search_tree.proofs.Openings.{opened_sound, opened_call}
use Rattle.search_tree.proofs.tree.Tree.open_search.Goals as goal

pub invariant_of-self-2 : goal.invariant_of-self-2
invariant_of-self-2 g c =
    let same : c.in-Ok.number ≡ c.in_ok-progress.progress.number = c.in-Ok.ensures.ok.next_number ∙ sym (c.in_ok-progress.ensures.0 ∙ c.next_number-number.ensures) in
    rw (c.push_reserved.ensures.items, c.make_slot.ensures.items) (
    opened_sound _ _ c.self.invariant (record {
      entered = subst (λ (n : ℕ). IsEntered c.self.inside.running c.enter.new.self (record { number = n; query = c.args.query; begun = c.self.inside.counter })) same c.in-Ok.ensures.ok;
      listed = subst (λ (n : ℕ). c.enter.new.self.running ≡ c.self.inside.running.running ++ record { number = n; query = c.args.query; begun = c.self.inside.counter } ∷ []) same c.in-Ok.ensures.listed;
      stack = c.in_ok-progress.ensures.2;
      found = c.in_ok-progress.ensures.3;
      steps = c.in_ok-progress.ensures.1;
    })
    )

pub returns-clause-ok : goal.returns-clause-ok
returns-clause-ok g c =
    let same : c.in-Ok.number ≡ c.in_ok-progress.progress.number = c.in-Ok.ensures.ok.next_number ∙ sym (c.in_ok-progress.ensures.0 ∙ c.next_number-number.ensures) in
    rw (← c.self.view_is, c.push_reserved.ensures.items, c.make_slot.ensures.items, same) (
    opened_call _ _ c.self.invariant (record {
      entered = subst (λ (n : ℕ). IsEntered c.self.inside.running c.enter.new.self (record { number = n; query = c.args.query; begun = c.self.inside.counter })) same c.in-Ok.ensures.ok;
      listed = subst (λ (n : ℕ). c.enter.new.self.running ≡ c.self.inside.running.running ++ record { number = n; query = c.args.query; begun = c.self.inside.counter } ∷ []) same c.in-Ok.ensures.listed;
      stack = c.in_ok-progress.ensures.2;
      found = c.in_ok-progress.ensures.3;
      steps = c.in_ok-progress.ensures.1;
    })
    )
