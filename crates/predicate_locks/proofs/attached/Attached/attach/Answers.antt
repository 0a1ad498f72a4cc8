use Rattle.std.proofs.Common.{◌≡◌, ◌++◌, ◌∷◌, [], ℕ, List, false, sym, ap, ◌∙◌}
use Rattle.predicate_locks.specs.Numbers.{is_in, with_number}
use Rattle.predicate_locks.proofs.NumberLemmas.{with_one}
use Rattle.predicate_locks.proofs.attached.Attached.attach.Goals as goal

pub returns-clause-union : goal.returns-clause-union
returns-clause-union g c =
    let out : is_in c.args.number c.args.self.now.numbers ≡ false = sym c.if-holds.ensures.value in
    let items : c.push_reserved.new.self.items ≡ c.args.self.now.numbers ++ c.args.number ∷ [] = rw (← c.self.view_is) (c.push_reserved.ensures.items ∙ ap (λ (xs : List ℕ). xs ++ c.args.number ∷ []) c.make_room.ensures.items) in
    let is : c.push_reserved.new.self.items ≡ with_number c.args.number c.args.self.now.numbers = rw out items in
    rw is (with_one c.args.number c.args.self.now.numbers)
