-- Tending a world is tending its index.
use Rattle.std.proofs.Common.{◌≡◌, ℕ, IfErr, Result, Err, refl, sym, subst}
use Rattle.plain_world.specs.declared.faults.Fault.{Fault}
use Rattle.plain_world.specs.declared.faults.Fault.TheVariants as faults
use Rattle.plain_world.specs.Events.{Tend, Tended, Failed, Reply, Happens}
use Rattle.plain_world.specs.States.{WorldData}
use Rattle.tree_answers.specs.declared.answers.Tending.{Tending}
use Rattle.tree_answers.specs.declared.fault.TreeFault.{TreeFault}
use Rattle.tree_answers.specs.declared.fault.TreeFault.TheVariants as tree
use Rattle.world.specs.Index.{Index}
use Rattle.world.specs.Stepping.{TendsIndex, in_world_faults}

-- the same for equal worlds and indexes
pub tends_as : (w w' : WorldData) (slot : ℕ) (old old' new : Index) (r : Result Tending Fault) → w ≡ w' → old ≡ old' → TendsIndex w slot old new r → TendsIndex w' slot old' new r
tends_as w w' slot old old' new r e e' h = subst (λ (x : WorldData). TendsIndex x slot old' new r) e (subst (λ (x : Index). TendsIndex w slot x new r) e' h)

-- S6, the only refusal of tending, as the world tells it
pub told_spent : (P : TreeFault → Type 0) (answer : Result Tending TreeFault) (fault : TreeFault) → answer ≡ Err fault → IfErr answer (λ f. (f ≡ tree.Spent) × P f) → ◌≡◌ {A = Result Tending Fault} (Err (faults.Tree fault)) (in_world_faults answer)
told_spent P answer fault is spent =
    let own : fault ≡ tree.Spent = (subst (λ (r : Result Tending TreeFault). IfErr r (λ f. (f ≡ tree.Spent) × P f)) is spent).0 in
    subst (λ (r : Result Tending TreeFault). ◌≡◌ {A = Result Tending Fault} (Err (faults.Tree fault)) (in_world_faults r)) (sym is)
    (subst (λ (f : TreeFault). ◌≡◌ {A = Result Tending Fault} (Err (faults.Tree f)) (in_world_faults (Err f))) (sym own) refl)

-- tending leaves the plain world unchanged
pub tended_same : (slot : ℕ) (old new : WorldData) (reply : Reply) → Happens (Tend slot) old new reply → new ≡ old
tended_same slot old new (Tended tending) h = h
tended_same slot old new (Failed (faults.Tree tree.Spent)) h = h
tended_same slot old new _ h = absurd h
