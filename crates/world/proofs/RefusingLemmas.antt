-- Why a whole search fails.
use Rattle.std.proofs.Common.{◌≡◌, ◌⊎◌, Result, Ok, Err, inl, inr, sym, ap, subst, ◌∙◌}
use Rattle.std.specs.Prelude.{IfErr}
use Rattle.features.specs.declared.actors.Subject.{Subject}
use Rattle.memory.specs.NoMemory.{out_of_memory}
use Rattle.plain_world.specs.Answering.{FaultsAs}
use Rattle.plain_world.specs.declared.faults.Fault.{Fault}
use Rattle.tree_answers.specs.declared.fault.TreeFault.{TreeFault}
use Rattle.tree_answers.specs.declared.fault.TreeFault.TheVariants as tree
use Rattle.world.specs.Refusing.{FailsToAnswer, world_fault}

-- the plain world's fault, where the seat was given
pub plain_fails : {T : Type 0} (m : Result Subject Fault) (subject : Subject) (result : Result T Fault) → m ≡ Ok subject → IfErr result (λ fault. FaultsAs m fault) → IfErr result (FailsToAnswer m)
plain_fails m subject (Ok x) is h = tt
plain_fails m subject (Err fault) is h =
    subst (λ (r : Result Subject Fault). FailsToAnswer r fault) (sym is) (inr (subst (λ (r : Result Subject Fault). FaultsAs r fault) is h))

-- the index's fault, where the seat was given
pub index_fails : (m : Result Subject Fault) (subject : Subject) (given : TreeFault) (fault : Fault) → m ≡ Ok subject → (given ≡ tree.Overrun) ⊎ (given ≡ tree.Memory out_of_memory) → fault ≡ world_fault given → FailsToAnswer m fault
index_fails m subject given fault is why told =
    subst (λ (r : Result Subject Fault). FailsToAnswer r fault) (sym is) (elim why [
      | inl e ↦ inl (told ∙ ap world_fault e)
      | inr e ↦ inr (told ∙ ap world_fault e)
    ])
