-- What a `Lease` owns is taken apart and made, and the layout of the block that it stands for.
-- Assumes `Logic`.
use mathlib.Core.Path.{◌≡◌, refl, ◌∙◌}
use Prim.Native.Nat.{ℕ}
use mathlib.Core.List.{List, [], ◌∷◌, ◌++◌}
use seplogic.Ra.Ura.{Ura}
use mir.Val.{Val, vstruct, vcons, vnil, of_list}
use types.Logic.{Logic}
use types.Kit.{Goal, Step, step, Seq, Item, ‵, ◌$◌, drop, fsplit, fjoin, fpick, feq_l}
use denote.RattleType.{RattleType}
use denote.RawPtr.{Ptr, block_ptr}
use denote.Shadow.{pure_i}
use denote.Struct.Struct.{Struct}
use denote.Struct.Owning.{shape}
use Rattle.core.proofs.mem.Param.{El, R}
use Rattle.core.proofs.alloc.Calls.{Al, token}
use Rattle.core.proofs.slots.Leases.{block_ty, P}
use Rattle.chunks.specs.contracts.lease.Lease as L

-- a lease has no bytes of its own
abbrev pub no_bytes : Val
no_bytes = vstruct (vcons (vstruct vnil) vnil)

module _ (E : El) (Z : Al) where
  abbrev pub Right : RattleType
  Right = L.the_row (R E) (P E Z) Z.g

  abbrev pub right_to : Z.row.Denot → ℕ → ℕ → ℕ → Right.Denot
  right_to heap b o count = record { by = record {}; heap = heap; at = block_ptr b o; count = count }

module _ (E : El) (Z : Al) {M : Type 1} {𝓤 : Ura M} {𝓛 : Logic 𝓤} {K : Type 0} {Γ : List (Item 𝓤)} {G : Goal 𝓤 𝓛.H} where
  pub lease_had : K → (lease : (Right E Z).Denot) (vs : List Val)
      → (vs ≡ no_bytes ∷ [] → Seq K 𝓛 (‵ (token Z lease.heap (block_ty E lease.count) lease.at) ∷ Γ) G) → Seq K 𝓛 (‵ ((Right E Z).own_val lease vs) ∷ Γ) G
  lease_had t lease vs go =
      fsplit t $ fpick t (λ parts. fsplit t $ feq_l t (λ whole. fsplit t $ fpick t (λ none. fsplit t $ feq_l t (λ first. drop t $ drop t $
      go (whole ∙ (λ j. vstruct (of_list (first j ++ [])) ∷ []))))))

  pub lease_made : K → (heap : Z.row.Denot) (b o count : ℕ)
      → Step K 𝓛 (‵ ((Right E Z).own_val (right_to E Z heap b o count) (no_bytes ∷ [])) ∷ Γ) G (‵ (token Z heap (block_ty E count) (block_ptr b o)) ∷ Γ) G
  lease_made t heap b o count = step (λ rest.
      pure_i t ((Struct (shape (L.the_type (R E) (P E Z) Z.g))).own_val (tt, tt) (no_bytes ∷ [])) (λ parts. (tt, ((λ us. (tt, tt)), tt)))
      ((vstruct vnil ∷ [], tt), (refl, ((tt, (refl, tt)), tt))) $ fjoin t $ rest)
