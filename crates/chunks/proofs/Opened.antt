-- What a `Places` owns is taken apart and made, and a `&mut` to one is opened and closed.
-- Assumes `Logic`.
use mathlib.Core.Path.{◌≡◌, refl, sym, ap, ◌∙◌}
use Prim.Native.Nat.{ℕ, ◌*◌, ◌<◌, ◌^◌}
use mathlib.Core.List.{List, [], ◌∷◌, ◌++◌}
use lib.ListN.{length}
use seplogic.Ra.Ura.{Ura}
use base.Fraction.{full_share}
use mir.Val.{Val, vptr, vstruct, vcons, vnil, of_list}
use base.Logic.{id⊢, never}
use base.Stored.{Gv}
use base.Fml.{Lft, GName, Share, Fml, fsep, flt, flft, fobs, fauth, fbor, fobor}
use types.Logic.{Logic}
use types.Kit.{Goal, Soaks, Step, step, Seq, Item, ‵, ◌$◌, move, rewrite, fsplit, fjoin, fpick, fpack, feq_l, feq_i, flt_l, flt_i, drop}
use types.SemTy.{Body}
use denote.RattleType.{RattleType, Valss}
use denote.Memory.{cell_at, mem}
use denote.RawPtr.{Ptr, block_ptr, ptr_val, in_block, in_a_block}
use denote.Steps.{opens, closes, nothing}
use denote.Struct.Struct.{Struct, within}
use denote.Struct.Owning.{Owning, shape}
use Rattle.core.proofs.mem.Param.{El, R, el_x}
use Rattle.chunks.specs.Owned.{all_places}
use Rattle.chunks.specs.declared.places.Places.{Places}
use Rattle.chunks.specs.contracts.places.Places as C
use Rattle.chunks.proofs.OnePlace.{width}

-- the machine value: a struct of one pointer
abbrev pub pointer : Ptr → Val
pointer p = vstruct (vcons (ptr_val p) vnil)

module _ (E : El) where
  abbrev pub Row : RattleType
  Row = C.the_row (R E)

  abbrev pub Fields : RattleType
  Fields = Struct (shape (C.the_type (R E)))

  abbrev pub Held : Type 0
  Held = Places (el_x E)

  abbrev pub lying : Held → ℕ → ℕ → Fml
  lying row b o = all_places (R E) row.items (block_ptr b o)

  abbrev pub Small : Held → Type 0
  Small row = length row.items * width E < 2 ^ 63

module _ (E : El) {M : Type 1} {𝓤 : Ura M} {𝓛 : Logic 𝓤} {K : Type 0} {Γ : List (Item 𝓤)} {G : Goal 𝓤 𝓛.H} where
  pub row_had : K → (row : Held E) (vs : List Val)
      → ((b o : ℕ) → row.at ≡ block_ptr b o → vs ≡ pointer (block_ptr b o) ∷ [] → Small E row → Seq K 𝓛 (‵ (lying E row b o) ∷ Γ) G)
      → Seq K 𝓛 (‵ ((Row E).own_val row vs) ∷ Γ) G
  row_had t row vs go =
      fsplit t $ fpick t (λ parts. fsplit t $ feq_l t (λ whole. fsplit t $ feq_l t (λ first. drop t $ fsplit t $ flt_l t (λ small.
      in_a_block t row.at (λ p. in_block p (all_places (R E) row.items p)) (id⊢ 𝓤 (never 𝓤)) (λ b o is.
      go b o is (whole ∙ ((λ j. vstruct (of_list (first j ++ [])) ∷ []) ∙ ap (λ (p : Ptr). pointer p ∷ []) is)) small)))))

  pub row_made : K → (row : Held E) (b o : ℕ) → row.at ≡ block_ptr b o → Small E row
      → Step K 𝓛 (‵ ((Row E).own_val row (pointer (block_ptr b o) ∷ [])) ∷ Γ) G (‵ (lying E row b o) ∷ Γ) G
  row_made t row b o is small = step (λ rest.
      flt_i t (length row.items * width E) (2 ^ 63) small $ fjoin t $
      nothing t $ feq_i t (List Val) (vptr b o ∷ []) (vptr b o ∷ []) refl $ fjoin t $
      feq_i t (List Val) (pointer (block_ptr b o) ∷ []) (pointer (block_ptr b o) ∷ []) refl $ fjoin t $
      fpack t (Valss (shape (C.the_type (R E))).fields) (within (shape (C.the_type (R E))) (block_ptr b o, tt) (pointer (block_ptr b o) ∷ [])) (vptr b o ∷ [], tt) $ fjoin t $
      rewrite t 0 (λ (p : Ptr). ‵ (fsep ((Fields E).own_val (p, tt) (pointer (block_ptr b o) ∷ [])) (fsep (flt (length row.items * width E) (2 ^ 63)) (in_block p (all_places (R E) row.items p))))) (sym is) refl $ rest)

module _ (E : El) {M : Type 1} {𝓤 : Ura M} {𝓛 : Logic 𝓤} {K : Type 0} {Γ : List (Item 𝓤)} {G : Goal 𝓤 𝓛.H} where
  -- [the places; the pointer; the open loan; its two halves]
  pub row_opens : K → Soaks G → {κ : Lft} {q : Share} {γ : GName} (row : Held E) (rb ro : ℕ)
      → ((b o : ℕ) → row.at ≡ block_ptr b o → Small E row
      → Seq K 𝓛 (‵ (lying E row b o) ∷ ‵ (cell_at full_share (Row E).mir (pointer (block_ptr b o) ∷ []) rb ro) ∷ ‵ (fobor κ q (Body (mem (Row E)) rb ro γ)) ∷ ‵ (fobs γ ((Row E).coded.code row)) ∷ ‵ (fauth γ ((Row E).coded.code row)) ∷ Γ) G)
      → Seq K 𝓛 (‵ (fobs γ ((Row E).coded.code row)) ∷ ‵ (fbor κ (Body (mem (Row E)) rb ro γ)) ∷ ‵ (flft κ q) ∷ Γ) G
  row_opens t soaks row rb ro go =
      opens t soaks (Row E) {h = row} rb ro (λ vs. move t (1 ∷ []) $ row_had E t row vs (λ b o is has small.
      rewrite t 1 (λ (us : List Val). ‵ (cell_at full_share (Row E).mir us rb ro)) has refl $ go b o is small))

  pub row_closes : K → Soaks G → {κ : Lft} {q : Share} {u v : Gv} {γ : GName} (row : Held E) (b o rb ro : ℕ) → row.at ≡ block_ptr b o → Small E row
      → Step K 𝓛 (‵ (fobs γ ((Row E).coded.code row)) ∷ ‵ (fbor κ (Body (mem (Row E)) rb ro γ)) ∷ ‵ (flft κ q) ∷ Γ) G
      (‵ (lying E row b o) ∷ ‵ (cell_at full_share (Row E).mir (pointer (block_ptr b o) ∷ []) rb ro) ∷ ‵ (fobor κ q (Body (mem (Row E)) rb ro γ)) ∷ ‵ (fobs γ u) ∷ ‵ (fauth γ v) ∷ Γ) G
  row_closes t soaks row b o rb ro is small = step (λ rest.
      row_made E t row b o is small $ move t (1 ∷ 0 ∷ []) $ closes t soaks (Row E) row (pointer (block_ptr b o) ∷ []) rb ro $ rest)
