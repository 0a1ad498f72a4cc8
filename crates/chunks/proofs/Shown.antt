-- What a `&` to a row shows: its pointer, and a `&` to each value. Assumes `Logic`.
use mathlib.Core.Path.{◌≡◌, refl}
use Prim.Native.Nat.{ℕ, zero, suc, ◌+◌, ◌*◌, ◌<◌, ◌^◌}
use native.Mathlib.Nat.{not-suc-le-zero, le_of_suc-le-suc}
use mathlib.Core.List.{List, [], ◌∷◌}
use lib.ListN.{length, get_or}
use seplogic.Ra.Ura.{Ura}
use base.Logic.{ent, sep, never}
use base.Fml.{Lft, flt, fhide}
use types.Logic.{Logic, sem}
use types.Kit.{‵, ◌⊛◌, ◌$◌, ◌∵◌, !, qed, by, move, keep, drop, use1, split, rewrite, fsplit, done}
use denote.Memory.{hidden_shr}
use denote.RawPtr.{RawPtr, block_ptr, null_ptr}
use denote.Index.{place, place_is}
use denote.Struct.Lending.{lent_out}
use denote.Opens.{unhide}
use Rattle.core.specs.declared.option.Option.TheVariants.{Some, None}
use Rattle.core.proofs.mem.Param.{El, R, el_x}
use Rattle.chunks.specs.Owned.{place_lent, places_lent}
use Rattle.chunks.specs.contracts.places.Places as C
use Rattle.chunks.proofs.OnePlace.{width, Item}
use Rattle.chunks.proofs.Opened.{Row, Held, Fields}

module _ (E : El) {M : Type 1} {𝓤 : Ura M} (𝓛 : Logic 𝓤) (κ : Lft) where
  pub shown : (row : Held E) (b o : ℕ) → ent 𝓤 (sem 𝓛 (hidden_shr (Row E) κ row b o))
      (sep 𝓤 (sem 𝓛 (hidden_shr RawPtr κ row.at b (o + 0))) (sep 𝓤 (sem 𝓛 (flt (length row.items * width E) (2 ^ 63))) (sem 𝓛 (places_lent (R E) row.items row.at κ))))
  shown row b o =
      qed 𝓛 (‵ (hidden_shr (Row E) κ row b o) ∷ []) ∵
      use1 𝓛 (‵ (hidden_shr (Fields E) κ (row.at, tt) b o) ⊛ ‵ (fhide (C.the_lent (R E) row row.at κ))) (lent_out 𝓛 (C.struct (R E)) (C.the_codes (el_x E) (R E).coded) (C.the_heap (R E)) (C.the_lent (R E)) κ row b o) $ split ! $
      unhide ! $ fsplit ! $ fsplit ! $ keep ! (0 ∷ 3 ∷ []) $ done !

  -- no value lies at the null pointer
  pub none_at_null : (xs : List (Item E)) (i : ℕ) (x : el_x E) → i < length xs → get_or xs i None ≡ Some x → ent 𝓤 (sem 𝓛 (places_lent (R E) xs null_ptr κ)) (never 𝓤)
  none_at_null [] i x within holds = absurd (not-suc-le-zero within)
  none_at_null (y ∷ ys) zero x within holds =
      qed 𝓛 (‵ (place_lent (R E) y null_ptr κ) ∷ ‵ (places_lent (R E) ys null_ptr κ) ∷ []) ∵
      rewrite ! 0 (λ (z : Item E). ‵ (place_lent (R E) z null_ptr κ)) holds refl $ fsplit ! $ keep ! (0 ∷ []) $ done !
  none_at_null (y ∷ ys) (suc i) x within holds =
      qed 𝓛 (‵ (place_lent (R E) y null_ptr κ) ∷ ‵ (places_lent (R E) ys null_ptr κ) ∷ []) ∵
      drop ! $ by ! (none_at_null ys i x (le_of_suc-le-suc within) holds)

  one_shown : (b o : ℕ) (xs : List (Item E)) (i : ℕ) (x : el_x E) → i < length xs → get_or xs i None ≡ Some x
      → ent 𝓤 (sem 𝓛 (places_lent (R E) xs (block_ptr b o) κ)) (sem 𝓛 (hidden_shr (R E) κ x b (place (width E) o i)))
  one_shown b o [] i x within holds = absurd (not-suc-le-zero within)
  one_shown b o (y ∷ ys) zero x within holds =
      qed 𝓛 (‵ (place_lent (R E) y (block_ptr b o) κ) ∷ ‵ (places_lent (R E) ys (block_ptr b (o + width E)) κ) ∷ []) ∵
      rewrite ! 0 (λ (z : Item E). ‵ (place_lent (R E) z (block_ptr b o) κ)) holds refl $ fsplit ! $ keep ! (1 ∷ []) $ done !
  one_shown b o (y ∷ ys) (suc i) x within holds =
      qed 𝓛 (‵ (place_lent (R E) y (block_ptr b o) κ) ∷ ‵ (places_lent (R E) ys (block_ptr b (o + width E)) κ) ∷ []) ∵
      drop ! $ by ! (one_shown b (o + width E) ys i x (le_of_suc-le-suc within) holds)

  pub value_shown : (b o : ℕ) (xs : List (Item E)) (i : ℕ) (x : el_x E) → i < length xs → get_or xs i None ≡ Some x
      → ent 𝓤 (sem 𝓛 (places_lent (R E) xs (block_ptr b o) κ)) (sem 𝓛 (hidden_shr (R E) κ x b (i * width E + o)))
  value_shown b o xs i x within holds =
      qed 𝓛 (‵ (places_lent (R E) xs (block_ptr b o) κ) ∷ []) ∵
      use1 𝓛 (‵ (hidden_shr (R E) κ x b (place (width E) o i))) (one_shown b o xs i x within holds) $
      rewrite ! 0 (λ (n : ℕ). ‵ (hidden_shr (R E) κ x b n)) (place_is (width E) o i) refl $ done !
