-- One place comes out of a row and goes back, and room for an array is a row of empty places.
-- Assumes `Logic`.
use mathlib.Core.Path.{◌≡◌, refl, sym, ap, ◌∙◌}
use Prim.Native.Nat.{ℕ, zero, suc, ◌+◌, ◌*◌, ◌<◌}
use native.Mathlib.Nat.{not-suc-le-zero, le_of_suc-le-suc}
use mathlib.Core.Bool.{true}
use mathlib.Core.List.{List, [], ◌∷◌}
use lib.ListN.{length, get_or, set, replicate}
use lib.Seq.{set-get_or}
use seplogic.Ra.Ura.{Ura}
use base.Fraction.{full_share}
use mir.Syntax.{ty_array}
use mir.Val.{Val}
use base.Logic.{SProp, ent, sep, ex, guard, emp, id⊢}
use base.Fml.{Fml, ftrue, fsep, fat, froom}
use types.Logic.{Logic, sem}
use types.Kit.{‵, ◌⊛◌, some, given, ◌$◌, ◌∵◌, !, qed, by, move, keep, show, use1, use2, split, pick, learn, rewrite, fsplit, check, frame, done}
use denote.Memory.{part_at}
use denote.RawPtr.{block_ptr}
use denote.Index.{place, place_is}
use Rattle.core.specs.Option.{is_some}
use Rattle.core.specs.declared.option.Option.{Option}
use Rattle.core.specs.declared.option.Option.TheVariants.{Some, None}
use Rattle.core.proofs.mem.Param.{El, R, el_x, elτ, Good}
use Rattle.core.proofs.slice.Rows.{el_out, el_in}
use Rattle.std.proofs.Common.{true≢false}
use Rattle.chunks.specs.Owned.{place_size, one_place, all_places}

pub inside : {X : Type 0} (o : Option X) → is_some o ≡ true → (x : X) × (o ≡ Some x)
inside None filled = absurd (true≢false (sym filled))
inside (Some x) filled = (x, refl)

module _ (E : El) where
  abbrev pub width : ℕ
  width = place_size (R E)

  abbrev pub Item : Type 0
  Item = Option (el_x E)

  -- the row without its i-th place
  abbrev pub others : ℕ → ℕ → List Item → ℕ → Fml
  others b o [] i = ftrue
  others b o (x ∷ xs) zero = all_places (R E) xs (block_ptr b (o + width))
  others b o (x ∷ xs) (suc i) = fsep (one_place (R E) x (block_ptr b o)) (others b (o + width) xs i)

module _ (E : El) {M : Type 1} {𝓤 : Ura M} (𝓛 : Logic 𝓤) (b : ℕ) where
  open 𝓛 use {H}

  abbrev w : ℕ
  w = width E

  abbrev one : Item E → ℕ → Fml
  one x o = one_place (R E) x (block_ptr b o)

  abbrev row : List (Item E) → ℕ → Fml
  row xs o = all_places (R E) xs (block_ptr b o)

  -- a place is taken out of the row, whatever it holds
  lifts : (xs : List (Item E)) (i o : ℕ) → i < length xs
      → ent 𝓤 (sem 𝓛 (row xs o)) (sep 𝓤 (sem 𝓛 (one (get_or xs i None) (place w o i))) (sem 𝓛 (others E b o xs i)))
  lifts [] i o within = absurd (not-suc-le-zero within)
  lifts (x ∷ xs) zero o within = qed 𝓛 (‵ (row (x ∷ xs) o) ∷ []) ∵ fsplit ! $ done !
  lifts (x ∷ xs) (suc i) o within =
      qed 𝓛 (‵ (row (x ∷ xs) o) ∷ []) ∵ fsplit ! $ move ! (1 ∷ []) $
      use1 𝓛 (‵ (one (get_or xs i None) (place w (o + w) i)) ⊛ ‵ (others E b (o + w) xs i)) (lifts xs i (o + w) (le_of_suc-le-suc within)) $
      split ! $ frame ! $ move ! (1 ∷ 0 ∷ []) $ done !

  -- and put back, whatever it then holds
  lowers : (xs : List (Item E)) (i : ℕ) (y : Item E) (o : ℕ) → i < length xs
      → ent 𝓤 (sep 𝓤 (sem 𝓛 (one y (place w o i))) (sem 𝓛 (others E b o xs i))) (sem 𝓛 (row (set xs i y) o))
  lowers [] i y o within = absurd (not-suc-le-zero within)
  lowers (x ∷ xs) zero y o within = qed 𝓛 (‵ (one y o) ∷ ‵ (row xs (o + w)) ∷ []) ∵ done !
  lowers (x ∷ xs) (suc i) y o within =
      qed 𝓛 (‵ (one y (place w (o + w) i)) ∷ ‵ (others E b o (x ∷ xs) (suc i)) ∷ []) ∵
      move ! (1 ∷ []) $ fsplit ! $ move ! (2 ∷ 1 ∷ []) $
      use2 𝓛 (‵ (row (set xs i y) (o + w))) (lowers xs i y (o + w) (le_of_suc-le-suc within)) $ move ! (1 ∷ 0 ∷ []) $ done !

  module _ (o : ℕ) (xs : List (Item E)) (i : ℕ) (within : i < length xs) where
    abbrev k : ℕ
    k = i * w + o

    -- what is lifted, once what the place holds is known
    known : (x : Item E) → get_or xs i None ≡ x → ent 𝓤 (sem 𝓛 (row xs o)) (sep 𝓤 (sem 𝓛 (one x k)) (sem 𝓛 (others E b o xs i)))
    known x holds =
        qed 𝓛 (‵ (row xs o) ∷ []) ∵
        use1 𝓛 (‵ (one (get_or xs i None) (place w o i)) ⊛ ‵ (others E b o xs i)) (lifts xs i o within) $ split ! $
        rewrite ! 0 (λ (y : Item E). ‵ (one y (place w o i))) holds refl $
        rewrite ! 0 (λ (n : ℕ). ‵ (one x n)) (place_is w o i) refl $ done !

    back : (y : Item E) → ent 𝓤 (sep 𝓤 (sem 𝓛 (one y k)) (sem 𝓛 (others E b o xs i))) (sem 𝓛 (row (set xs i y) o))
    back y =
        qed 𝓛 (‵ (one y k) ∷ ‵ (others E b o xs i) ∷ []) ∵
        rewrite ! 0 (λ (n : ℕ). ‵ (one y n)) (sym (place_is w o i)) refl $ by ! (lowers xs i y o within)

    -- the value of a place, as one of Rust
    pub item_out : (x : el_x E) → get_or xs i None ≡ Some x
        → ent 𝓤 (sem 𝓛 (row xs o)) (sep 𝓤 (sem 𝓛 (part_at (R E) full_share x b k)) (sem 𝓛 (others E b o xs i)))
    item_out x holds = known (Some x) holds

    pub item_in : (y : el_x E)
        → ent 𝓤 (sep 𝓤 (sem 𝓛 (part_at (R E) full_share y b k)) (sem 𝓛 (others E b o xs i))) (sem 𝓛 (row (set xs i (Some y)) o))
    item_in y = back (Some y)

    -- and as a machine value with what it owns
    pub value_out : (x : el_x E) → get_or xs i None ≡ Some x
        → ent 𝓤 (sem 𝓛 (row xs o)) (ex 𝓤 (λ (v : Val). guard 𝓤 (Good E v) (sep 𝓤 (H.at full_share (elτ E) b k v) (sep 𝓤 (sem 𝓛 (E.row.own_val x (v ∷ []))) (sem 𝓛 (others E b o xs i))))))
    value_out x holds =
        qed 𝓛 (‵ (row xs o) ∷ []) ∵
        use1 𝓛 (‵ (part_at (R E) full_share x b k) ⊛ ‵ (others E b o xs i)) (item_out x holds) $ split ! $
        use1 𝓛 (some (λ (v : Val). given (Good E v) (‵ (fat full_share (elτ E) b k v) ⊛ ‵ (E.row.own_val x (v ∷ []))))) (el_out E 𝓛 b x k) $
        pick ! (λ v. learn ! (λ typed. split ! $
        show ! (λ (u : Val). guard 𝓤 (Good E u) (sep 𝓤 (H.at full_share (elτ E) b k u) (sep 𝓤 (sem 𝓛 (E.row.own_val x (u ∷ []))) (sem 𝓛 (others E b o xs i))))) v $
        check ! typed $ done !))

    pub value_in : (y : el_x E) (v : Val)
        → ent 𝓤 (sep 𝓤 (H.at full_share (elτ E) b k v) (sep 𝓤 (sem 𝓛 (E.row.own_val y (v ∷ []))) (sem 𝓛 (others E b o xs i)))) (sem 𝓛 (row (set xs i (Some y)) o))
    value_in y v =
        qed 𝓛 (‵ (fat full_share (elτ E) b k v) ∷ ‵ (E.row.own_val y (v ∷ [])) ∷ ‵ (others E b o xs i) ∷ []) ∵
        use2 𝓛 (‵ (part_at (R E) full_share y b k)) (el_in E 𝓛 b y k v) $ by ! (item_in y)

    -- the room of an empty place
    pub room_out : get_or xs i None ≡ None
        → ent 𝓤 (sem 𝓛 (row xs o)) (sep 𝓤 (H.room (elτ E) b k) (sem 𝓛 (others E b o xs i)))
    room_out empty =
        qed 𝓛 (‵ (row xs o) ∷ []) ∵
        use1 𝓛 (‵ (one None k) ⊛ ‵ (others E b o xs i)) (known None empty) $ split ! $
        use1 𝓛 (‵ (froom (elτ E) b k)) (𝓛.laws.raw-room (elτ E) b k) $ done !

    pub room_in : ent 𝓤 (sep 𝓤 (H.room (elτ E) b k) (sem 𝓛 (others E b o xs i))) (sem 𝓛 (row (set xs i None) o))
    room_in =
        qed 𝓛 (‵ (froom (elτ E) b k) ∷ ‵ (others E b o xs i) ∷ []) ∵
        use1 𝓛 (‵ (one None k)) (𝓛.laws.room-raw (elτ E) b k) $ by ! (back None)

  -- room for an array is a row of empty places
  pub of_room : (n o : ℕ) → ent 𝓤 (H.room (ty_array (elτ E) n) b o) (sem 𝓛 (row (replicate n None) o))
  of_room zero o = qed 𝓛 (‵ (froom (ty_array (elτ E) 0) b o) ∷ []) ∵ keep ! [] $ done !
  of_room (suc n) o =
      qed 𝓛 (‵ (froom (ty_array (elτ E) (suc n)) b o) ∷ []) ∵
      use1 𝓛 (‵ (froom (elτ E) b o) ⊛ ‵ (froom (ty_array (elτ E) n) b (o + w))) (𝓛.laws.room_uncons (elτ E) n b o) $ split ! $
      use1 𝓛 (‵ (one None o)) (𝓛.laws.room-raw (elτ E) b o) $ frame ! $ by ! (of_room n (o + w))

  pub to_room : (n o : ℕ) → ent 𝓤 (sem 𝓛 (row (replicate n None) o)) (H.room (ty_array (elτ E) n) b o)
  to_room zero o = 𝓛.laws.room_nil (elτ E) b o
  to_room (suc n) o =
      qed 𝓛 (‵ (one None o) ∷ ‵ (row (replicate n None) (o + w)) ∷ []) ∵
      use1 𝓛 (‵ (froom (elτ E) b o)) (𝓛.laws.raw-room (elτ E) b o) $ move ! (1 ∷ []) $
      use1 𝓛 (‵ (froom (ty_array (elτ E) n) b (o + w))) (to_room n (o + w)) $ move ! (1 ∷ []) $ by ! (𝓛.laws.room_cons (elτ E) n b o)
