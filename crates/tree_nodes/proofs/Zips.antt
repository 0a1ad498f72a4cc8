-- Two lists of one length as a list of pairs.
use Rattle.std.proofs.lemmas.Slice.Zip.{length-zip}
use Rattle.tree_nodes.specs.Rooms.{AreAligned}
use Rattle.tree_theory.specs.declared.TheConstants.{NODE_SIZE}
use Rattle.std.proofs.Common.{◌≡◌, ◌<◌, ◌≤◌, ℕ, zero, suc, List, [], ◌∷◌, ◌++◌, length, slice_set, slice_get, length-append, Some, remove, map, zip, refl, ap, arith}

module _ {K T : Type 0} where
  pub zip_push : (ks : List K) (ts : List T) (k : K) (t : T) → length ts ≡ length ks → zip (ks ++ k ∷ []) (ts ++ t ∷ []) ≡ zip ks ts ++ (k, t) ∷ []
  zip_push [] [] k t n = refl
  zip_push [] (y ∷ ts) k t n = absurd (omega arith)
  zip_push (x ∷ ks) [] k t n = absurd (omega arith)
  zip_push (x ∷ ks) (y ∷ ts) k t n = ap (λ l. (x, y) ∷ l) (zip_push ks ts k t (omega arith))

  second_of : (a b : K × T) → Some a ≡ Some b → a.1 ≡ b.1
  second_of a b e = cc e

  pub zip_set : (ks : List K) (ts : List T) (i : ℕ) (k old : K) (t : T) → slice_get (zip ks ts) i ≡ Some (old, t) → zip (slice_set ks i k) ts ≡ slice_set (zip ks ts) i (k, t)
  zip_set [] ts i k old t e = absurd (cc e)
  zip_set (x ∷ ks) [] i k old t e = absurd (cc e)
  zip_set (x ∷ ks) (y ∷ ts) zero k old t e = ap (λ c. (k, c) ∷ zip ks ts) (second_of (x, y) (old, t) e)
  zip_set (x ∷ ks) (y ∷ ts) (suc i) k old t e = ap (λ l. (x, y) ∷ l) (zip_set ks ts i k old t e)

  pub zip_remove : (ks : List K) (ts : List T) (i : ℕ) → length ts ≡ length ks → zip (remove ks i) (remove ts i) ≡ remove (zip ks ts) i
  zip_remove [] [] zero n = refl
  zip_remove [] [] (suc i) n = refl
  zip_remove [] (y ∷ ts) i n = absurd (omega arith)
  zip_remove (x ∷ ks) [] i n = absurd (omega arith)
  zip_remove (x ∷ ks) (y ∷ ts) zero n = refl
  zip_remove (x ∷ ks) (y ∷ ts) (suc i) n = ap (λ l. (x, y) ∷ l) (zip_remove ks ts i (omega arith))

  pub length_aligned : (ks : List K) (ts : List T) → length ts ≡ length ks → length (zip ks ts) ≡ length ks
  length_aligned ks ts same = let long = length-zip ks ts in omega (arith, long, same)

  pub zip_keys : (ks : List K) (ts : List T) → length ts ≡ length ks → map (λ (pair : K × T). pair.0) (zip ks ts) ≡ ks
  zip_keys [] [] n = refl
  zip_keys [] (y ∷ ts) n = absurd (omega arith)
  zip_keys (x ∷ ks) [] n = absurd (omega arith)
  zip_keys (x ∷ ks) (y ∷ ts) n = ap (λ l. x ∷ l) (zip_keys ks ts (omega arith))

  -- one more key and child still fit a node
  pub pushed_aligned : {ks : List K} {ts : List T} {key_places child_places more_keys more_children : ℕ} (k : K) (t : T) → AreAligned ks ts key_places child_places → length ks < NODE_SIZE → key_places ≤ more_keys → child_places ≤ more_children → AreAligned (ks ++ k ∷ []) (ts ++ t ∷ []) more_keys more_children
  pushed_aligned {ks = ks} {ts = ts} k t aligned lt keys children =
      let long_keys = length-append ks (k ∷ []) in
      let long_children = length-append ts (t ∷ []) in
      record {
        same = omega (arith, long_keys, long_children, aligned.same);
        keys_fit = record { most = omega (arith, long_keys, lt); room = omega (arith, aligned.keys_fit.room, keys) };
        children_fit = record { most = omega (arith, long_children, lt, aligned.same); room = omega (arith, aligned.children_fit.room, children) };
      }
