-- Unions of keys, taken one by one.
use Rattle.std.proofs.Common.{◌≡◌, ◌≢◌, ℕ, ◌+◌, ◌<◌, List, [], ◌∷◌, ◌++◌, Contains, map, take, length, slice_get, Some, refl, sym, subst, inl, inr, arith}
use Rattle.std.proofs.lemmas.List.{map-append}
use Rattle.std.proofs.lemmas.List.Elements.{Contains-append_cases}
use Rattle.node_arena.specs.declared.handle.Handle.{Handle}
use Rattle.tree_nodes.proofs.ListEnds.{take_one}
use Rattle.tree_theory.proofs.ListLemmas.{got_in, in_one, nothing_in, map_in, map_from}
use Rattle.tree_theory.specs.Changes.{IsKeyFor}
use Rattle.tree_theory.specs.KeyClasses.{Class, Laws}
use Rattle.tree_theory.specs.Nodes.{Body, entries_of, pairs_of}
use Rattle.tree_theory.specs.Nodes.PlainBody.{Leaf, Inner}
use Rattle.tree_nodes.specs.Unions.{IsUnionFor}

module _ {Key Query Item : Type 0} (C : Class Key Query Item) where
  -- the union so far: it covers each key seen, and is covered by whatever covers all keys
  pub record IsUnionUpTo (keys seen : List Key) (union : Key) : Type 0 where
    pub covers : (key : Key) → Contains seen key → C.Covers union key
    pub least : (cover : Key) → ((key : Key) → Contains keys key → C.Covers cover key) → C.Covers cover union

  pub union_next : Laws C → (keys seen : List Key) (union next : Key) → Contains keys next → IsUnionUpTo keys seen union → IsUnionUpTo keys (seen ++ next ∷ []) (C.united union next)
  union_next laws keys seen union next has before =
      record {
        covers = λ key is_in. elim (Contains-append_cases seen (next ∷ []) key is_in) [
          | inl old ↦ laws.transitive (C.united union next) union key (laws.covers_first union next) (before.covers key old)
          | inr new ↦ subst (C.Covers (C.united union next)) (in_one next key new) (laws.covers_second union next)
        ];
        least = λ cover all. laws.least union next cover (before.least cover all) (all next has);
      }

  pub union_key : Laws C → (keys : List Key) (i : ℕ) (union key : Key) → slice_get keys i ≡ Some key → IsUnionUpTo keys (take i keys) union → IsUnionUpTo keys (take (i + 1) keys) (C.united union key)
  union_key laws keys i union key here before = rw (take_one keys i key here) (union_next laws keys (take i keys) union key (got_in keys i key here) before)

  abbrev pub keys_of : List (ℕ × Item) → List Key
  keys_of pairs = map (λ (pair : ℕ × Item). C.key_of pair.1) pairs

  pub union_item : Laws C → (pairs : List (ℕ × Item)) (i : ℕ) (union : Key) (pair : ℕ × Item) → slice_get pairs i ≡ Some pair → IsUnionUpTo (keys_of pairs) (keys_of (take i pairs)) union → IsUnionUpTo (keys_of pairs) (keys_of (take (i + 1) pairs)) (C.united union (C.key_of pair.1))
  union_item laws pairs i union pair here before =
      let key_here = map_in (λ (p : ℕ × Item). C.key_of p.1) pairs pair (got_in pairs i pair here) in
      rw (take_one pairs i pair here, map-append (λ (p : ℕ × Item). C.key_of p.1) (take i pairs) (pair ∷ [])) (union_next laws (keys_of pairs) (keys_of (take i pairs)) union (C.key_of pair.1) key_here before)

  some_of : {T : Type 0} (key_of : T → Key) (xs : List T) → map key_of xs ≢ [] → 0 < length xs
  some_of key_of [] some = absurd (some refl)
  some_of key_of (x ∷ xs) some = omega arith

  none_of : {T : Type 0} (key_of : T → Key) (xs : List T) → map key_of xs ≡ [] → length xs ≡ 0
  none_of key_of [] e = refl
  none_of key_of (x ∷ xs) e = absurd (cc (e))

  -- the key for a leaf's entry, and for an inner node's
  pub leaf_key : (pairs : List (ℕ × Item)) (old key : Key) → IsUnionFor C (map (λ (pair : ℕ × Item). C.key_of pair.1) pairs) old key → IsKeyFor C (Leaf pairs) old key
  leaf_key pairs old key (inl (some, union)) =
      inl (
        some_of (λ (p : ℕ × Item). C.key_of p.1) pairs some,
        record {
          covers = record {
            pairs = λ pair is_in. union.covers (C.key_of pair.1) (map_in (λ (p : ℕ × Item). C.key_of p.1) pairs pair is_in);
            entries = λ entry is_in. absurd (nothing_in entry is_in);
          };
          least = λ cover covers. union.least cover (λ k is_in.
              let from = map_from (λ (p : ℕ × Item). C.key_of p.1) pairs k is_in in
              subst (C.Covers cover) from.is (covers.pairs from.from from.is_in));
        },
      )
  leaf_key pairs old key (inr none) = inr (none_of (λ (p : ℕ × Item). C.key_of p.1) pairs none.0, none.1)

  pub inner_key : (entries : List (Key × Handle)) (old key : Key) → IsUnionFor C (map (λ (entry : Key × Handle). entry.0) entries) old key → IsKeyFor C (Inner entries) old key
  inner_key entries old key (inl (some, union)) =
      inl (
        some_of (λ (e : Key × Handle). e.0) entries some,
        record {
          covers = record {
            pairs = λ pair is_in. absurd (nothing_in pair is_in);
            entries = λ entry is_in. union.covers entry.0 (map_in (λ (e : Key × Handle). e.0) entries entry is_in);
          };
          least = λ cover covers. union.least cover (λ k is_in.
              let from = map_from (λ (e : Key × Handle). e.0) entries k is_in in
              subst (C.Covers cover) from.is (covers.entries from.from from.is_in));
        },
      )
  inner_key entries old key (inr none) = inr (none_of (λ (e : Key × Handle). e.0) entries none.0, none.1)

  pub body_key_leaf : (body : Body C) (pairs : List (ℕ × Item)) (old key : Key) → body ≡ Leaf pairs → IsUnionFor C (map (λ (pair : ℕ × Item). C.key_of pair.1) (pairs_of body)) old key → IsKeyFor C body old key
  body_key_leaf body pairs old key is union = subst (λ b. IsKeyFor C b old key) (sym is) (leaf_key pairs old key (subst (λ b. IsUnionFor C (map (λ (pair : ℕ × Item). C.key_of pair.1) (pairs_of b)) old key) is union))

  pub body_key_inner : (body : Body C) (entries : List (Key × Handle)) (old key : Key) → body ≡ Inner entries → IsUnionFor C (map (λ (entry : Key × Handle). entry.0) (entries_of body)) old key → IsKeyFor C body old key
  body_key_inner body entries old key is union = subst (λ b. IsKeyFor C b old key) (sym is) (inner_key entries old key (subst (λ b. IsUnionFor C (map (λ (entry : Key × Handle). entry.0) (entries_of b)) old key) is union))
