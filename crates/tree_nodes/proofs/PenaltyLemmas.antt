-- The key of least penalties among those compared so far.
use Rattle.std.proofs.Common.{◌≡◌, ◌∙◌, ◌⊎◌, ◌<◌, ◌≤◌, ◌+◌, ℕ, List, Some, length, slice_get, refl, ap, subst, inl, inr, arith}
use Rattle.std.proofs.lemmas.Bool.{cases_eq}
use Rattle.std.proofs.lemmas.Option.{slice_get_within}
use Rattle.tree_nodes.specs.Penalties.{IsBest, IsLess, IsNoMore, penalties_of}
use Rattle.tree_nodes.specs.declared.penalties.Penalties.{Penalties}
use Rattle.tree_nodes.proofs.ListEnds.{some_one}

same : (one : Penalties) → IsNoMore one one
same one = inr (refl, inr (refl, omega arith))

less_no_more : (one two three : Penalties) → IsLess one two → IsNoMore two three → IsNoMore one three
less_no_more one two three (inl a) (inl b) = inl (omega (arith, a, b))
less_no_more one two three (inl a) (inr b) = let e = b.0 in inl (omega (arith, a, e))
less_no_more one two three (inr a) (inl b) = let e = a.0 in inl (omega (arith, e, b))
less_no_more one two three (inr a) (inr b) = inr (a.0 ∙ b.0, below a.1 b.1)
  where
    below : (one.second < two.second) ⊎ ((one.second ≡ two.second) × (one.excess < two.excess)) → (two.second < three.second) ⊎ ((two.second ≡ three.second) × (two.excess ≤ three.excess)) → (one.second < three.second) ⊎ ((one.second ≡ three.second) × (one.excess ≤ three.excess))
    below (inl c) (inl d) = inl (omega (arith, c, d))
    below (inl c) (inr d) = let e = d.0 in inl (omega (arith, c, e))
    below (inr c) (inl d) = let e = c.0 in inl (omega (arith, e, d))
    below (inr c) (inr d) = let x = c.1 in let y = d.1 in inr (c.0 ∙ d.0, omega (arith, x, y))

module _ {Key : Type 0} (growth second_growth : Key → Key → ℕ) (keys : List Key) (key : Key) where
  -- none of the first n keys has lesser penalties than the one at index `best`, whose penalties are
  -- `least`
  pub record IsBestOf (best : ℕ) (least : Penalties) (n : ℕ) : Type 0 where
    pub held : Key
    pub is : slice_get keys best ≡ Some held
    pub least_is : least ≡ penalties_of growth second_growth held key
    pub no_more : (other : Key) (place : ℕ) → place < n → slice_get keys place ≡ Some other → IsNoMore least (penalties_of growth second_growth other key)

  one_more : (n place : ℕ) → place < n + 1 → (place < n) ⊎ (place ≡ n)
  one_more n place below = elim (cases_eq place n) [ inl here ↦ inr here | inr apart ↦ inl (omega (arith, below, apart)) ]

  -- the next key is better
  pub best_is_next : (best n : ℕ) (least : Penalties) (other : Key) → IsBestOf best least n → slice_get keys n ≡ Some other → IsLess (penalties_of growth second_growth other key) least → IsBestOf n (penalties_of growth second_growth other key) (n + 1)
  best_is_next best n least other old is less =
      record {
        held = other;
        is = is;
        least_is = refl;
        no_more = λ next place below there. elim (one_more n place below) [
          | inl before ↦ less_no_more (penalties_of growth second_growth other key) least (penalties_of growth second_growth next key) less (old.no_more next place before there)
          | inr here ↦ subst (λ (k : Key). IsNoMore (penalties_of growth second_growth other key) (penalties_of growth second_growth k key)) (some_one is (subst (λ i. slice_get keys i ≡ Some next) here there)) (same (penalties_of growth second_growth other key))
        ];
      }

  -- the next key is no better
  pub best_stays : (best n : ℕ) (least : Penalties) (other : Key) → IsBestOf best least n → slice_get keys n ≡ Some other → IsNoMore least (penalties_of growth second_growth other key) → IsBestOf best least (n + 1)
  best_stays best n least other old is more =
      record {
        held = old.held;
        is = old.is;
        least_is = old.least_is;
        no_more = λ next place below there. elim (one_more n place below) [
          | inl before ↦ old.no_more next place before there
          | inr here ↦ subst (λ (k : Key). IsNoMore least (penalties_of growth second_growth k key)) (some_one is (subst (λ i. slice_get keys i ≡ Some next) here there)) more
        ];
      }

  pub best_of_all : (best : ℕ) (least : Penalties) (n : ℕ) → length keys ≤ n → IsBestOf best least n → IsBest growth second_growth keys key best
  best_of_all best least n past all =
      record {
        within = slice_get_within keys best all.held all.is;
        least = λ held other place is there.
            subst (λ (p : Penalties). IsNoMore p (penalties_of growth second_growth other key)) (all.least_is ∙ ap (λ (k : Key). penalties_of growth second_growth k key) (some_one all.is is)) (all.no_more other place (before place other there) there);
      }
    where
      before : (place : ℕ) (other : Key) → slice_get keys place ≡ Some other → place < n
      before place other there = let within = slice_get_within keys place other there in omega (arith, within, past)
