-- Cleaning a leaf keeps the tree's invariant.
use Rattle.std.proofs.Common.{◌≡◌, ℕ, Bool, true, false, List, [], ◌∷◌, IsTrue, cond, filter, refl, sym, subst, ◌∙◌, inl, inr, arith}
use Rattle.node_arena.specs.Slots.{Slots}
use Rattle.node_arena.specs.declared.handle.Handle.{Handle}
use Rattle.tree_theory.proofs.ContentsKept.{contents_sifted}
use Rattle.tree_theory.proofs.ListLemmas.{in_cases, picked_none}
use Rattle.tree_theory.proofs.SearchPlace.{searches_cleaned}
use Rattle.tree_theory.proofs.ShapePlace.{shape_cleaned}
use Rattle.tree_theory.specs.Changes.{IsCleaned}
use Rattle.tree_theory.specs.KeyClasses.{Class, Laws}
use Rattle.tree_theory.specs.Lists.{Picked}
use Rattle.tree_theory.specs.Lists.Parted.{to_one, to_other}
use Rattle.tree_theory.specs.Nodes.{Node, pairs_of}
use Rattle.tree_theory.specs.Nodes.PlainBody.{Leaf}
use Rattle.tree_nodes.specs.Arenas.{IsChanged, Holds}
use Rattle.search_tree.specs.Tends.{HasTended, ContentsLess, MayClean}
use Rattle.search_tree.specs.Trees.{PlainTree, IsSound, tree_of}
use Rattle.tree_nodes.specs.Bodies.{IsLeaf}
use Rattle.tree_answers.specs.declared.answers.Tending.TheVariants.{Cleaned}
use Rattle.tree_nodes.proofs.ListEnds.{some_one}
use Rattle.search_tree.proofs.TendSteps.{level_stays}

module _ {T : Type 0} (f : T → Bool) where
  picked_more : (x : T) (xs picked : List T) → Picked (λ y. IsTrue (f y)) xs picked → f x ≡ true → Picked (λ y. IsTrue (f y)) (x ∷ xs) (x ∷ picked)
  picked_more x xs picked p test =
      record {
        left = p.left;
        parted = to_one p.parted;
        each = λ y is_in. elim (in_cases x picked y is_in) [
          | inl e ↦ subst (λ z. IsTrue (f z)) e test
          | inr rest ↦ p.each y rest
        ];
        none_left = p.none_left;
      }

  picked_less : (x : T) (xs picked : List T) → Picked (λ y. IsTrue (f y)) xs picked → f x ≡ false → Picked (λ y. IsTrue (f y)) (x ∷ xs) picked
  picked_less x xs picked p test =
      record {
        left = x ∷ p.left;
        parted = to_other p.parted;
        each = p.each;
        none_left = λ y is_in. elim (in_cases x p.left y is_in) [
          | inl e ↦ λ has. let no : false ≡ true = sym test ∙ subst (λ z. IsTrue (f z)) (sym e) has in absurd (cc)
          | inr rest ↦ p.none_left y rest
        ];
      }

  -- `filter` picks the elements that pass the test
  pub filter_picked : (xs : List T) → Picked (λ y. IsTrue (f y)) xs (filter f xs)
  filter_picked [] = picked_none
  filter_picked (x ∷ xs) = by (f x) refl (filter_picked xs)
    where
      by : (b : Bool) → f x ≡ b → Picked (λ y. IsTrue (f y)) xs (filter f xs) → Picked (λ y. IsTrue (f y)) (x ∷ xs) (cond b (x ∷ filter f xs) (filter f xs))
      by true e rest = picked_more x xs (filter f xs) rest e
      by false e rest = picked_less x xs (filter f xs) rest e

module _ {Key Query Item : Type 0} (C : Class Key Query Item) (t : PlainTree Key Query Item) (at : Handle) (may : MayClean C t at) where
  pub clean_leaf : Holds t.nodes at (λ n. IsLeaf n.body)
  clean_leaf node is = (may.pairs, subst (λ (n : Node C). n.body ≡ Leaf may.pairs) (some_one may.is is) may.body)

  module _ (kept : ℕ × Item → Bool) (nodes : Slots (Node C)) (changed : IsChanged t.nodes nodes at (λ n. record n { body = Leaf (filter kept (pairs_of n.body)) })) where
    abbrev sifted : PlainTree Key Query Item
    sifted = record t { nodes = nodes }

    pub cleaned_step : IsCleaned (tree_of C t) (tree_of C sifted) (λ pair. IsTrue (kept pair)) at
    cleaned_step =
        record {
          node = may.node;
          pairs = may.pairs;
          body = may.body;
          left = filter kept may.pairs;
          kept = filter_picked kept may.pairs;
          nodes = record { before = may.is; after = rw (changed.here, may.is, may.body) refl; others = changed.others };
          searches = record { search = λ s. refl };
          clock = record { root = refl; counter = refl; next = refl };
        }

    pub cleaned_sound : Laws C → IsSound C t → IsSound C sifted
    cleaned_sound laws sound =
        record {
          invariant = record { shape = shape_cleaned laws sound.invariant.shape cleaned_step; searches = searches_cleaned sound.invariant.shape sound.invariant.searches cleaned_step };
          progress_of_each = sound.progress_of_each;
          progress_once = sound.progress_once;
          limited = sound.limited;
        }

    pub cleaned_less : IsSound C t → ContentsLess C t sifted (λ pair. IsTrue (kept pair))
    cleaned_less sound xs = contents_sifted sound.invariant.shape cleaned_step

    pub cleaned_call : HasTended C t sifted Cleaned
    cleaned_call =
        record {
          searches = λ s. refl;
          steps = λ s. refl;
          running = refl;
          limit = refl;
          level = level_stays t.root changed (λ n. refl);
          slots = changed.counts.slots;
          counter = omega arith;
          taken = changed.counts.taken;
        }
