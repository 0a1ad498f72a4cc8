-- Placing and cleaning keep the shape.
use Rattle.std.proofs.Common.{◌≡◌, ℕ, ◌≤◌, List, [], ◌∷◌, ◌++◌, length, Contains, refl, sym, ap, subst, ◌∙◌, inl, inr, arith}
use Rattle.std.proofs.lemmas.List.{length-append}
use Rattle.std.proofs.lemmas.List.Elements.{Contains-append_cases}
use Rattle.node_arena.specs.declared.handle.Handle.{Handle}
use Rattle.tree_theory.specs.Changes.{MayTake, IsPlaced, IsCleaned}
use Rattle.tree_theory.specs.Invariant.{Shape}
use Rattle.tree_theory.specs.KeyClasses.{Class, Laws}
use Rattle.tree_theory.specs.Nodes.{PlainBody, Node, Tree, entries_of, pairs_of, size_of}
use Rattle.tree_theory.specs.Nodes.PlainBody.{Leaf}
use Rattle.tree_theory.specs.declared.TheConstants.{NODE_SIZE}
use Rattle.tree_theory.specs.declared.position.Position.TheVariants.{Retired}
use Rattle.tree_theory.proofs.ListLemmas.{nothing_in, in_one, one_in}
use Rattle.tree_theory.proofs.ShapeKept.{entry_at}
use Rattle.tree_theory.proofs.ShapeLists.{parted_sizes}
use Rattle.tree_theory.proofs.ShapeBody.{Rebodied, rebodied_shape, may_take_covers}

pub empty_of : {T : Type 0} (xs : List T) → length xs ≡ 0 → xs ≡ []
empty_of [] e = refl
empty_of (x ∷ xs) e = absurd (omega arith)

pub pair_at : {Key Item : Type 0} (a b : PlainBody Key Item) (pair : ℕ × Item) → a ≡ b → Contains (pairs_of a) pair → Contains (pairs_of b) pair
pair_at a b pair e has = subst (λ body. Contains (pairs_of body) pair) e has

-- a leaf has no entries
pub leaf_entry : {Key Item : Type 0} (body : PlainBody Key Item) (pairs : List (ℕ × Item)) (entry : Key × Handle) → body ≡ Leaf pairs → Contains (entries_of body) entry → ⊥
leaf_entry body pairs entry e has = nothing_in entry (entry_at body (Leaf pairs) entry e has)

module _ {Key Query Item : Type 0} {C : Class Key Query Item} where
  taker_not_retired : {t : Tree C} {h : Handle} {key : Key} (node : Node C) → MayTake t h node key → (stamp : ℕ) → node.place ≡ Retired stamp → ⊥
  taker_not_retired node (inl root) stamp place = absurd (cc (root, place))
  taker_not_retired node (inr entry) stamp place = absurd (cc (entry.place, place))

  placed_body : {t u : Tree C} {h : Handle} {pair : ℕ × Item} → Laws C → Shape t → (change : IsPlaced t u h pair) → Rebodied t u h change.node (record change.node { body = Leaf (change.pairs ++ pair ∷ []) })
  placed_body {t = t} {u = u} {h = h} {pair = pair} laws shape change =
      record {
        one = change.nodes;
        root = change.clock.root;
        level = refl;
        right = refl;
        place = refl;
        from = λ key c has. absurd (nothing_in (key, c) has);
        to = λ key c has. absurd (leaf_entry change.node.body change.pairs (key, c) change.body has);
        differ = λ i j d lt long. absurd (omega arith);
        filled = λ e. absurd (cc);
        size = let long = length-append change.pairs (pair ∷ []) in let room = change.room in omega arith;
        retired = λ stamp place. absurd (taker_not_retired change.node change.may_take stamp place);
        covered = λ key behind covers. record {
          pairs = λ other has. elim (Contains-append_cases change.pairs (pair ∷ []) other has) [
            | inl before ↦ covers.pairs other (pair_at (Leaf change.pairs) change.node.body other (sym change.body) before)
            | inr new ↦
                let wide = may_take_covers change.node shape change.nodes.before change.may_take behind in
                subst (λ pair. C.Covers key (C.key_of pair.1)) (in_one pair other new) wide
          ];
          entries = λ entry has. absurd (nothing_in entry has);
        };
      }

  pub shape_placed : {t u : Tree C} {h : Handle} {pair : ℕ × Item} → Laws C → Shape t → IsPlaced t u h pair → Shape u
  shape_placed laws shape change = rebodied_shape laws (placed_body laws shape change) shape

  cleaned_body : {t u : Tree C} {Kept : ℕ × Item → Type 0} {h : Handle} → Shape t → (change : IsCleaned t u Kept h) → Rebodied t u h change.node (record change.node { body = Leaf change.left })
  cleaned_body {t = t} {u = u} {h = h} shape change =
      record {
        one = change.nodes;
        root = change.clock.root;
        level = refl;
        right = refl;
        place = refl;
        from = λ key c has. absurd (nothing_in (key, c) has);
        to = λ key c has. absurd (leaf_entry change.node.body change.pairs (key, c) change.body has);
        differ = λ i j d lt long. absurd (omega arith);
        filled = λ e. absurd (cc);
        size =
            let parts = parted_sizes change.kept.parted in
            let whole : length change.pairs ≤ NODE_SIZE = subst (λ body. size_of body ≤ NODE_SIZE) change.body (shape.size h change.node change.nodes.before) in
            omega arith;
        retired = λ stamp place.
            let empty = shape.retired_empty h change.node change.nodes.before stamp place in
            let none : change.pairs ≡ [] = ap pairs_of (sym change.body ∙ empty) in
            let size : length change.pairs ≡ 0 = ap length none in
            let parts = parted_sizes change.kept.parted in
            ap (λ pairs. Leaf pairs) (empty_of change.left (omega arith));
        covered = λ key behind covers. record {
          pairs = λ other has. covers.pairs other (pair_at (Leaf change.pairs) change.node.body other (sym change.body) (one_in other change.kept.parted has));
          entries = λ entry has. absurd (nothing_in entry has);
        };
      }

  pub shape_cleaned : {t u : Tree C} {Kept : ℕ × Item → Type 0} {h : Handle} → Laws C → Shape t → IsCleaned t u Kept h → Shape u
  shape_cleaned laws shape change = rebodied_shape laws (cleaned_body shape change) shape
