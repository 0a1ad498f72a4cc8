-- What each step does to the contents.
use Rattle.std.proofs.Common.{◌≡◌, ◌↔◌, ℕ, ◌≤◌, true, false, List, [], ◌∷◌, ◌++◌, length, Contains, flat_map, Option, Some, None, IsSome, refl, sym, ap, subst, ◌∙◌, inl, inr, arith}
use Rattle.std.specs.Option.{option_map, is_some}
use Rattle.std.specs.List.Sorted.{IsPermutation}
use Rattle.std.proofs.lemmas.List.Sorted.{Contains-permutation}
use Rattle.node_arena.specs.declared.handle.Handle.{Handle}
use Rattle.tree_theory.specs.Changes.{OneNode, IsOpened, IsClosed, IsVisited, IsVisitedGone, IsPlaced, IsJoined, IsEnlarged, IsInstalled, IsCleaned, IsRetired, IsFreed, IsStarted}
use Rattle.tree_theory.specs.Contents.{InContents, IsContents, LosesPairs, pairs_at, contents_of}
use Rattle.tree_theory.specs.Invariant.{Shape}
use Rattle.tree_theory.specs.KeyClasses.{Class}
use Rattle.tree_theory.specs.Nodes.{PlainBody, PlainNode, Node, Tree, pairs_of, size_of, under}
use Rattle.tree_theory.specs.Nodes.PlainBody.{Inner}
use Rattle.tree_theory.specs.declared.TheConstants.{NODE_SIZE}
use Rattle.tree_theory.proofs.ContentsLists.{as_it_is, turned_round, then_to, before_all, exchanged_last, parts_together, same_parts, put_in, taken_from, Without, without, same_handles}
use Rattle.tree_theory.proofs.ListLemmas.{handle_cases, first_in, nothing_in, in_one}
use Rattle.tree_theory.proofs.ShapeLists.{parted_sizes}

pub stands_some : {T : Type 0} (o : Option T) (x : T) → o ≡ Some x → IsSome o
stands_some o x e = ap is_some e

pub none_stands : {T : Type 0} (o : Option T) → o ≡ None → IsSome o → ⊥
none_stands o e some = let no : false ≡ true = sym (ap is_some e) ∙ some in absurd (cc)

moved_pairs : {Key Item : Type 0} (parent : Handle) (o : Option (PlainNode Key Item)) → pairs_at (option_map (under parent) o) ≡ pairs_at o
moved_pairs parent None = refl
moved_pairs parent (Some node) = refl

moved_stands : {Key Item : Type 0} (parent : Handle) (o : Option (PlainNode Key Item)) → is_some (option_map (under parent) o) ≡ is_some o
moved_stands parent None = refl
moved_stands parent (Some node) = refl

inner_pairs : {Key Item : Type 0} (body : PlainBody Key Item) (entries : List (Key × Handle)) → body ≡ Inner entries → [] ≡ pairs_of body
inner_pairs body entries e = sym (ap pairs_of e)

module _ {Key Query Item : Type 0} {C : Class Key Query Item} where
  -- at this handle both trees have a node with the same pairs, or neither has a node
  pub record SameAt (t u : Tree C) (h : Handle) : Type 0 where
    pub pairs : pairs_at (u.look h) ≡ pairs_at (t.look h)
    pub to : IsSome (t.look h) → IsSome (u.look h)
    pub from : IsSome (u.look h) → IsSome (t.look h)

  pub at_same : {t u : Tree C} {h : Handle} → u.look h ≡ t.look h → SameAt t u h
  at_same {t = t} {u = u} {h = h} e = record { pairs = ap pairs_at e; to = subst IsSome (sym e); from = subst IsSome e }

  pub at_node : {t u : Tree C} {h : Handle} (old new : Node C) → t.look h ≡ Some old → u.look h ≡ Some new → pairs_of new.body ≡ pairs_of old.body → SameAt t u h
  at_node {t = t} {u = u} {h = h} old new was is same =
      record {
        pairs = ap pairs_at is ∙ (same ∙ sym (ap pairs_at was));
        to = λ some. stands_some (u.look h) new is;
        from = λ some. stands_some (t.look h) old was;
      }

  pub at_moved : {t u : Tree C} {h : Handle} (parent : Handle) → u.look h ≡ option_map (under parent) (t.look h) → SameAt t u h
  at_moved {t = t} {u = u} {h = h} parent e =
      record {
        pairs = ap pairs_at e ∙ moved_pairs parent (t.look h);
        to = λ some. ap is_some e ∙ (moved_stands parent (t.look h) ∙ some);
        from = λ some. sym (moved_stands parent (t.look h)) ∙ (sym (ap is_some e) ∙ some);
      }

  -- contents in another order
  pub contents_turned : {t : Tree C} {xs ys : List (ℕ × Item)} → IsContents t xs → IsPermutation xs ys → IsContents t ys
  contents_turned c p = record { handles = c.handles; listing = c.listing; same = then_to c.same p }

  -- a tree has one list of contents, up to order
  pub contents_unique : (t : Tree C) (xs ys : List (ℕ × Item)) → IsContents t xs → IsContents t ys → IsPermutation xs ys
  contents_unique t xs ys one other =
      let handles = same_handles (λ h. pairs_at (t.look h)) one.handles other.handles one.listing.distinct other.listing.distinct
      (λ h has. (other.listing.listed h).1 ((one.listing.listed h).0 has))
      (λ h has. (one.listing.listed h).1 ((other.listing.listed h).0 has)) in
      then_to (turned_round one.same) (then_to handles other.same)

  -- and the contents have exactly the pairs of the nodes
  some_pair : (t : Tree C) (h : Handle) (o : Option (Node C)) (pair : ℕ × Item) → t.look h ≡ o → Contains (pairs_at o) pair → InContents t pair
  some_pair t h None pair e has = absurd (nothing_in pair has)
  some_pair t h (Some node) pair e has = record { handle = h; node = node; is = e; pair_in = has }

  pub contents_have : (t : Tree C) (xs : List (ℕ × Item)) → IsContents t xs → (pair : ℕ × Item) → Contains xs pair ↔ InContents t pair
  contents_have t xs c pair = (
    λ has.
        let found = taken_from (λ h. pairs_at (t.look h)) c.handles pair (Contains-permutation xs (contents_of t c.handles) pair (turned_round c.same) has) in
        some_pair t found.0 (t.look found.0) pair refl found.2,
    λ found.
        let listed = (c.listing.listed found.handle).1 (stands_some (t.look found.handle) found.node found.is) in
        let has : Contains (pairs_at (t.look found.handle)) pair = subst (λ pairs. Contains pairs pair) (sym (ap pairs_at found.is)) found.pair_in in
        Contains-permutation (contents_of t c.handles) xs pair c.same (put_in (λ h. pairs_at (t.look h)) c.handles found.handle pair listed has),
  )

  -- Steps that keep the pairs of each node.

  contents_same : {t u : Tree C} {xs : List (ℕ × Item)} → ((h : Handle) → SameAt t u h) → IsContents t xs → IsContents u xs
  contents_same {t = t} {u = u} {xs = xs} each c =
      record {
        handles = c.handles;
        listing = record {
          distinct = c.listing.distinct;
          listed = λ h. (λ has. (each h).to ((c.listing.listed h).0 has), λ some. (c.listing.listed h).1 ((each h).from some));
        };
        same = then_to (as_it_is (same_parts (λ h. pairs_at (u.look h)) (λ h. pairs_at (t.look h)) c.handles (λ h has. (each h).pairs))) c.same;
      }

  one_same : {t u : Tree C} {h : Handle} {old new : Node C} → OneNode t u h old new → pairs_of new.body ≡ pairs_of old.body → (x : Handle) → SameAt t u x
  one_same {t = t} {u = u} {h = h} {old = old} {new = new} r same x = elim (handle_cases x h) [
    | inl e ↦ subst (SameAt t u) (sym e) (at_node old new r.before r.after same)
    | inr apart ↦ at_same (r.others x apart)
  ]

  pub contents_opened : {t u : Tree C} {query : Query} {xs : List (ℕ × Item)} → IsOpened t u query → IsContents t xs → IsContents u xs
  contents_opened change = contents_same (λ h. at_same (change.nodes.look h))

  pub contents_closed : {t u : Tree C} {s : ℕ} {xs : List (ℕ × Item)} → IsClosed t u s → IsContents t xs → IsContents u xs
  contents_closed change = contents_same (λ h. at_same (change.nodes.look h))

  pub contents_visited : {t u : Tree C} {s : ℕ} {x : Handle} {memo : ℕ} {xs : List (ℕ × Item)} → IsVisited t u s x memo → IsContents t xs → IsContents u xs
  contents_visited change = contents_same (one_same change.nodes refl)

  pub contents_visited_gone : {t u : Tree C} {s : ℕ} {x : Handle} {memo : ℕ} {xs : List (ℕ × Item)} → IsVisitedGone t u s x memo → IsContents t xs → IsContents u xs
  contents_visited_gone change = contents_same (λ h. at_same (change.nodes.look h))

  pub contents_joined : {t u : Tree C} {h : Handle} {xs : List (ℕ × Item)} → IsJoined t u h → IsContents t xs → IsContents u xs
  contents_joined change = contents_same (one_same change.nodes refl)

  pub contents_enlarged : {t u : Tree C} {p : Handle} {key : Key} {xs : List (ℕ × Item)} → IsEnlarged t u p key → IsContents t xs → IsContents u xs
  contents_enlarged change = contents_same (one_same change.nodes (inner_pairs change.node.body change.entries change.body))

  pub contents_installed : {t u : Tree C} {p l r : Handle} {xs : List (ℕ × Item)} → IsInstalled t u p l r → IsContents t xs → IsContents u xs
  contents_installed {t = t} {u = u} {p = p} {l = l} {r = r} change = contents_same each
    where
      each : (x : Handle) → SameAt t u x
      each x = elim (handle_cases x p) [
        | inl e ↦ subst (SameAt t u) (sym e) (at_node change.node _ change.parent_before change.parent_now (inner_pairs change.node.body change.entries change.body))
        | inr not_parent ↦ elim (handle_cases x l) [
          | inl e ↦ subst (SameAt t u) (sym e) (at_node change.left _ change.left_before change.left_now refl)
          | inr not_left ↦ elim (handle_cases x r) [
            | inl e ↦ subst (SameAt t u) (sym e) (at_node change.right _ change.right_before change.right_now refl)
            | inr not_right ↦ at_same (change.others x not_parent not_left not_right)
          ]
        ]
      ]

  pub contents_retired : {t u : Tree C} {l p : Handle} {xs : List (ℕ × Item)} → IsRetired t u l p → IsContents t xs → IsContents u xs
  contents_retired {t = t} {u = u} {l = l} {p = p} change = contents_same each
    where
      each : (x : Handle) → SameAt t u x
      each x = elim (handle_cases x l) [
        | inl e ↦ subst (SameAt t u) (sym e) (at_node change.leaf _ change.leaf_before change.leaf_now refl)
        | inr not_leaf ↦ elim (handle_cases x p) [
          | inl e ↦ subst (SameAt t u) (sym e) (at_node change.node _ change.parent_before change.parent_now (inner_pairs change.node.body change.entries change.body))
          | inr not_parent ↦ at_same (change.others x not_leaf not_parent)
        ]
      ]

  -- The first tree, and the removal of a node.

  pub contents_started : {u : Tree C} → IsStarted u → IsContents u []
  contents_started {u = u} change =
      record {
        handles = u.root ∷ [];
        listing = record {
          distinct = λ i j d lt long. absurd (omega arith);
          listed = λ h. (
            λ has. subst (λ h. IsSome (u.look h)) (in_one u.root h has) (stands_some (u.look u.root) _ change.root_now),
            λ some. elim (handle_cases h u.root) [
              | inl e ↦ subst (Contains (u.root ∷ [])) (sym e) (first_in u.root [])
              | inr apart ↦ absurd (none_stands (u.look h) (change.others h apart) some)
            ],
          );
        };
        same = as_it_is (ap (λ node. pairs_at node ++ []) change.root_now);
      }

  pub contents_freed : {t u : Tree C} {h : Handle} {xs : List (ℕ × Item)} → Shape t → IsFreed t u h → IsContents t xs → IsContents u xs
  contents_freed {t = t} {u = u} {h = h} {xs = xs} shape change c =
      let less : Without (ℕ × Item) c.handles h = without (ℕ × Item) c.handles h c.listing.distinct ((c.listing.listed h).1 (stands_some (t.look h) change.node change.before)) in
      let apart = λ (x : Handle) (has : Contains less.rest x) (e : x ≡ h). less.absent (subst (Contains less.rest) e has) in
      let empty : pairs_at (t.look h) ≡ [] = ap pairs_at change.before ∙ ap pairs_of (shape.retired_empty h change.node change.before change.stamp change.place) in
      record {
        handles = less.rest;
        listing = record {
          distinct = less.distinct;
          listed = λ x. (
            λ has. subst IsSome (sym (change.others x (apart x has))) ((c.listing.listed x).0 (less.inside x has)),
            λ some. elim (handle_cases x h) [
              | inl e ↦ absurd (none_stands (u.look h) change.gone (subst (λ x. IsSome (u.look x)) e some))
              | inr other ↦ elim (less.cases x ((c.listing.listed x).1 (subst IsSome (change.others x other) some))) [ inl e ↦ absurd (other e) | inr still ↦ still ]
            ],
          );
        };
        same =
            then_to (as_it_is (same_parts (λ x. pairs_at (u.look x)) (λ x. pairs_at (t.look x)) less.rest (λ x has. ap pairs_at (change.others x (apart x has)))))
            (then_to (as_it_is (sym (ap (λ part. part ++ flat_map (λ x. pairs_at (t.look x)) less.rest) empty))) (then_to (turned_round (less.front (λ x. pairs_at (t.look x)))) c.same));
      }

  -- One node's pairs change.

  record Around (t u : Tree C) (xs : List (ℕ × Item)) (old new : List (ℕ × Item)) : Type 0 where
    others : List (ℕ × Item)
    before : IsPermutation xs (old ++ others)
    after : IsContents u (new ++ others)

  around : {t u : Tree C} {h : Handle} {old new : Node C} {xs : List (ℕ × Item)} → OneNode t u h old new → IsContents t xs → Around t u xs (pairs_of old.body) (pairs_of new.body)
  around {t = t} {u = u} {h = h} {old = old} {new = new} {xs = xs} r c =
      let less : Without (ℕ × Item) c.handles h = without (ℕ × Item) c.handles h c.listing.distinct ((c.listing.listed h).1 (stands_some (t.look h) old r.before)) in
      let apart = λ (x : Handle) (has : Contains less.rest x) (e : x ≡ h). less.absent (subst (Contains less.rest) e has) in
      let others : List (ℕ × Item) = flat_map (λ x. pairs_at (t.look x)) less.rest in
      record {
        others = others;
        before = then_to (turned_round c.same) (then_to (less.front (λ x. pairs_at (t.look x))) (as_it_is (ap (λ node. pairs_at node ++ others) r.before)));
        after = record {
          handles = c.handles;
          listing = record {
            distinct = c.listing.distinct;
            listed = λ x. elim (handle_cases x h) [
              | inl e ↦ (λ has. subst (λ x. IsSome (u.look x)) (sym e) (stands_some (u.look h) new r.after), λ some. subst (Contains c.handles) (sym e) ((c.listing.listed h).1 (stands_some (t.look h) old r.before)))
              | inr other ↦ (λ has. subst IsSome (sym (r.others x other)) ((c.listing.listed x).0 has), λ some. (c.listing.listed x).1 (subst IsSome (r.others x other) some))
            ];
          };
          same = then_to (less.front (λ x. pairs_at (u.look x))) (then_to (as_it_is (ap (λ node. pairs_at node ++ flat_map (λ x. pairs_at (u.look x)) less.rest) r.after)) (as_it_is (ap (λ rest. pairs_of new.body ++ rest) (same_parts (λ x. pairs_at (u.look x)) (λ x. pairs_at (t.look x)) less.rest (λ x has. ap pairs_at (r.others x (apart x has)))))));
        };
      }

  pub contents_placed : {t u : Tree C} {h : Handle} {pair : ℕ × Item} {xs : List (ℕ × Item)} → IsPlaced t u h pair → IsContents t xs → IsContents u (xs ++ pair ∷ [])
  contents_placed {pair = pair} {xs = xs} change c =
      let a = around change.nodes c in
      let pairs : pairs_of change.node.body ≡ change.pairs = ap pairs_of change.body in
      let last : IsPermutation ((change.pairs ++ pair ∷ []) ++ a.others) ((change.pairs ++ a.others) ++ pair ∷ []) = exchanged_last change.pairs (pair ∷ []) a.others in
      let whole : IsPermutation (change.pairs ++ a.others) xs = turned_round (then_to a.before (as_it_is (ap (λ pairs. pairs ++ a.others) pairs))) in
      contents_turned a.after (then_to last (before_all (pair ∷ []) whole))

  pub contents_cleaned : {t u : Tree C} {Kept : ℕ × Item → Type 0} {h : Handle} {before after : List (ℕ × Item)} → Shape t → IsCleaned t u Kept h → IsContents t before → IsContents u after → LosesPairs Kept before after
  contents_cleaned {t = t} {u = u} {h = h} {before = before} {after = after} shape change c d =
      let a = around change.nodes c in
      let lost = change.kept.left in
      let pairs : pairs_of change.node.body ≡ change.pairs = ap pairs_of change.body in
      let now : IsPermutation (change.left ++ a.others) after = contents_unique u (change.left ++ a.others) after a.after d in
      let was : IsPermutation before (change.pairs ++ a.others) = then_to a.before (as_it_is (ap (λ pairs. pairs ++ a.others) pairs)) in
      let parts : IsPermutation (change.pairs ++ a.others) ((change.left ++ lost) ++ a.others) = before_all a.others (parts_together change.kept.parted) in
      record {
        lost = lost;
        same = then_to was (then_to parts (then_to (exchanged_last change.left lost a.others) (before_all lost now)));
        few =
            let sizes = parted_sizes change.kept.parted in
            let whole : length change.pairs ≤ NODE_SIZE = subst (λ body. size_of body ≤ NODE_SIZE) change.body (shape.size h change.node change.nodes.before) in
            omega arith;
        none_kept = change.kept.none_left;
      }

  -- the contents after a leaf is cleaned
  pub contents_sifted : {t u : Tree C} {Kept : ℕ × Item → Type 0} {h : Handle} {before : List (ℕ × Item)} → Shape t → IsCleaned t u Kept h → IsContents t before → (after : List (ℕ × Item)) × IsContents u after × LosesPairs Kept before after
  contents_sifted shape change c =
      let a = around change.nodes c in
      (change.left ++ a.others, a.after, contents_cleaned shape change c a.after)
