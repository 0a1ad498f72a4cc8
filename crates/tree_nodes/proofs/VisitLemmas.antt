-- The loops of a visit, and what they add up to.
use Rattle.std.proofs.Common.{◌≡◌, ℕ, ◌≤◌, Bool, true, false, Option, Some, None, if◌then◌else◌, List, [], ◌∷◌, ◌++◌, length, sym, ap, ◌∙◌, arith, append_assoc, append-nil, length-append}
use Rattle.std.proofs.lemmas.List.{map-append}
use Rattle.node_arena.specs.declared.handle.Handle.{Handle}
use Rattle.tree_theory.proofs.ListLemmas.{picked_none, picked_with, picked_past}
use Rattle.tree_theory.specs.KeyClasses.{Class}
use Rattle.tree_theory.specs.Nodes.{PlainNode, Node, entries_of, pairs_of, followed, is_followed, onward, pushed}
use Rattle.tree_theory.specs.declared.TheConstants.{NODE_SIZE}
use Rattle.tree_nodes.specs.Progresses.{PlainProgress}
use Rattle.tree_nodes.specs.Visits.{HasChildren, HasMatching, HasSeen}

module _ {Key Query Item : Type 0} (C : Class Key Query Item) (query : Query) where
  pub matching_none : (old : PlainProgress Item) → HasMatching C query [] old old
  matching_none old = record { taken = []; matching = picked_none; few = omega arith; is = ap (λ (l : List (ℕ × Item)). let p : PlainProgress Item = record old { found = l } in p) (sym (append-nil old.found)) }

  pub matching_more : (pairs : List (ℕ × Item)) (old new next : PlainProgress Item) (pair : ℕ × Item) → HasMatching C query pairs old new → C.Matches pair.1 query → next ≡ record new { found = new.found ++ pair ∷ [] } → HasMatching C query (pairs ++ pair ∷ []) old next
  matching_more pairs old new next pair before matches e =
      let long = length-append pairs (pair ∷ []) in
      let longer = length-append before.taken (pair ∷ []) in
      record {
        taken = before.taken ++ pair ∷ [];
        matching = picked_with pair before.matching matches;
        few = let few = before.few in omega (arith, long, longer, few);
        is =
            e
            ∙ ap (λ (n : PlainProgress Item). let p : PlainProgress Item = record n { found = n.found ++ pair ∷ [] } in p) before.is
            ∙ ap (λ (l : List (ℕ × Item)). let p : PlainProgress Item = record old { found = l } in p) (append_assoc old.found before.taken (pair ∷ []));
      }

  pub matching_past : (pairs : List (ℕ × Item)) (old new : PlainProgress Item) (pair : ℕ × Item) → HasMatching C query pairs old new → (C.Matches pair.1 query → ⊥) → HasMatching C query (pairs ++ pair ∷ []) old new
  matching_past pairs old new pair before lacks =
      let long = length-append pairs (pair ∷ []) in
      record {
        taken = before.taken;
        matching = picked_past pair before.matching lacks;
        few = let few = before.few in omega (arith, long, few);
        is = before.is;
      }

module _ {Key Query Item : Type 0} (C : Class Key Query Item) (query : Query) (counter : ℕ) where
  pub children_none : (old : PlainProgress Item) → HasChildren C query counter [] old old
  children_none old = record { taken = []; consistent = picked_none; few = omega arith; is = ap (λ (l : List (Handle × ℕ)). let p : PlainProgress Item = record old { stack = l } in p) (sym (append-nil old.stack)) }

  pub children_more : (entries : List (Key × Handle)) (old new next : PlainProgress Item) (entry : Key × Handle) → HasChildren C query counter entries old new → C.Consistent entry.0 query → next ≡ record new { stack = new.stack ++ (entry.1, counter) ∷ [] } → HasChildren C query counter (entries ++ entry ∷ []) old next
  children_more entries old new next entry before consistent e =
      let long = length-append entries (entry ∷ []) in
      let longer = length-append before.taken (entry ∷ []) in
      record {
        taken = before.taken ++ entry ∷ [];
        consistent = picked_with entry before.consistent consistent;
        few = let few = before.few in omega (arith, long, longer, few);
        is =
            e
            ∙ ap (λ (n : PlainProgress Item). let p : PlainProgress Item = record n { stack = n.stack ++ (entry.1, counter) ∷ [] } in p) before.is
            ∙ ap (λ (l : List (Handle × ℕ)). let p : PlainProgress Item = record old { stack = l } in p) (
            append_assoc old.stack (pushed counter before.taken) ((entry.1, counter) ∷ [])
            ∙ ap (λ (l : List (Handle × ℕ)). old.stack ++ l) (sym (map-append (λ (e : Key × Handle). (e.1, counter)) before.taken (entry ∷ [])))
            );
      }

  pub children_past : (entries : List (Key × Handle)) (old new : PlainProgress Item) (entry : Key × Handle) → HasChildren C query counter entries old new → (C.Consistent entry.0 query → ⊥) → HasChildren C query counter (entries ++ entry ∷ []) old new
  children_past entries old new entry before lacks =
      let long = length-append entries (entry ∷ []) in
      record {
        taken = before.taken;
        consistent = picked_past entry before.consistent lacks;
        few = let few = before.few in omega (arith, long, few);
        is = before.is;
      }

  -- the whole node has been seen
  pub seen_all : (memo : ℕ) (node : Node C) (old a b new : PlainProgress Item) → a ≡ record old { stack = old.stack ++ followed node memo } → HasChildren C query counter (entries_of node.body) a b → HasMatching C query (pairs_of node.body) b new → length (pairs_of node.body) ≤ NODE_SIZE → HasSeen C query counter memo node old new
  seen_all memo node old a b new right children matching most =
      record {
        entries = children.taken;
        consistent = children.consistent;
        pairs = matching.taken;
        matching = matching.matching;
        few = let few = matching.few in omega (arith, few, most);
        is =
            matching.is
            ∙ ap (λ (n : PlainProgress Item). let p : PlainProgress Item = record n { found = n.found ++ matching.taken } in p) (
            children.is
            ∙ ap (λ (n : PlainProgress Item). let p : PlainProgress Item = record n { stack = n.stack ++ pushed counter children.taken } in p) right
            );
      }

-- at most one right node is followed
pub followed_few : {Key Item : Type 0} (node : PlainNode Key Item) (memo : ℕ) → length (followed node memo) ≤ 1
followed_few node memo = by (is_followed node.place node.seq memo) node.right
  where
    by : (b : Bool) (right : Option Handle) → length (if b then onward right memo else []) ≤ 1
    by true None = omega arith
    by true (Some r) = omega arith
    by false right = omega arith
