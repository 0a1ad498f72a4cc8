-- A descent: joining leaves what enlarging needs.
use Rattle.std.proofs.Common.{◌∙◌, ℕ, List, Contains, sym, ap, subst, inl, inr}
use Rattle.node_arena.specs.Slots.{Slots}
use Rattle.tree_theory.proofs.ListLemmas.{got_in}
use Rattle.tree_theory.specs.Changes.{MayTake}
use Rattle.tree_theory.specs.KeyClasses.{Class}
use Rattle.tree_theory.specs.Nodes.{Node, entries_of}
use Rattle.tree_theory.specs.Walks.{Done}
use Rattle.search_tree.specs.Trees.{PlainTree, tree_of}
use Rattle.tree_nodes.specs.Descents.{AreLed}
use Rattle.search_tree.specs.Walks.{HasJoinedBelow, HasMore, MayDescend, MayEnlarge, MayJoinBelow, MoreAttached}
use Rattle.search_tree.specs.declared.descents.WayDown.{WayDown}
use Rattle.search_tree.proofs.DescentLemmas.{held_or_not}

module _ {Key Query Item : Type 0} (C : Class Key Query Item) (t : PlainTree Key Query Item) (way : WayDown Key) (key : Key) (may : MayDescend C t way key) (led : List ℕ) (are_led : AreLed C t.running way.key (C.united way.key key) may.node.attached led) where
  pub may_join : MayJoinBelow C t way.child led
  may_join =
      record {
        parent = way.parent;
        node = may.node;
        is = may.is;
        key = way.key;
        entry = subst (λ b. Contains (entries_of b) (way.key, way.child)) (sym may.body) (got_in may.entries way.place (way.key, way.child) may.entry);
        each = are_led.listed;
      }

  -- the nodes after searches were attached
  module _ (nodes : Slots (Node C)) (more : MoreAttached C t led nodes) where
    abbrev joined : PlainTree Key Query Item
    joined = record t { nodes = nodes }

    still_takes : (now : Node C) → HasMore C t led may.node now → MayTake (tree_of C joined) way.parent now key
    still_takes now has_more = elim may.may_take [
      | inl root ↦ inl (ap (λ (n : Node C). n.place) has_more.same ∙ root)
      | inr above ↦
          let there = more.forth above.parent above.parent_node above.is in
          inr
          (record {
            parent = above.parent;
            marked = above.marked;
            place = ap (λ (n : Node C). n.place) has_more.same ∙ above.place;
            parent_node = there.0;
            is = there.1;
            entry_key = above.entry_key;
            entry = subst (λ b. Contains (entries_of b) (above.entry_key, way.parent)) (sym (ap (λ (n : Node C). n.body) there.2.same)) above.entry;
            covers = above.covers;
          })
    ]

    enlarge_joined : ((s : ℕ) → Contains led s → Done (tree_of C joined) s way.child) → MayEnlarge C joined way.parent way.place way.key key way.child
    enlarge_joined done =
        let now = more.forth way.parent may.node may.is in
        record {
          node = now.0;
          is = now.1;
          entries = may.entries;
          body = ap (λ (n : Node C). n.body) now.2.same ∙ may.body;
          entry = may.entry;
          may_take = still_takes now.0 now.2;
          seen = λ s run runs has consistent. elim (held_or_not s led) [
            | inl listed ↦ let seen = done s listed in inr (seen.node, seen.is, seen.attached)
            | inr unlisted ↦ elim (now.2.numbers.only s has) [
              | inl before ↦ inl (are_led.missed s run runs before unlisted consistent)
              | inr new ↦ absurd (unlisted new)
            ]
          ];
        }

  pub may_enlarge : (u : PlainTree Key Query Item) → HasJoinedBelow C t u way.child led → MayEnlarge C u way.parent way.place way.key key way.child
  may_enlarge u below =
      subst (λ v. MayEnlarge C v way.parent way.place way.key key way.child) (sym below.only_nodes)
      (enlarge_joined u.nodes below.more (λ s has. subst (λ v. Done (tree_of C v) s way.child) below.only_nodes (below.done s has)))
