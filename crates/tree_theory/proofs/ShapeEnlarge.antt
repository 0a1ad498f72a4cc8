-- Widening an entry's key keeps the shape.
use Rattle.std.proofs.Common.{◌≡◌, ◌≤◌, [], length, Contains, slice_set, refl, sym, ap, subst, inl, inr, arith}
use Rattle.std.proofs.lemmas.List.{length-set}
use Rattle.std.proofs.lemmas.Option.{slice_get_within}
use Rattle.node_arena.specs.declared.handle.Handle.{Handle}
use Rattle.tree_theory.specs.Changes.{IsEnlarged}
use Rattle.tree_theory.specs.Invariant.{Shape}
use Rattle.tree_theory.specs.KeyClasses.{Class, Laws}
use Rattle.tree_theory.specs.Nodes.{Tree, entries_of, size_of}
use Rattle.tree_theory.specs.Nodes.PlainBody.{Inner}
use Rattle.tree_theory.specs.declared.TheConstants.{NODE_SIZE}
use Rattle.tree_theory.proofs.ListLemmas.{nothing_in, got_in, set_cases}
use Rattle.tree_theory.proofs.ShapeKept.{entry_at}
use Rattle.tree_theory.proofs.ShapeLists.{Differ, rekeyed_from, rekeyed_to, rekeyed_differ}
use Rattle.tree_theory.proofs.ShapeBody.{Rebodied, rebodied_shape, may_take_covers}

module _ {Key Query Item : Type 0} {C : Class Key Query Item} where
  enlarged_body : {t u : Tree C} {p : Handle} {key : Key} → Laws C → Shape t → (change : IsEnlarged t u p key) → Rebodied t u p change.node (record change.node { body = Inner (slice_set change.entries change.index (C.united change.old key, change.child)) })
  enlarged_body {t = t} {u = u} {p = p} {key = key} laws shape change =
      let entries = change.entries in
      let index = change.index in
      let new : Key = C.united change.old key in
      let within = slice_get_within entries index (change.old, change.child) change.entry in
      let long = length-set entries index (new, change.child) in
      let differ : Differ entries = subst (λ body. Differ (entries_of body)) change.body (shape.children_differ p change.node change.nodes.before) in
      record {
        one = change.nodes;
        root = change.clock.root;
        level = refl;
        right = refl;
        place = refl;
        from = λ k c has. elim (rekeyed_from entries index change.old new change.child change.entry k c has) [
          | inl e ↦
              let had : Contains (entries_of change.node.body) (change.old, change.child) = entry_at (Inner entries) change.node.body (change.old, change.child) (sym change.body) (got_in entries index (change.old, change.child) change.entry) in
              let named : Contains (entries_of change.node.body) (change.old, c) = subst (λ child. Contains (entries_of change.node.body) (change.old, child)) (sym e.1) had in
              (change.old, named, subst (λ outer. C.Covers outer change.old) (sym e.0) (laws.covers_first change.old key))
          | inr stays ↦ (k, entry_at (Inner entries) change.node.body (k, c) (sym change.body) stays, laws.reflexive k)
        ];
        to = λ k c has. rekeyed_to entries index change.old new change.child change.entry k c (entry_at change.node.body (Inner entries) (k, c) change.body has);
        differ = rekeyed_differ entries index change.old new change.child change.entry differ;
        filled = λ e.
            let none : slice_set entries index (new, change.child) ≡ [] = ap entries_of e in
            let size : length (slice_set entries index (new, change.child)) ≡ 0 = ap length none in
            absurd (omega arith);
        size =
            let whole : length entries ≤ NODE_SIZE = subst (λ body. size_of body ≤ NODE_SIZE) change.body (shape.size p change.node change.nodes.before) in
            omega arith;
        retired = λ stamp place.
            let empty = shape.retired_empty p change.node change.nodes.before stamp place in
            let body = change.body in
            absurd (cc);
        covered = λ outer behind covers. record {
          pairs = λ pair has. absurd (nothing_in pair has);
          entries = λ entry has. elim (set_cases entries index (new, change.child) entry has) [
            | inl same ↦
                let had : Contains (entries_of change.node.body) (change.old, change.child) = entry_at (Inner entries) change.node.body (change.old, change.child) (sym change.body) (got_in entries index (change.old, change.child) change.entry) in
                let wide = may_take_covers change.node shape change.nodes.before change.may_take behind in
                subst (λ e. C.Covers outer e.0) same (laws.least change.old key outer (covers.entries (change.old, change.child) had) wide)
            | inr stays ↦ covers.entries entry (entry_at (Inner entries) change.node.body entry (sym change.body) stays)
          ];
        };
      }

  pub shape_enlarged : {t u : Tree C} {p : Handle} {key : Key} → Laws C → Shape t → IsEnlarged t u p key → Shape u
  shape_enlarged laws shape change = rebodied_shape laws (enlarged_body laws shape change) shape
