-- A search that is ready has found all that it looks for.
use Rattle.std.proofs.Common.{◌≡◌, ℕ, true, List, [], ◌∷◌, Contains, Option, Some, None, refl, sym, ap, subst, ◌∙◌}
use Rattle.std.specs.Option.{option_map}
use Rattle.predicate_locks.specs.Searches.{search_at}
use Rattle.tree_theory.proofs.ContentsKept.{contents_have}
use Rattle.tree_theory.proofs.Ready.{misses_nothing}
use Rattle.tree_theory.specs.KeyClasses.{Class, Laws}
use Rattle.tree_theory.specs.Nodes.{Search}
use Rattle.search_tree.specs.Calls.{IsComplete, found_in, found_of}
use Rattle.search_tree.specs.Trees.{PlainTree, SeenSearch, IsSound, search_of, progress_at, seen, tree_of}
use Rattle.tree_nodes.specs.Progresses.{is_empty}

-- `is_empty` holds only for the empty list
pub nothing_left : {T : Type 0} (xs : List T) → is_empty xs ≡ true → xs ≡ []
nothing_left [] e = refl
nothing_left (x ∷ xs) e = absurd (cc (e))

module _ {Key Query Item : Type 0} (C : Class Key Query Item) (t : PlainTree Key Query Item) (search : ℕ) where
  pub complete_there : Laws C → IsSound C t → IsComplete C t search (found_in t search)
  complete_there laws sound s is ready xs contents pair has matches = by (search_of (search_at t.running search) (progress_at search t.progress)) refl is
    where
      by : (o : Option (Search C)) → search_of (search_at t.running search) (progress_at search t.progress) ≡ o → option_map seen o ≡ Some s → Contains (found_of (option_map seen o)) pair
      by None e none = absurd (cc (none))
      by (Some plain) e some =
          let same : seen plain ≡ s = cc (some) in
          let empty : plain.stack ≡ [] = nothing_left plain.stack (ap (λ (x : SeenSearch Query Item). x.ready) same ∙ ready) in
          let found = misses_nothing laws (tree_of C t) sound.invariant in
          found search plain (record { running = e; stack = empty }) pair ((contents_have (tree_of C t) xs contents pair).0 has) (subst (λ q. C.Matches pair.1 q) (sym (ap (λ (x : SeenSearch Query Item). x.query) same)) matches)
