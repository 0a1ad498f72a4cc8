-- Nodes get another parent.
use Rattle.std.proofs.Common.{◌≡◌, ◌≢◌, ◌⊎◌, ℕ, ◌+◌, ◌<◌, List, [], ◌∷◌, ◌++◌, Contains, length, slice_index_or, take, Option, None, Some, refl, sym, ap, subst, ◌∙◌, inl, inr, arith}
use Rattle.std.proofs.lemmas.List.Elements.{Contains-append_left, Contains-push, Contains-push_cases}
use Rattle.std.specs.Option.{option_map}
use Rattle.node_arena.specs.Slots.{Slots, IsGiven, CountsGiven, value_at}
use Rattle.node_arena.specs.declared.handle.Handle.{Handle}
use Rattle.tree_theory.proofs.ListLemmas.{handle_cases, child_cases}
use Rattle.tree_theory.specs.Nodes.{PlainNode, place_under, under}
use Rattle.tree_theory.specs.declared.position.Position.{Position}
use Rattle.tree_theory.specs.declared.position.Position.TheVariants.{Root, Linked, Unlinked, Retired}
use Rattle.tree_nodes.specs.Arenas.{IsChanged}
use Rattle.tree_nodes.specs.NewNodes.{HasAdopted, IsPutOver, MoreTaken}
use Rattle.tree_nodes.proofs.ListEnds.{take_one, get_some}

-- of two parents, the last one stays
place_twice : (parent other : Handle) (place : Position) → place_under parent (place_under other place) ≡ place_under parent place
place_twice parent other Root = refl
place_twice parent other (Linked before marked) = refl
place_twice parent other (Unlinked left) = refl
place_twice parent other (Retired stamp) = refl

module _ {Key Item : Type 0} where
  pub under_twice : (parent other : Handle) (o : Option (PlainNode Key Item)) → option_map (under parent) (option_map (under other) o) ≡ option_map (under parent) o
  under_twice parent other None = refl
  under_twice parent other (Some node) = ap (λ place. Some (record node { place = place })) (place_twice parent other node.place)

  pub adopted_one : (old mid new : Slots (PlainNode Key Item)) (children : List Handle) (child parent : Handle) → HasAdopted old mid children parent → IsChanged mid new child (under parent) → new.places ≡ mid.places → HasAdopted old new (children ++ child ∷ []) parent
  adopted_one old mid new children child parent before changed places =
      record {
        adopted = λ h has. at h has (handle_cases h child);
        others = λ h not. changed.others h (λ e. not (subst (Contains (children ++ child ∷ [])) (sym e) (Contains-push children child))) ∙ before.others h (λ has. not (Contains-append_left children (child ∷ []) h has));
        counts = record {
          values = changed.counts.values ∙ before.counts.values;
          taken = changed.counts.taken ∙ before.counts.taken;
          slots = changed.counts.slots ∙ before.counts.slots;
        };
        places = places ∙ before.places;
      }
    where
      again : Contains children child ⊎ (Contains children child → ⊥) → option_map (under parent) (value_at mid child) ≡ option_map (under parent) (value_at old child)
      again (inl has) = ap (option_map (under parent)) (before.adopted child has) ∙ under_twice parent parent (value_at old child)
      again (inr not) = ap (option_map (under parent)) (before.others child not)

      at : (h : Handle) → Contains (children ++ child ∷ []) h → (h ≡ child) ⊎ (h ≢ child) → value_at new h ≡ option_map (under parent) (value_at old h)
      at h has (inl e) = subst (λ x. value_at new x ≡ option_map (under parent) (value_at old x)) (sym e) (changed.here ∙ again (child_cases children child))
      at h has (inr apart) = elim (Contains-push_cases children child h has) [
        | inl before_it ↦ changed.others h apart ∙ before.adopted h before_it
        | inr e ↦ absurd (apart (sym e))
      ]

  -- one more of several children
  pub adopted_next : (old mid new : Slots (PlainNode Key Item)) (children : List Handle) (i : ℕ) (d parent : Handle) → i < length children → HasAdopted old mid (take i children) parent → IsChanged mid new (slice_index_or children i d) (under parent) → new.places ≡ mid.places → HasAdopted old new (take (i + 1) children) parent
  adopted_next old mid new children i d parent lt before changed places = rw (take_one children i (slice_index_or children i d) (get_some children i d lt)) (adopted_one old mid new (take i children) (slice_index_or children i d) parent before changed places)

  pub put_over : (old mid new : Slots (PlainNode Key Item)) (node : PlainNode Key Item) (children : List Handle) (at : Handle) → IsGiven old mid at node → HasAdopted mid new children at → IsPutOver old new node children at
  put_over old mid new node children at given adopted =
      record {
        fresh = given.had_no_value;
        here = λ not. adopted.others at not ∙ given.has_value;
        here_under = λ has. adopted.adopted at has ∙ ap (option_map (under at)) given.has_value;
        adopted = λ h apart has. adopted.adopted h has ∙ ap (option_map (under at)) (given.other_values h apart);
        others = λ h apart not. adopted.others h not ∙ given.other_values h apart;
      }

  pub put_more : (old mid new : Slots (PlainNode Key Item)) (children : List Handle) (at : Handle) → CountsGiven old mid at → HasAdopted mid new children at → MoreTaken old new 1
  put_more old mid new children at counts adopted =
      let taken = counts.taken in
      let slots = counts.slots in
      let next = counts.next_slot in
      let same = adopted.counts.taken in
      let as_many = adopted.counts.slots in
      record { taken = omega (arith, taken, same); slots_kept = omega (arith, slots, as_many); slots_most = omega (arith, slots, as_many, next) }
