-- An accepted list can be applied.
use Rattle.std.proofs.Common.{◌≡◌, ◌≢◌, ℕ, ◌+◌, List, [], ◌∷◌, ◌++◌, Option, None, Some, IsSome, MatchOption, refl, sym}
use Rattle.std.specs.Option.{option_or}
use Rattle.features.specs.declared.actors.Subject.{Subject}
use Rattle.features.specs.declared.rows.Change.{Change}
use Rattle.features.specs.declared.rows.Change.TheVariants.{Add, Reshape, Delete}
use Rattle.features.specs.declared.rows.Feature.{Feature}
use Rattle.features.specs.Changes.{change_id, IsUnnamed, CanChange, CanApply}
use Rattle.features.specs.Rows.{feature_with}
use Rattle.policy_documents.specs.Documents.{DocumentData}
use Rattle.judging.specs.declared.causes.Objection.{Objection}
use Rattle.judging.specs.declared.causes.Judgement.TheVariants.{Accepted}
use Rattle.judging.specs.Judging.{in_use, refused_for, Objects, JudgedFrom, AreDistinct}

nothing_later : (first later : Option Objection) → None ≡ option_or first later → later ≡ None
nothing_later None later e = sym e
nothing_later (Some o) later e = absurd cc

not_in_use : (present : Option Feature) → in_use present ≡ None → present ≡ None
not_in_use None e = refl
not_in_use (Some feature) e = absurd cc

-- a change without an objection can be made
can_change : (document : DocumentData) (features : List Feature) (subject : Subject) (change : Change) → Objects document subject change (feature_with (change_id change) features) None → CanChange change features
can_change document features subject (Add id class shape) h = not_in_use (feature_with id features) (nothing_later h.0 (in_use (feature_with id features)) h.2)
can_change document features subject (Reshape id seen shape) h = there (feature_with id features) h
  where
    there : (present : Option Feature) → Objects document subject (Reshape id seen shape) present None → IsSome present
    there None e = absurd cc
    there (Some feature) k = refl
can_change document features subject (Delete id seen) h = there (feature_with id features) h
  where
    there : (present : Option Feature) → Objects document subject (Delete id seen) present None → IsSome present
    there None e = absurd cc
    there (Some feature) k = refl

accepted_next : {P : Type 0} (number : ℕ) (o : Option Objection) → MatchOption o P (λ x. Accepted ≡ refused_for number x) → (o ≡ None) × P
accepted_next number None h = (refl, h)
accepted_next number (Some o) h = absurd cc

can_apply_from : (number : ℕ) (document : DocumentData) (features : List Feature) (subject : Subject) (changes : List Change) → AreDistinct changes → JudgedFrom number document features subject changes Accepted → CanApply changes features
can_apply_from number document features subject [] distinct h = tt
can_apply_from number document features subject (change ∷ changes) distinct h =
    let next = accepted_next number h.0 h.2 in
    (can_change document features subject change (rw next.0 at h.1), distinct.0, can_apply_from (number + 1) document features subject changes distinct.1 next.1)

-- an accepted list can be applied
pub can_apply : (document : DocumentData) (features : List Feature) (subject : Subject) (changes : List Change) → AreDistinct changes → JudgedFrom 1 document features subject changes Accepted → CanApply changes features
can_apply document features subject changes = can_apply_from 1 document features subject changes

unnamed_push : (id : ℕ) (changes : List Change) (change : Change) → IsUnnamed id changes → change_id change ≢ id → IsUnnamed id (changes ++ change ∷ [])
unnamed_push id [] change unnamed other = (other, tt)
unnamed_push id (first ∷ changes) change unnamed other = (unnamed.0, unnamed_push id changes change unnamed.1 other)

-- distinct changes stay distinct when a change of another feature is appended
pub distinct_push : (changes : List Change) (change : Change) → AreDistinct changes → IsUnnamed (change_id change) changes → AreDistinct (changes ++ change ∷ [])
distinct_push [] change distinct unnamed = (tt, tt)
distinct_push (first ∷ changes) change distinct unnamed =
    (unnamed_push (change_id first) changes change distinct.0 (λ e. unnamed.0 (sym e)), distinct_push changes change distinct.1 unnamed.1)
