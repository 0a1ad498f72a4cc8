-- The published list and the receipt after a document was put in force.
use Rattle.std.proofs.Common.{◌≡◌, ◌<◌, ◌+◌, ◌∷◌, ◌++◌, [], ℕ, List, None, Some, ap, arith, refl, sym, ◌∙◌}
use Rattle.std.specs.List.{last_or}
use Rattle.features.specs.declared.actors.Subject.{Subject}
use Rattle.features.specs.declared.rows.Change.{Change}
use Rattle.policy_documents.specs.Documents.{DocumentData}
use Rattle.decision.specs.Deciders.{DeciderData}
use Rattle.audit_trail.specs.Legal.{after_deed}
use Rattle.audit_trail.specs.Records.{RecordData, governed}
use Rattle.judging.specs.States.{PlainState}
use Rattle.plain_world.specs.Laws.{deed_of}
use Rattle.plain_world.specs.declared.outcomes.Outcome.{Outcome}
use Rattle.plain_world.specs.declared.outcomes.Outcome.TheVariants as outcomes
use Rattle.published_policies.specs.Lists.{IsPublished, edition_of, last_edition}
use Rattle.published_policies.proofs.ListLemmas.{editions_counted, last_push}
use Rattle.hall.specs.Calls.{put_in_force}

-- a published list grows by the decider of a document that was put in force
pub record GoesOn (asked : DocumentData) (before : List DeciderData) (decider : DeciderData) (grown : List DeciderData) : Type 0 where
  pub document : decider.document ≡ asked
  pub list : grown ≡ before ++ decider ∷ []

module _ (asked : DocumentData) (before : List DeciderData) (decider : DeciderData) (grown : List DeciderData) (on : GoesOn asked before decider grown) where
  pub ends : last_or None grown ≡ Some decider
  ends = ap (last_or None) on.list ∙ last_push None before decider

  -- the decider is known by its document and the last edition of the list
  so : decider ≡ put_in_force asked grown
  so = λ i. record { document = on.document i; edition = sym (ap edition_of ends) i }

  pub ends_so : last_or None grown ≡ Some (put_in_force asked grown)
  ends_so = ends ∙ ap (λ (d : DeciderData). Some d) so

  pub told_so : (seat : ℕ)
      → (let e : RecordData = record { seat = seat; deed = governed decider.edition decider } in e)
      ≡ (let e : RecordData = record { seat = seat; deed = governed (last_edition grown) (put_in_force asked grown) } in e)
  told_so seat = ap (λ (d : DeciderData). let e : RecordData = record { seat = seat; deed = governed d.edition d } in e) so

-- the decider for the next edition is the next of a list that ends with the decider in force
pub next_published : (list : List DeciderData) (last : DeciderData) (edition : ℕ) → last_or None list ≡ Some last → edition ≡ last.edition + 1 → edition ≡ last_edition list + 1
next_published list last edition ends next = next ∙ sym (ap (λ o. edition_of o + 1) ends)

-- a list that is committed leaves the policy in force
pub decider_stays : (state : PlainState) (subject : Subject) (changes : List Change) (outcome : Outcome) → (after_deed (deed_of subject changes outcome) state).decider ≡ state.decider
decider_stays state subject changes (outcomes.Applied version) = refl
decider_stays state subject changes (outcomes.Refused refusal denial) = refl

-- the edition in force is not 0
pub counts_from_one : (list : List DeciderData) (last : DeciderData) → IsPublished list → last_or None list ≡ Some last → 0 < last.edition
counts_from_one list last published ends =
    omega (arith, editions_counted list published.editions, published.not_empty, ap edition_of ends)
