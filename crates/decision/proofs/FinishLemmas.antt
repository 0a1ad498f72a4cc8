-- Once a node is finished, the children after it change nothing.
use Rattle.std.proofs.Common.{◌≡◌, ℕ, Bool, true, false, ◌&&◌, List, refl, ap, ◌∙◌, Option, Some, None, is_some, cond, if◌then◌else◌}
use Rattle.std.proofs.lemmas.Bool.{false≢true}
use Rattle.policy_documents.specs.declared.algorithms.Algorithm.{Algorithm}
use Rattle.policy_documents.specs.declared.algorithms.Algorithm.TheVariants.{DenyOverrides, PermitOverrides, DenyUnlessPermit, PermitUnlessDeny, FirstApplicable}
use Rattle.combining.specs.declared.questions.Question.{Question}
use Rattle.combining.specs.declared.decisions.Decision.{Decision}
use Rattle.combining.specs.declared.decisions.Decision.TheVariants.{Permit, Deny, NotApplicable}
use Rattle.combining.specs.declared.decisions.Verdict.{Verdict}
use Rattle.combining.specs.declared.gathering.Gathered.{Gathered}
use Rattle.combining.specs.Holding.{target_holds}
use Rattle.combining.specs.Gathering.{with_verdict, settled_verdict, nothing_gathered}
use Rattle.combining.specs.Finishing.{is_finished}
use Rattle.decision.specs.Plans.{Branches, no_branches, leaf, fork, gathered_from, leaf_verdict, not_applicable}

abbrev pub gathered : Bool → Bool → Decision → Bool → Option ℕ → Option ℕ → Gathered
gathered p d f c permitting denying = record { tally = record { permits = p; denies = d; first = f }; counts = c; permitting = permitting; denying = denying }

-- one more child leaves it finished, with the same verdict
abbrev Stays : Algorithm → Gathered → Verdict → Type 0
Stays a g v = (is_finished a (with_verdict a g v) ≡ true) × (settled_verdict a (with_verdict a g v) ≡ settled_verdict a g)

same_choice : {X : Type 0} (b : Bool) (x : X) → cond b x x ≡ x
same_choice true x = refl
same_choice false x = refl

unfoldable pub verdict : Decision → Option ℕ → Verdict
verdict d r = record { decision = d; rule = r }

module _ (p d : Bool) (f : Decision) (c : Bool) (permitting denying : Option ℕ) (v : Verdict) where
  pub by_denial : (denies : Bool) (denying : Option ℕ) → (denies && is_some denying) ≡ true →
      Stays DenyOverrides (gathered p denies f c permitting denying) v × Stays PermitUnlessDeny (gathered p denies f c permitting denying) v
  unfolding verdict
  by_denial true (Some n) e =
      ((ap is_some (same_choice _ (Some n)), ap (verdict Deny) (same_choice _ (Some n))), (ap is_some (same_choice _ (Some n)), ap (verdict Deny) (same_choice _ (Some n))))
  by_denial true None e = absurd (false≢true e)
  by_denial false denying e = absurd (false≢true e)

  pub by_permit : (permits : Bool) (permitting : Option ℕ) → (permits && is_some permitting) ≡ true →
      Stays PermitOverrides (gathered permits d f c permitting denying) v × Stays DenyUnlessPermit (gathered permits d f c permitting denying) v
  unfolding verdict
  by_permit true (Some n) e =
      ((ap is_some (same_choice _ (Some n)), ap (verdict Permit) (same_choice _ (Some n))), (ap is_some (same_choice _ (Some n)), ap (verdict Permit) (same_choice _ (Some n))))
  by_permit true None e = absurd (false≢true e)
  by_permit false permitting e = absurd (false≢true e)

  pub by_first : (counts : Bool) (first : Decision) → is_finished FirstApplicable (gathered p d first counts permitting denying) ≡ true →
      Stays FirstApplicable (gathered p d first counts permitting denying) v
  by_first true first e = absurd (false≢true e)
  by_first false NotApplicable e = absurd (false≢true e)
  by_first false Permit e = (refl, refl)
  by_first false Deny e = (refl, refl)

pub finished-stays : (a : Algorithm) (g : Gathered) (v : Verdict) → is_finished a g ≡ true → Stays a g v
finished-stays DenyOverrides g v e = (by_denial g.tally.permits g.tally.denies g.tally.first g.counts g.permitting g.denying v g.tally.denies g.denying e).0
finished-stays PermitUnlessDeny g v e = (by_denial g.tally.permits g.tally.denies g.tally.first g.counts g.permitting g.denying v g.tally.denies g.denying e).1
finished-stays PermitOverrides g v e = (by_permit g.tally.permits g.tally.denies g.tally.first g.counts g.permitting g.denying v g.tally.permits g.permitting e).0
finished-stays DenyUnlessPermit g v e = (by_permit g.tally.permits g.tally.denies g.tally.first g.counts g.permitting g.denying v g.tally.permits g.permitting e).1
finished-stays FirstApplicable g v e = by_first g.tally.permits g.tally.denies g.tally.first g.counts g.permitting g.denying v g.counts g.tally.first e

-- nor do any branches after it
pub finished-settled : (q : Question) (met : List (List ℕ)) (a : Algorithm) (g : Gathered) (row : Branches) → is_finished a g ≡ true →
    settled_verdict a (gathered_from q met a g row) ≡ settled_verdict a g
finished-settled q met a g no_branches e = refl
finished-settled q met a g (leaf number effect target when others) e =
    let v = leaf_verdict q met number effect target when in
    let stays = finished-stays a g v e in
    finished-settled q met a (with_verdict a g (leaf_verdict q met number effect target when)) others stays.0 ∙ stays.1
finished-settled q met a g (fork combine target below others) e =
    let v = if target_holds q met target then settled_verdict combine (gathered_from q met combine nothing_gathered below) else not_applicable in
    let stays = finished-stays a g v e in
    finished-settled q met a (with_verdict a g (if target_holds q met target then settled_verdict combine (gathered_from q met combine nothing_gathered below) else not_applicable)) others stays.0 ∙ stays.1
