-- The reply to a question that a view has explained.
use Rattle.std.proofs.Common.{◌≡◌, ℕ, List, Option, Some, None, refl, ap, ◌∙◌}
use Rattle.decision.specs.Deciders.{DeciderData}
use Rattle.decision.specs.declared.rulings.Ruling.{Ruling}
use Rattle.decision.specs.declared.rulings.Ruling.TheVariants.{Permit, DeniedBy, NoneApplied}
use Rattle.published_policies.specs.Explaining.{name_of_rule, rule_in}
use Rattle.session_lines.specs.Replies.{ruling_reply}
use Rattle.hall_sessions.specs.Replies.{ruled}

same_ruling : (decider : DeciderData) (ruling : Ruling) → ruled ruling (name_of_rule decider (rule_in ruling)) decider.edition ≡ ruling_reply decider ruling
same_ruling decider (Permit None) = refl
same_ruling decider (Permit (Some rule)) = refl
same_ruling decider (DeniedBy rule) = refl
same_ruling decider NoneApplied = refl

-- what a view has explained is answered as a world answers it
pub said_so : (decider : DeciderData) (ruling : Ruling) (rule : Option (List ℕ)) (edition : ℕ) → edition ≡ decider.edition → rule ≡ name_of_rule decider (rule_in ruling)
    → ruled ruling rule edition ≡ ruling_reply decider ruling
said_so decider ruling rule edition e named = ap (λ (n : ℕ). ruled ruling rule n) e ∙ ap (λ (r : Option (List ℕ)). ruled ruling r decider.edition) named ∙ same_ruling decider ruling
