-- A list of changes has one judgement, and denials are founded.
use Rattle.std.proofs.Common.{◌≡◌, ℕ, ◌+◌, ◌==◌, Bool, true, false, if◌then◌else◌, List, [], ◌∷◌, Option, None, Some, MatchOption, refl, sym, ap, subst, ◌∙◌}
use Rattle.std.specs.Option.{option_or}
use Rattle.features.specs.declared.actors.Subject.{Subject}
use Rattle.features.specs.declared.rows.Change.{Change}
use Rattle.features.specs.declared.rows.Change.TheVariants.{Add, Reshape, Delete}
use Rattle.features.specs.declared.rows.Feature.{Feature}
use Rattle.features.specs.Changes.{change_id}
use Rattle.features.specs.Rows.{feature_with}
use Rattle.policy_documents.specs.Documents.{DocumentData}
use Rattle.combining.specs.declared.questions.Question.{Question}
use Rattle.decision.specs.declared.rulings.Ruling.{Ruling}
use Rattle.decision.specs.declared.rulings.Ruling.TheVariants.{Permit, DeniedBy, NoneApplied}
use Rattle.decision.specs.Rulings.{Rules}
use Rattle.decision.proofs.RulingLemmas.{Rules-one}
use Rattle.judging.specs.declared.causes.Cause.TheVariants.{Stale}
use Rattle.judging.specs.declared.causes.Objection.{Objection}
use Rattle.judging.specs.declared.causes.Judgement.{Judgement}
use Rattle.judging.specs.Judging.{denial, DenialOf, in_use, stale, refused_for, Objects, JudgedFrom, IsFounded, IsFoundedJudgement}

-- a question has one denial, or none
DenialOf-one : (document : DocumentData) (question : Question) (a b : Option Objection) → DenialOf document question a → DenialOf document question b → a ≡ b
DenialOf-one document question a b first second =
    first.2 ∙ ap (denial question) (Rules-one document question first.0 second.0 first.1 second.1) ∙ sym second.2

-- a change has one first objection
pub Objects-one : (document : DocumentData) (subject : Subject) (change : Change) (present : Option Feature) (a b : Option Objection) → Objects document subject change present a → Objects document subject change present b → a ≡ b
Objects-one document subject (Add id class shape) present a b first second =
    first.2 ∙ ap (λ (denied : Option Objection). option_or denied (in_use present)) (DenialOf-one document _ first.0 second.0 first.1 second.1) ∙ sym second.2
Objects-one document subject (Reshape id seen shape) None a b first second = first ∙ sym second
Objects-one document subject (Reshape id seen shape) (Some feature) a b first second =
    first.4
    ∙ ap (λ (denied : Option Objection). option_or denied (option_or first.1 (stale seen feature))) (DenialOf-one document _ first.0 second.0 first.2 second.2)
    ∙ ap (λ (denied : Option Objection). option_or second.0 (option_or denied (stale seen feature))) (DenialOf-one document _ first.1 second.1 first.3 second.3)
    ∙ sym second.4
Objects-one document subject (Delete id seen) None a b first second = first ∙ sym second
Objects-one document subject (Delete id seen) (Some feature) a b first second =
    first.2 ∙ ap (λ (denied : Option Objection). option_or denied (stale seen feature)) (DenialOf-one document _ first.0 second.0 first.1 second.1) ∙ sym second.2

same_end : {P Q : Type 0} (number : ℕ) (a b : Judgement) → (P → Q → a ≡ b) → (o p : Option Objection) → o ≡ p
    → MatchOption o P (λ x. a ≡ refused_for number x) → MatchOption p Q (λ x. b ≡ refused_for number x) → a ≡ b
same_end number a b next None None e h k = next h k
same_end number a b next None (Some y) e h k = absurd cc
same_end number a b next (Some x) None e h k = absurd cc
same_end number a b next (Some x) (Some y) e h k = let same : x ≡ y = cc in h ∙ ap (refused_for number) same ∙ sym k

-- a list of changes has one judgement
pub JudgedFrom-one : (number : ℕ) (document : DocumentData) (features : List Feature) (subject : Subject) (changes : List Change) (a b : Judgement)
    → JudgedFrom number document features subject changes a → JudgedFrom number document features subject changes b → a ≡ b
JudgedFrom-one number document features subject [] a b first second = first ∙ sym second
JudgedFrom-one number document features subject (change ∷ changes) a b first second =
    same_end number a b (λ h k. JudgedFrom-one (number + 1) document features subject changes a b h k) first.0 second.0
    (Objects-one document subject change (feature_with (change_id change) features) first.0 second.0 first.1 second.1) first.2 second.2

-- an objection that is a denial has a question that the document denies
abbrev pub IsFoundedObjection : DocumentData → Option Objection → Type 0
IsFoundedObjection document None = Unit {0}
IsFoundedObjection document (Some o) = IsFounded document o.cause o.question

denial_founded : (document : DocumentData) (question : Question) (ruling : Ruling) → Rules document question ruling → IsFoundedObjection document (denial question ruling)
denial_founded document question (Permit rule) rules = tt
denial_founded document question (DeniedBy rule) rules = rules
denial_founded document question NoneApplied rules = rules

DenialOf_founded : (document : DocumentData) (question : Question) (o : Option Objection) → DenialOf document question o → IsFoundedObjection document o
DenialOf_founded document question o h = subst (IsFoundedObjection document) (sym h.2) (denial_founded document question h.0 h.1)

option_or_founded : (document : DocumentData) (first later : Option Objection) → IsFoundedObjection document first → IsFoundedObjection document later → IsFoundedObjection document (option_or first later)
option_or_founded document None later h k = k
option_or_founded document (Some o) later h k = h

in_use_founded : (document : DocumentData) (present : Option Feature) → IsFoundedObjection document (in_use present)
in_use_founded document None = tt
in_use_founded document (Some feature) = refl

stale_founded : (document : DocumentData) (seen : ℕ) (feature : Feature) → IsFoundedObjection document (stale seen feature)
stale_founded document seen feature = go (seen == feature.version)
  where
    go : (b : Bool) → IsFoundedObjection document (if b then None else Some (record { cause = Stale feature.version; question = None }))
    go true = tt
    go false = refl

pub Objects_founded : (document : DocumentData) (subject : Subject) (change : Change) (present : Option Feature) (o : Option Objection) → Objects document subject change present o → IsFoundedObjection document o
Objects_founded document subject (Add id class shape) present o h =
    subst (IsFoundedObjection document) (sym h.2) (option_or_founded document h.0 _ (DenialOf_founded document _ h.0 h.1) (in_use_founded document present))
Objects_founded document subject (Reshape id seen shape) None o h = subst (IsFoundedObjection document) (sym h) refl
Objects_founded document subject (Reshape id seen shape) (Some feature) o h =
    subst (IsFoundedObjection document) (sym h.4)
    (option_or_founded document h.0 _ (DenialOf_founded document _ h.0 h.2)
    (option_or_founded document h.1 _ (DenialOf_founded document _ h.1 h.3) (stale_founded document seen feature)))
Objects_founded document subject (Delete id seen) None o h = subst (IsFoundedObjection document) (sym h) refl
Objects_founded document subject (Delete id seen) (Some feature) o h =
    subst (IsFoundedObjection document) (sym h.2) (option_or_founded document h.0 _ (DenialOf_founded document _ h.0 h.1) (stale_founded document seen feature))

founded_end : {P : Type 0} (document : DocumentData) (number : ℕ) (judgement : Judgement) → (P → IsFoundedJudgement document judgement) → (o : Option Objection)
    → IsFoundedObjection document o → MatchOption o P (λ x. judgement ≡ refused_for number x) → IsFoundedJudgement document judgement
founded_end document number judgement next None founded h = next h
founded_end document number judgement next (Some o) founded h = subst (IsFoundedJudgement document) (sym h) founded

-- a denial comes with a question that the document denies
pub JudgedFrom_founded : (number : ℕ) (document : DocumentData) (features : List Feature) (subject : Subject) (changes : List Change) (judgement : Judgement)
    → JudgedFrom number document features subject changes judgement → IsFoundedJudgement document judgement
JudgedFrom_founded number document features subject [] judgement h = subst (IsFoundedJudgement document) (sym h) tt
JudgedFrom_founded number document features subject (change ∷ changes) judgement h =
    founded_end document number judgement (λ k. JudgedFrom_founded (number + 1) document features subject changes judgement k) h.0
    (Objects_founded document subject change (feature_with (change_id change) features) h.0 h.1) h.2
