-- What is known of a question before it is asked, and how that reduces a test.
use Rattle.std.specs.Prelude.{◌≡◌, ℕ, Bool, true, false, not, List, Option, None, Some, option_map}
use Rattle.std.specs.List.{list_all, list_any}
use Rattle.policy_documents.specs.declared.matches.Match.{Match}
use Rattle.policy_documents.specs.declared.matches.Atom.{Atom}
use Rattle.policy_documents.specs.declared.matches.Match.TheVariants as matches
use Rattle.policy_documents.specs.declared.matches.Term.TheVariants as terms
use Rattle.policy_documents.specs.declared.matches.Atom.TheVariants as atoms
use Rattle.features.specs.Equality.{same_name}
use Rattle.features.specs.declared.actors.Action.{Action}
use Rattle.features.specs.declared.actors.Subject.{Subject}
use Rattle.policy_documents.specs.Equality.{same_action}
use Rattle.combining.specs.declared.questions.Question.{Question}
use Rattle.decision.specs.declared.known.Known.{Known}
use Rattle.decision.specs.declared.known.Known.TheVariants.{Nothing, Asked, Feature}
use Rattle.decision.specs.declared.known.Standpoint.{Standpoint}
use Rattle.decision.specs.declared.known.Kept.{Kept}
use Rattle.decision.specs.declared.known.Kept.TheVariants.{Always, Never, Asks}
use Rattle.combining.specs.Holding.{match_holds, atom_holds}

-- a subject who asks for this has this standpoint
pub record StandsBy (at : Standpoint) (who : Subject) (asked : Action) : Type 0 where
  pub office : who.office ≡ at.office
  pub role : who.role ≡ at.role
  pub action : asked ≡ at.action

-- what is known is true of this question
abbrev pub Fits : Known → Question → Type 0
Fits Nothing q = Unit {0}
Fits (Asked subject action) q = (q.subject ≡ subject) × (q.action ≡ action)
Fits (Feature standpoint owner class) q =
    StandsBy standpoint q.subject q.action × (q.owner ≡ owner) × (q.class ≡ class)

-- whether a match holds, if that is known: role and office are the subject's
abbrev pub told_match : Known → Match → Option Bool
told_match Nothing m = None
told_match (Asked subject action) (matches.Role name) = Some (same_name subject.role name)
told_match (Asked subject action) (matches.Office name) = Some (same_name subject.office name)
told_match (Asked subject action) (matches.Class name) = None
told_match (Asked subject action) (matches.Owner name) = None
told_match (Asked subject action) (matches.Zone name) = None
told_match (Asked subject action) (matches.Action wanted) = Some (same_action action wanted)
told_match (Feature at owner class) (matches.Role name) = Some (same_name at.role name)
told_match (Feature at owner class) (matches.Office name) = Some (same_name at.office name)
told_match (Feature at owner class) (matches.Class name) = Some (same_name class name)
told_match (Feature at owner class) (matches.Owner name) = Some (same_name owner name)
told_match (Feature at owner class) (matches.Zone name) = None
told_match (Feature at owner class) (matches.Action wanted) = Some (same_action at.action wanted)

-- whether the feature is of the subject's own office, if that is known
abbrev pub told_own : Known → Option Bool
told_own Nothing = None
told_own (Asked subject action) = None
told_own (Feature at owner class) = Some (same_name owner at.office)

-- the same of a condition
abbrev pub told_atom : Known → Atom → Option Bool
told_atom known (atoms.Is (terms.Match m)) = told_match known m
told_atom known (atoms.Not (terms.Match m)) = option_map not (told_match known m)
told_atom known (atoms.Is terms.Own) = told_own known
told_atom known (atoms.Not terms.Own) = option_map not (told_own known)

-- a test of something, for a question whose shape meets the zones of these names
abbrev pub Test : Type 0 → Type 0
Test X = Question → List (List ℕ) → X → Bool

abbrev pub all_hold : Test (List Match)
all_hold q met matches = list_all (match_holds q met) matches

abbrev pub some_hold : Test (List (List Match))
some_hold q met part = list_any (list_all (match_holds q met)) part

abbrev pub conditions_hold : Test (List Atom)
conditions_hold q met when = list_all (atom_holds q met) when

-- the reduced test agrees with x for each question that fits
abbrev pub KeepsTest : {X : Type 0} → Known → Test X → X → Kept X → Type 0
KeepsTest known test x Always =
    (q : Question) (met : List (List ℕ)) → Fits known q → test q met x ≡ true
KeepsTest known test x Never =
    (q : Question) (met : List (List ℕ)) → Fits known q → test q met x ≡ false
KeepsTest known test x (Asks left) =
    (q : Question) (met : List (List ℕ)) → Fits known q → test q met x ≡ test q met left

-- the same, with an empty test in place of one that always holds
abbrev pub LeavesTest : {X : Type 0} → Known → Test X → X → Option X → Type 0
LeavesTest known test x None =
    (q : Question) (met : List (List ℕ)) → Fits known q → test q met x ≡ false
LeavesTest known test x (Some left) =
    (q : Question) (met : List (List ℕ)) → Fits known q → test q met x ≡ test q met left
