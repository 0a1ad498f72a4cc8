-- When a match, an atom, a target or a rule holds for a question. `Meet` is a statement of
-- geometry, no Boolean test, so these tests take the names of the zones that the question's shape
-- meets; `AreMet` says which these are.
use Rattle.std.specs.Prelude.{ℕ, Bool, not, ◌&&◌, List, [], ◌∷◌}
use Rattle.std.specs.List.{list_all, list_any}
use Rattle.plane.specs.Rows.{Meet}
use Rattle.plane.specs.declared.point.Point.{Point}
use Rattle.features.specs.Equality.{same_name}
use Rattle.policy_documents.specs.Documents.{RuleData}
use Rattle.policy_documents.specs.Equality.{same_action}
use Rattle.policy_documents.specs.declared.matches.Match.{Match}
use Rattle.policy_documents.specs.declared.matches.Match.TheVariants as matches
use Rattle.policy_documents.specs.declared.matches.Term.{Term}
use Rattle.policy_documents.specs.declared.matches.Term.TheVariants as terms
use Rattle.policy_documents.specs.declared.matches.Atom.{Atom}
use Rattle.policy_documents.specs.declared.matches.Atom.TheVariants as atoms
use Rattle.policy_documents.specs.declared.zones.Zone.{Zone}
use Rattle.combining.specs.declared.questions.Question.{Question}

-- the names of the zones that the shape meets, in the order of the zones
pub data AreMet (shape : List Point) : List Zone → List (List ℕ) → Type 0 where
  none : AreMet shape [] []
  meets : (zone : Zone) → {zones : List Zone} → {names : List (List ℕ)} → Meet shape zone.shape
      → AreMet shape zones names → AreMet shape (zone ∷ zones) (zone.name ∷ names)
  apart : (zone : Zone) → {zones : List Zone} → {names : List (List ℕ)}
      → (Meet shape zone.shape → ⊥) → AreMet shape zones names → AreMet shape (zone ∷ zones) names

-- role and office are the subject's, owner and class the question's
abbrev pub match_holds : Question → List (List ℕ) → Match → Bool
match_holds q met (matches.Role name) = same_name q.subject.role name
match_holds q met (matches.Office name) = same_name q.subject.office name
match_holds q met (matches.Class name) = same_name q.class name
match_holds q met (matches.Owner name) = same_name q.owner name
match_holds q met (matches.Zone name) = list_any (same_name name) met
match_holds q met (matches.Action action) = same_action q.action action

abbrev pub term_holds : Question → List (List ℕ) → Term → Bool
term_holds q met (terms.Match m) = match_holds q met m
term_holds q met terms.Own = same_name q.owner q.subject.office

abbrev pub atom_holds : Question → List (List ℕ) → Atom → Bool
atom_holds q met (atoms.Is term) = term_holds q met term
atom_holds q met (atoms.Not term) = not (term_holds q met term)

-- each part of a target has an alternative whose matches all hold
abbrev pub target_holds : Question → List (List ℕ) → List (List (List Match)) → Bool
target_holds q met target = list_all (list_any (list_all (match_holds q met))) target

abbrev pub rule_applies : Question → List (List ℕ) → RuleData → Bool
rule_applies q met rule = target_holds q met rule.target && list_all (atom_holds q met) rule.when
