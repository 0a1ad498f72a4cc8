-- Comparing the parts of documents: the results of the derived tests, and that `==` is exact.
use Rattle.std.proofs.Common.{◌≡◌, ◌↔◌, ℕ, ◌+◌, ◌<◌, Bool, true, false, not, ◌&&◌, List, length, slice_get, Option, refl, sym, ap, ◌∙◌, IsTrue}
use Rattle.std.proofs.lemmas.Bool.Decides.{Decides-at}
use Rattle.std.specs.Cmp.Lexicographic.{pointwise, pointwise_decides}
use Rattle.std.specs.Option.{option_eq}
use Rattle.features.specs.Equality.{same_name}
use Rattle.plane.specs.Equality.{same_shape}
use Rattle.plane.specs.Points.{is_same}
use Rattle.policy_documents.proofs.RowLemmas.{same_from, same_from-more_at, same_from-other_at}
use Rattle.policy_documents.specs.Equality.{same_action, same_match, same_term, same_match_decides, same_target, same_atom, same_atom_decides, same_conditions, same_rule, same_rule_decides, same_node, same_node_decides, same_zone, same_zones, same_document, same_document_decides}
use Rattle.features.specs.contracts.actors.ActionPartialEq.TheImpl as acting
use Rattle.features.specs.declared.actors.Action.{Action}
use Rattle.features.specs.declared.actors.Action.TheVariants as actions
use Rattle.policy_documents.specs.contracts.matches.MatchPartialEq.TheImpl as matching
use Rattle.policy_documents.specs.contracts.matches.TermPartialEq.TheImpl as naming
use Rattle.policy_documents.specs.contracts.matches.AtomPartialEq.TheImpl as testing
use Rattle.policy_documents.specs.Documents.{RuleData, NodeData, DocumentData}
use Rattle.plane.specs.contracts.point.PointPartialEq.TheImpl as pointing
use Rattle.plane.specs.contracts.shape.ShapePartialEq.TheImpl as shaping
use Rattle.plane.specs.declared.point.Point.{Point}
use Rattle.policy_documents.specs.contracts.zones.ZonePartialEq.TheImpl as zoning
use Rattle.policy_documents.specs.declared.zones.Zone.{Zone}
use Rattle.policy_documents.specs.declared.matches.Match.{Match}
use Rattle.policy_documents.specs.declared.matches.Match.TheVariants as matches
use Rattle.policy_documents.specs.declared.matches.Term.{Term}
use Rattle.policy_documents.specs.declared.matches.Atom.{Atom}
use Rattle.policy_documents.specs.declared.matches.Atom.TheVariants as atoms
use Rattle.policy_documents.specs.declared.matches.Term.TheVariants as terms

same_action_derived : (a b : Action) → acting.eq-value.it a b ≡ same_action a b
same_action_derived actions.Read actions.Read = refl
same_action_derived actions.Add actions.Add = refl
same_action_derived actions.Reshape actions.Reshape = refl
same_action_derived actions.Delete actions.Delete = refl
same_action_derived a b = refl

pub same_match_derived : (a b : Match) → matching.eq-value.it a b ≡ same_match a b
same_match_derived (matches.Role a) (matches.Role b) = refl
same_match_derived (matches.Office a) (matches.Office b) = refl
same_match_derived (matches.Class a) (matches.Class b) = refl
same_match_derived (matches.Owner a) (matches.Owner b) = refl
same_match_derived (matches.Zone a) (matches.Zone b) = refl
same_match_derived (matches.Action a) (matches.Action b) = same_action_derived a b
same_match_derived a b = refl

same_term_derived : (a b : Term) → naming.eq-value.it a b ≡ same_term a b
same_term_derived (terms.Match a) (terms.Match b) = same_match_derived a b
same_term_derived (terms.Match a) terms.Own = refl
same_term_derived terms.Own terms.Own = refl
same_term_derived terms.Own (terms.Match b) = refl

pub same_atom_derived : (a b : Atom) → testing.eq-value.it a b ≡ same_atom a b
same_atom_derived (atoms.Is a) (atoms.Is b) = same_term_derived a b
same_atom_derived (atoms.Not a) (atoms.Not b) = same_term_derived a b
same_atom_derived (atoms.Is a) (atoms.Not b) = refl
same_atom_derived (atoms.Not a) (atoms.Is b) = refl

-- the test of lists is exact if that of their parts is
pub exact_items : {X : Type 0} (test : X → X → Bool) (r : Bool) (a b p q : List X) → r ≡ pointwise test p q → p ≡ a → q ≡ b →
    ((x y : X) → IsTrue (test x y) ↔ (x ≡ y)) → IsTrue r ↔ (a ≡ b)
exact_items test r a b p q e h k exact = Decides-at r (pointwise test a b) (e ∙ (λ i. pointwise test (h i) (k i))) (pointwise_decides exact a b)

pub exact_match : (a b : Match) → IsTrue (matching.eq-value.it a b) ↔ (a ≡ b)
exact_match a b = Decides-at (matching.eq-value.it a b) (same_match a b) (same_match_derived a b) (same_match_decides a b)

pub exact_atom : (a b : Atom) → IsTrue (testing.eq-value.it a b) ↔ (a ≡ b)
exact_atom a b = Decides-at (testing.eq-value.it a b) (same_atom a b) (same_atom_derived a b) (same_atom_decides a b)

pub same_target_derived : (a b : List (List (List Match))) → pointwise (pointwise (pointwise matching.eq-value.it)) a b ≡ same_target a b
same_target_derived a b = λ i. pointwise (pointwise (pointwise (λ x y. same_match_derived x y i))) a b

pub same_conditions_derived : (a b : List Atom) → pointwise testing.eq-value.it a b ≡ same_conditions a b
same_conditions_derived a b = λ i. pointwise (λ x y. same_atom_derived x y i) a b

pub exact_rule : (r : Bool) (a b : RuleData) → r ≡ same_rule a b → IsTrue r ↔ (a ≡ b)
exact_rule r a b e = Decides-at r (same_rule a b) e (same_rule_decides a b)

pub exact_node : (r : Bool) (a b : NodeData) → r ≡ same_node a b → IsTrue r ↔ (a ≡ b)
exact_node r a b e = Decides-at r (same_node a b) e (same_node_decides a b)

-- if the zones are equal, the documents are equal exactly if their roots are
pub exact_document_roots : (r s : Bool) (a b p q : DocumentData) → s ≡ same_zones a.zones b.zones → s ≡ true → p ≡ a → q ≡ b → r ≡ same_node p.root q.root → IsTrue r ↔ (a ≡ b)
exact_document_roots r s a b p q zones same at_a at_b told =
    Decides-at r (same_document a b) (told ∙ (λ i. same_node (at_a i).root (at_b i).root) ∙ ap (λ v. v && same_node a.root b.root) (sym same ∙ zones)) (same_document_decides a b)

pub exact_document_zones : (s : Bool) (a b : DocumentData) → s ≡ same_zones a.zones b.zones → s ≡ false → IsTrue s ↔ (a ≡ b)
exact_document_zones s a b zones other =
    Decides-at s (same_document a b) (other ∙ ap (λ v. v && same_node a.root b.root) (sym other ∙ zones)) (same_document_decides a b)

same_point_derived : (a b : Point) → pointing.eq-value.it a b ≡ is_same a b
same_point_derived a b = refl

same_shape_derived : (a b : List Point) → shaping.eq-value.it a b ≡ same_shape a b
same_shape_derived a b = refl

same_zone_derived : (a b : Zone) → zoning.eq-value.it a b ≡ same_zone a b
same_zone_derived a b = ap (λ s. same_name a.name b.name && s) (same_shape_derived a.shape b.shape)

abbrev differ : Option Zone → Option Zone → Bool
differ o p = not (option_eq zoning.eq-value.it o p)

differ-is : (o p : Option Zone) → differ o p ≡ not (option_eq same_zone o p)
differ-is o p = λ i. not (option_eq (λ a b. same_zone_derived a b i) o p)

not_back : (b c : Bool) → not b ≡ c → b ≡ not c
not_back true c e = ap not e
not_back false c e = ap not e

told_zones : (i : ℕ) (xs ys : List Zone) (o p : Option Zone) (r v : Bool) → o ≡ slice_get xs i → p ≡ slice_get ys i → r ≡ differ o p → r ≡ v →
    option_eq same_zone (slice_get xs i) (slice_get ys i) ≡ not v
told_zones i xs ys o p r v at_o at_p told is =
    not_back _ v (sym (told ∙ differ-is o p ∙ (λ j. not (option_eq same_zone (at_o j) (at_p j)))) ∙ is)

pub zones_differ : (i : ℕ) (xs ys : List Zone) (o p : Option Zone) (r : Bool) → o ≡ slice_get xs i → p ≡ slice_get ys i → r ≡ differ o p → r ≡ true →
    i < length xs → i < length ys → false ≡ same_from same_zone i xs ys
zones_differ i xs ys o p r at_o at_p told is in_xs in_ys = same_from-other_at same_zone i xs ys in_xs in_ys (told_zones i xs ys o p r true at_o at_p told is)

pub zones_more : (i : ℕ) (xs ys : List Zone) (o p : Option Zone) (r : Bool) → o ≡ slice_get xs i → p ≡ slice_get ys i → r ≡ differ o p → r ≡ false →
    i < length xs → i < length ys → same_from same_zone (i + 1) xs ys ≡ same_from same_zone i xs ys
zones_more i xs ys o p r at_o at_p told is in_xs in_ys = same_from-more_at same_zone i xs ys in_xs in_ys (told_zones i xs ys o p r false at_o at_p told is)
