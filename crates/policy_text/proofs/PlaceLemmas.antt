-- Comparing paths: the result of the derived test, and that `==` is exact.
use Rattle.std.proofs.Common.{◌≡◌, ◌↔◌, Bool, List, refl, ◌∙◌, IsTrue}
use Rattle.std.proofs.lemmas.Bool.Decides.{Decides-at}
use Rattle.std.specs.Cmp.Lexicographic.{pointwise}
use Rattle.policy_text.specs.Places.{same_key, same_part, same_path, same_path_decides}
use Rattle.policy_text.specs.contracts.paths.MemberNamePartialEq.TheImpl as keying
use Rattle.policy_text.specs.contracts.paths.PathPartPartialEq.TheImpl as stepping
use Rattle.policy_text.specs.declared.paths.MemberName.{MemberName}
use Rattle.policy_text.specs.declared.paths.MemberName.TheVariants as member_names
use Rattle.policy_text.specs.declared.paths.PathPart.{PathPart}
use Rattle.policy_text.specs.declared.paths.PathPart.TheVariants as path_parts

same_key_derived : (a b : MemberName) → keying.eq-value.it a b ≡ same_key a b
same_key_derived member_names.Zones member_names.Zones = refl
same_key_derived member_names.Root member_names.Root = refl
same_key_derived member_names.Zone member_names.Zone = refl
same_key_derived member_names.Shape member_names.Shape = refl
same_key_derived member_names.Set member_names.Set = refl
same_key_derived member_names.Policy member_names.Policy = refl
same_key_derived member_names.Combine member_names.Combine = refl
same_key_derived member_names.Target member_names.Target = refl
same_key_derived member_names.Of member_names.Of = refl
same_key_derived member_names.Rules member_names.Rules = refl
same_key_derived member_names.Rule member_names.Rule = refl
same_key_derived member_names.Effect member_names.Effect = refl
same_key_derived member_names.When member_names.When = refl
same_key_derived member_names.Role member_names.Role = refl
same_key_derived member_names.Office member_names.Office = refl
same_key_derived member_names.Class member_names.Class = refl
same_key_derived member_names.Owner member_names.Owner = refl
same_key_derived member_names.Action member_names.Action = refl
same_key_derived member_names.Own member_names.Own = refl
same_key_derived member_names.Not member_names.Not = refl
same_key_derived a b = refl

same_part_derived : (a b : PathPart) → stepping.eq-value.it a b ≡ same_part a b
same_part_derived (path_parts.Member a) (path_parts.Member b) = same_key_derived a b
same_part_derived (path_parts.Item a) (path_parts.Item b) = refl
same_part_derived a b = refl

pub same_path_derived : (a b p q : List PathPart) → p ≡ a → q ≡ b → pointwise stepping.eq-value.it p q ≡ same_path a b
same_path_derived a b p q h k = λ i. pointwise (λ x y. same_part_derived x y i) (h i) (k i)

pub exact_path : (r : Bool) (a b p q : List PathPart) → r ≡ pointwise stepping.eq-value.it p q → p ≡ a → q ≡ b → IsTrue r ↔ (a ≡ b)
exact_path r a b p q e h k = Decides-at r (same_path a b) (e ∙ same_path_derived a b p q h k) (same_path_decides a b)
