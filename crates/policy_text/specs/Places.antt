-- When two paths in a document are equal: Boolean tests, and that they decide `≡`.
use Rattle.std.specs.Prelude.{◌≡◌, Bool, true, false, nat_eq, List, refl}
use Rattle.std.specs.Bool.{Decides}
use Rattle.std.specs.Cmp.{unsigned_Decides}
use Rattle.std.specs.Cmp.Lexicographic.{pointwise, pointwise_decides}
use Rattle.std.proofs.Common.{ap}
use Rattle.std.proofs.lemmas.Bool.{false≢true}
use Rattle.plane.specs.Equality.{decides_by}
use Rattle.policy_text.specs.declared.paths.MemberName.{MemberName}
use Rattle.policy_text.specs.declared.paths.MemberName.TheVariants as member_names
use Rattle.policy_text.specs.declared.paths.PathPart.{PathPart}
use Rattle.policy_text.specs.declared.paths.PathPart.TheVariants as path_parts

abbrev pub same_key : MemberName → MemberName → Bool
same_key member_names.Zones member_names.Zones = true
same_key member_names.Root member_names.Root = true
same_key member_names.Zone member_names.Zone = true
same_key member_names.Shape member_names.Shape = true
same_key member_names.Set member_names.Set = true
same_key member_names.Policy member_names.Policy = true
same_key member_names.Combine member_names.Combine = true
same_key member_names.Target member_names.Target = true
same_key member_names.Of member_names.Of = true
same_key member_names.Rules member_names.Rules = true
same_key member_names.Rule member_names.Rule = true
same_key member_names.Effect member_names.Effect = true
same_key member_names.When member_names.When = true
same_key member_names.Role member_names.Role = true
same_key member_names.Office member_names.Office = true
same_key member_names.Class member_names.Class = true
same_key member_names.Owner member_names.Owner = true
same_key member_names.Action member_names.Action = true
same_key member_names.Own member_names.Own = true
same_key member_names.Not member_names.Not = true
same_key a b = false

same_key-itself : (a : MemberName) → same_key a a ≡ true
same_key-itself member_names.Zones = refl
same_key-itself member_names.Root = refl
same_key-itself member_names.Zone = refl
same_key-itself member_names.Shape = refl
same_key-itself member_names.Set = refl
same_key-itself member_names.Policy = refl
same_key-itself member_names.Combine = refl
same_key-itself member_names.Target = refl
same_key-itself member_names.Of = refl
same_key-itself member_names.Rules = refl
same_key-itself member_names.Rule = refl
same_key-itself member_names.Effect = refl
same_key-itself member_names.When = refl
same_key-itself member_names.Role = refl
same_key-itself member_names.Office = refl
same_key-itself member_names.Class = refl
same_key-itself member_names.Owner = refl
same_key-itself member_names.Action = refl
same_key-itself member_names.Own = refl
same_key-itself member_names.Not = refl

same_key-told : (a b : MemberName) → same_key a b ≡ true → a ≡ b
same_key-told member_names.Zones member_names.Zones e = refl
same_key-told member_names.Root member_names.Root e = refl
same_key-told member_names.Zone member_names.Zone e = refl
same_key-told member_names.Shape member_names.Shape e = refl
same_key-told member_names.Set member_names.Set e = refl
same_key-told member_names.Policy member_names.Policy e = refl
same_key-told member_names.Combine member_names.Combine e = refl
same_key-told member_names.Target member_names.Target e = refl
same_key-told member_names.Of member_names.Of e = refl
same_key-told member_names.Rules member_names.Rules e = refl
same_key-told member_names.Rule member_names.Rule e = refl
same_key-told member_names.Effect member_names.Effect e = refl
same_key-told member_names.When member_names.When e = refl
same_key-told member_names.Role member_names.Role e = refl
same_key-told member_names.Office member_names.Office e = refl
same_key-told member_names.Class member_names.Class e = refl
same_key-told member_names.Owner member_names.Owner e = refl
same_key-told member_names.Action member_names.Action e = refl
same_key-told member_names.Own member_names.Own e = refl
same_key-told member_names.Not member_names.Not e = refl
same_key-told a b e = absurd (false≢true e)

abbrev pub same_part : PathPart → PathPart → Bool
same_part (path_parts.Member a) (path_parts.Member b) = same_key a b
same_part (path_parts.Item a) (path_parts.Item b) = nat_eq a b
same_part a b = false

same_part-itself : (a : PathPart) → same_part a a ≡ true
same_part-itself (path_parts.Member a) = same_key-itself a
same_part-itself (path_parts.Item a) = (unsigned_Decides a a).1 refl

same_part-told : (a b : PathPart) → same_part a b ≡ true → a ≡ b
same_part-told (path_parts.Member a) (path_parts.Member b) e =
    ap path_parts.Member (same_key-told a b e)
same_part-told (path_parts.Item a) (path_parts.Item b) e =
    ap path_parts.Item ((unsigned_Decides a b).0 e)
same_part-told a b e = absurd (false≢true e)

pub same_part_decides : (a b : PathPart) → Decides (same_part a b) (a ≡ b)
same_part_decides = decides_by same_part same_part-itself same_part-told

-- two paths are equal, part by part
abbrev pub same_path : List PathPart → List PathPart → Bool
same_path = pointwise same_part

pub same_path_decides : (a b : List PathPart) → Decides (same_path a b) (a ≡ b)
same_path_decides = pointwise_decides same_part_decides
