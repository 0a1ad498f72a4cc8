-- When two names, subjects, features, changes or lists of changes are equal: Boolean tests, and
-- that each of them decides `≡`.
use Rattle.std.specs.Prelude.{◌≡◌, ℕ, Bool, true, false, ◌&&◌, List, nat_eq}
use Rattle.std.specs.Bool.{Decides}
use Rattle.std.specs.Cmp.{first_so, second_so, unsigned_Decides}
use Rattle.std.specs.Cmp.Lexicographic.{pointwise, pointwise_decides, bytes_decides}
use Rattle.std.proofs.Common.{refl}
use Rattle.std.proofs.lemmas.Bool.{false≢true}
use Rattle.plane.specs.Equality.{both_so, decides_by, same_shape, same_shape-itself, same_shape_decides}
use Rattle.features.specs.declared.actors.Subject.{Subject}
use Rattle.features.specs.declared.rows.Feature.{Feature}
use Rattle.features.specs.declared.rows.Change.{Change}
use Rattle.features.specs.declared.rows.Change.TheVariants.{Add, Reshape, Delete}

abbrev pub same_name : List ℕ → List ℕ → Bool
same_name = pointwise nat_eq

same_number-itself : (n : ℕ) → nat_eq n n ≡ true
same_number-itself n = (unsigned_Decides n n).1 refl

pub same_name-itself : (a : List ℕ) → same_name a a ≡ true
same_name-itself a = (bytes_decides a a).1 refl

abbrev pub same_flag : Bool → Bool → Bool
same_flag true b = b
same_flag false true = false
same_flag false false = true

same_flag-itself : (b : Bool) → same_flag b b ≡ true
same_flag-itself true = refl
same_flag-itself false = refl

same_flag-told : (a b : Bool) → same_flag a b ≡ true → a ≡ b
same_flag-told true true e = refl
same_flag-told true false e = absurd (false≢true e)
same_flag-told false true e = absurd (false≢true e)
same_flag-told false false e = refl

abbrev pub same_feature : Feature → Feature → Bool
same_feature a b = nat_eq a.id b.id && nat_eq a.version b.version && same_name a.office b.office &&
    same_name a.class b.class && same_shape a.shape b.shape

same_feature-itself : (a : Feature) → same_feature a a ≡ true
same_feature-itself a =
    both_so _ _ (both_so _ _ (both_so _ _
    (both_so _ _ (same_number-itself a.id) (same_number-itself a.version))
    (same_name-itself a.office)) (same_name-itself a.class)) (same_shape-itself a.shape)

feature_by : (a b : Feature) → a.id ≡ b.id → a.version ≡ b.version → a.office ≡ b.office
    → a.class ≡ b.class → a.shape ≡ b.shape → a ≡ b
feature_by a b p q r s t = λ i. record {
  id = p i;
  version = q i;
  office = r i;
  class = s i;
  shape = t i;
}

same_feature-told : (a b : Feature) → same_feature a b ≡ true → a ≡ b
same_feature-told a b e =
    let four = first_so (nat_eq a.id b.id && nat_eq a.version b.version && same_name a.office
    b.office && same_name a.class b.class) (same_shape a.shape b.shape) e in
    let three = first_so (nat_eq a.id b.id && nat_eq a.version b.version && same_name a.office
    b.office) (same_name a.class b.class) four in
    let two = first_so (nat_eq a.id b.id && nat_eq a.version b.version)
    (same_name a.office b.office) three in
    feature_by a b
    ((unsigned_Decides a.id b.id).0 (first_so (nat_eq a.id b.id) (nat_eq a.version b.version) two))
    ((unsigned_Decides a.version b.version).0
    (second_so (nat_eq a.id b.id) (nat_eq a.version b.version) two))
    ((bytes_decides a.office b.office).0
    (second_so (nat_eq a.id b.id && nat_eq a.version b.version) (same_name a.office b.office)
    three))
    ((bytes_decides a.class b.class).0
    (second_so (nat_eq a.id b.id && nat_eq a.version b.version && same_name a.office b.office)
    (same_name a.class b.class) four))
    ((same_shape_decides a.shape b.shape).0
    (second_so (nat_eq a.id b.id && nat_eq a.version b.version && same_name a.office b.office &&
    same_name a.class b.class) (same_shape a.shape b.shape) e))

pub same_feature_decides : (a b : Feature) → Decides (same_feature a b) (a ≡ b)
same_feature_decides = decides_by same_feature same_feature-itself same_feature-told

abbrev pub same_change : Change → Change → Bool
same_change (Add a c s) (Add b d t) = nat_eq a b && same_name c d && same_shape s t
same_change (Reshape a v s) (Reshape b w t) = nat_eq a b && nat_eq v w && same_shape s t
same_change (Delete a v) (Delete b w) = nat_eq a b && nat_eq v w
same_change a b = false

same_change-itself : (a : Change) → same_change a a ≡ true
same_change-itself (Add a c s) =
    both_so _ _ (both_so _ _ (same_number-itself a) (same_name-itself c)) (same_shape-itself s)
same_change-itself (Reshape a v s) =
    both_so _ _ (both_so _ _ (same_number-itself a) (same_number-itself v)) (same_shape-itself s)
same_change-itself (Delete a v) = both_so _ _ (same_number-itself a) (same_number-itself v)

same_change-told : (a b : Change) → same_change a b ≡ true → a ≡ b
same_change-told (Add a c s) (Add b d t) e =
    let two = first_so (nat_eq a b && same_name c d) (same_shape s t) e in
    let p = (unsigned_Decides a b).0 (first_so (nat_eq a b) (same_name c d) two) in
    let q = (bytes_decides c d).0 (second_so (nat_eq a b) (same_name c d) two) in
    let r = (same_shape_decides s t).0
    (second_so (nat_eq a b && same_name c d) (same_shape s t) e) in
    λ i. Add (p i) (q i) (r i)
same_change-told (Reshape a v s) (Reshape b w t) e =
    let two = first_so (nat_eq a b && nat_eq v w) (same_shape s t) e in
    let p = (unsigned_Decides a b).0 (first_so (nat_eq a b) (nat_eq v w) two) in
    let q = (unsigned_Decides v w).0 (second_so (nat_eq a b) (nat_eq v w) two) in
    let r = (same_shape_decides s t).0 (second_so (nat_eq a b && nat_eq v w) (same_shape s t) e) in
    λ i. Reshape (p i) (q i) (r i)
same_change-told (Delete a v) (Delete b w) e =
    let p = (unsigned_Decides a b).0 (first_so (nat_eq a b) (nat_eq v w) e) in
    let q = (unsigned_Decides v w).0 (second_so (nat_eq a b) (nat_eq v w) e) in
    λ i. Delete (p i) (q i)
same_change-told a b e = absurd (false≢true e)

pub same_change_decides : (a b : Change) → Decides (same_change a b) (a ≡ b)
same_change_decides = decides_by same_change same_change-itself same_change-told

abbrev pub same_changes : List Change → List Change → Bool
same_changes = pointwise same_change

pub same_changes_decides : (a b : List Change) → Decides (same_changes a b) (a ≡ b)
same_changes_decides = pointwise_decides same_change_decides

abbrev pub same_subject : Subject → Subject → Bool
same_subject a b = same_name a.name b.name && same_name a.office b.office && same_name a.role b.role
    && same_flag a.steward b.steward

same_subject-itself : (a : Subject) → same_subject a a ≡ true
same_subject-itself a = both_so _ _
    (both_so _ _ (both_so _ _ (same_name-itself a.name) (same_name-itself a.office))
    (same_name-itself a.role)) (same_flag-itself a.steward)

subject_by : (a b : Subject) → a.name ≡ b.name → a.office ≡ b.office → a.role ≡ b.role
    → a.steward ≡ b.steward → a ≡ b
subject_by a b p q r s = λ i. record { name = p i; office = q i; role = r i; steward = s i }

same_subject-told : (a b : Subject) → same_subject a b ≡ true → a ≡ b
same_subject-told a b e =
    let three = first_so (same_name a.name b.name && same_name a.office b.office && same_name a.role
    b.role) (same_flag a.steward b.steward) e in
    let two = first_so (same_name a.name b.name && same_name a.office b.office)
    (same_name a.role b.role) three in
    subject_by a b
    ((bytes_decides a.name b.name).0
    (first_so (same_name a.name b.name) (same_name a.office b.office) two))
    ((bytes_decides a.office b.office).0
    (second_so (same_name a.name b.name) (same_name a.office b.office) two))
    ((bytes_decides a.role b.role).0
    (second_so (same_name a.name b.name && same_name a.office b.office)
    (same_name a.role b.role) three))
    (same_flag-told a.steward b.steward
    (second_so (same_name a.name b.name && same_name a.office b.office && same_name a.role
    b.role) (same_flag a.steward b.steward) e))

pub same_subject_decides : (a b : Subject) → Decides (same_subject a b) (a ≡ b)
same_subject_decides = decides_by same_subject same_subject-itself same_subject-told
