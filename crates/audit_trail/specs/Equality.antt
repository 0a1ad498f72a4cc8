-- When two causes, refusals, deeds or records are equal: Boolean tests that decide `≡`.
use Rattle.std.specs.Prelude.{◌≡◌, ℕ, ◌==◌, Bool, true, false, ◌&&◌, nat_eq, List, Option, None, Some}
use Rattle.std.specs.Bool.{Decides}
use Rattle.std.specs.Cmp.{first_so, second_so}
use Rattle.std.specs.Cmp.Lexicographic.{pointwise, bytes_decides}
use Rattle.std.proofs.Common.{ap, refl}
use Rattle.std.proofs.lemmas.Bool.{false≢true}
use Rattle.std.proofs.lemmas.Bool.Decides.{Decides-eqb}
use Rattle.plane.specs.declared.point.Point.{Point}
use Rattle.plane.specs.Equality.{both_so, decides_by, same_shape, same_shape_decides}
use Rattle.features.specs.declared.actors.Subject.{Subject}
use Rattle.features.specs.declared.rows.Change.{Change}
use Rattle.features.specs.Equality.{same_subject, same_subject_decides, same_changes, same_changes_decides}
use Rattle.decision.specs.Equality.{same_decider, same_decider_decides}
use Rattle.judging.specs.declared.causes.Cause.{Cause}
use Rattle.judging.specs.declared.causes.Cause.TheVariants.{Denied, Exists, Absent, Stale}
use Rattle.judging.specs.declared.causes.Refusal.{Refusal}
use Rattle.audit_trail.specs.Records.{DeedData, answered, applied, turned_away, governed, RecordData}

same_number-itself : (n : ℕ) → (n == n) ≡ true
same_number-itself n = (Decides-eqb n n).1 refl

abbrev pub same_rule : Option ℕ → Option ℕ → Bool
same_rule None None = true
same_rule None (Some b) = false
same_rule (Some a) None = false
same_rule (Some a) (Some b) = a == b

same_rule-itself : (a : Option ℕ) → same_rule a a ≡ true
same_rule-itself None = refl
same_rule-itself (Some a) = same_number-itself a

same_rule-told : (a b : Option ℕ) → same_rule a b ≡ true → a ≡ b
same_rule-told None None e = refl
same_rule-told None (Some b) e = absurd (false≢true e)
same_rule-told (Some a) None e = absurd (false≢true e)
same_rule-told (Some a) (Some b) e = ap Some ((Decides-eqb a b).0 e)

abbrev pub same_cause : Cause → Cause → Bool
same_cause (Denied a) (Denied b) = same_rule a b
same_cause (Denied a) Exists = false
same_cause (Denied a) Absent = false
same_cause (Denied a) (Stale n) = false
same_cause Exists (Denied b) = false
same_cause Exists Exists = true
same_cause Exists Absent = false
same_cause Exists (Stale n) = false
same_cause Absent (Denied b) = false
same_cause Absent Exists = false
same_cause Absent Absent = true
same_cause Absent (Stale n) = false
same_cause (Stale m) (Denied b) = false
same_cause (Stale m) Exists = false
same_cause (Stale m) Absent = false
same_cause (Stale m) (Stale n) = m == n

same_cause-itself : (a : Cause) → same_cause a a ≡ true
same_cause-itself (Denied a) = same_rule-itself a
same_cause-itself Exists = refl
same_cause-itself Absent = refl
same_cause-itself (Stale m) = same_number-itself m

same_cause-told : (a b : Cause) → same_cause a b ≡ true → a ≡ b
same_cause-told (Denied a) (Denied b) e = ap Denied (same_rule-told a b e)
same_cause-told (Denied a) Exists e = absurd (false≢true e)
same_cause-told (Denied a) Absent e = absurd (false≢true e)
same_cause-told (Denied a) (Stale n) e = absurd (false≢true e)
same_cause-told Exists (Denied b) e = absurd (false≢true e)
same_cause-told Exists Exists e = refl
same_cause-told Exists Absent e = absurd (false≢true e)
same_cause-told Exists (Stale n) e = absurd (false≢true e)
same_cause-told Absent (Denied b) e = absurd (false≢true e)
same_cause-told Absent Exists e = absurd (false≢true e)
same_cause-told Absent Absent e = refl
same_cause-told Absent (Stale n) e = absurd (false≢true e)
same_cause-told (Stale m) (Denied b) e = absurd (false≢true e)
same_cause-told (Stale m) Exists e = absurd (false≢true e)
same_cause-told (Stale m) Absent e = absurd (false≢true e)
same_cause-told (Stale m) (Stale n) e = ap Stale ((Decides-eqb m n).0 e)

abbrev pub same_refusal : Refusal → Refusal → Bool
same_refusal a b = a.change == b.change && same_cause a.cause b.cause

refusal_by : (a b : Refusal) → a.change ≡ b.change → a.cause ≡ b.cause → a ≡ b
refusal_by a b p q = λ i. record { change = p i; cause = q i }

same_refusal-itself : (a : Refusal) → same_refusal a a ≡ true
same_refusal-itself a = both_so _ _ (same_number-itself a.change) (same_cause-itself a.cause)

same_refusal-told : (a b : Refusal) → same_refusal a b ≡ true → a ≡ b
same_refusal-told a b e =
    refusal_by a b ((Decides-eqb a.change b.change).0
    (first_so (a.change == b.change) (same_cause a.cause b.cause) e))
    (same_cause-told a.cause b.cause
    (second_so (a.change == b.change) (same_cause a.cause b.cause) e))

abbrev pub same_numbers : List ℕ → List ℕ → Bool
same_numbers = pointwise nat_eq

-- the same subject and window
abbrev pub same_search : Subject → List Point → Subject → List Point → Bool
same_search s w t x = same_subject s t && same_shape w x

abbrev pub same_rows : List ℕ → List ℕ → List ℕ → List ℕ → Bool
same_rows ids versions others more = same_numbers ids others && same_numbers versions more

abbrev pub same_answer : Subject → List Point → List ℕ → List ℕ → Subject → List Point → List ℕ
    → List ℕ → Bool
same_answer s w ids versions t x others more =
    same_search s w t x && same_rows ids versions others more

-- the same subject and equal changes
abbrev pub same_list : Subject → List Change → Subject → List Change → Bool
same_list s changes t others = same_subject s t && same_changes changes others

abbrev pub same_deed : DeedData → DeedData → Bool
same_deed (answered s w ids versions) (answered t x others more) =
    same_answer s w ids versions t x others more
same_deed (answered s w ids versions) (applied t n others) = false
same_deed (answered s w ids versions) (turned_away t others q) = false
same_deed (answered s w ids versions) (governed f e) = false
same_deed (applied s m changes) (answered t x others more) = false
same_deed (applied s m changes) (applied t n others) = same_list s changes t others && m == n
same_deed (applied s m changes) (turned_away t others q) = false
same_deed (applied s m changes) (governed f e) = false
same_deed (turned_away s changes p) (answered t x others more) = false
same_deed (turned_away s changes p) (applied t n others) = false
same_deed (turned_away s changes p) (turned_away t others q) =
    same_list s changes t others && same_refusal p q
same_deed (turned_away s changes p) (governed f e) = false
same_deed (governed m d) (answered t x others more) = false
same_deed (governed m d) (applied t n others) = false
same_deed (governed m d) (turned_away t others q) = false
same_deed (governed m d) (governed n e) = m == n && same_decider d e

same_list-itself : (s : Subject) (changes : List Change) → same_list s changes s changes ≡ true
same_list-itself s changes = both_so _ _ ((same_subject_decides s s).1 refl)
    ((same_changes_decides changes changes).1 refl)

same_deed-itself : (a : DeedData) → same_deed a a ≡ true
same_deed-itself (answered s w ids versions) =
    both_so _ _ (both_so _ _ ((same_subject_decides s s).1 refl) ((same_shape_decides w w).1 refl))
    (both_so _ _ ((bytes_decides ids ids).1 refl) ((bytes_decides versions versions).1 refl))
same_deed-itself (applied s m changes) =
    both_so _ _ (same_list-itself s changes) (same_number-itself m)
same_deed-itself (turned_away s changes p) =
    both_so _ _ (same_list-itself s changes) (same_refusal-itself p)
same_deed-itself (governed m d) =
    both_so _ _ (same_number-itself m) ((same_decider_decides d d).1 refl)

answered_by : (s t : Subject) (w x : List Point) (ids others versions more : List ℕ) → s ≡ t → w ≡ x
    → ids ≡ others → versions ≡ more → answered s w ids versions ≡ answered t x others more
answered_by s t w x ids others versions more p q r u = λ i. answered (p i) (q i) (r i) (u i)

same_answer-told : (s t : Subject) (w x : List Point) (ids others versions more : List ℕ)
    → same_answer s w ids versions t x others more ≡ true
    → answered s w ids versions ≡ answered t x others more
same_answer-told s t w x ids others versions more e =
    let front = first_so (same_subject s t && same_shape w x)
    (same_numbers ids others && same_numbers versions more) e in
    let back = second_so (same_subject s t && same_shape w x)
    (same_numbers ids others && same_numbers versions more) e in
    answered_by s t w x ids others versions more
    ((same_subject_decides s t).0 (first_so (same_subject s t) (same_shape w x) front))
    ((same_shape_decides w x).0 (second_so (same_subject s t) (same_shape w x) front))
    ((bytes_decides ids others).0
    (first_so (same_numbers ids others) (same_numbers versions more) back))
    ((bytes_decides versions more).0
    (second_so (same_numbers ids others) (same_numbers versions more) back))

applied_by : (s t : Subject) (m n : ℕ) (changes others : List Change) → s ≡ t → m ≡ n
    → changes ≡ others → applied s m changes ≡ applied t n others
applied_by s t m n changes others p q r = λ i. applied (p i) (q i) (r i)

turned_away_by : (s t : Subject) (changes others : List Change) (p q : Refusal) → s ≡ t
    → changes ≡ others → p ≡ q → turned_away s changes p ≡ turned_away t others q
turned_away_by s t changes others p q h k l = λ i. turned_away (h i) (k i) (l i)

same_subjects : (s t : Subject) (changes others : List Change) → same_list s changes t others ≡ true
    → s ≡ t
same_subjects s t changes others e =
    (same_subject_decides s t).0 (first_so (same_subject s t) (same_changes changes others) e)

same_lists : (s t : Subject) (changes others : List Change) → same_list s changes t others ≡ true
    → changes ≡ others
same_lists s t changes others e =
    (same_changes_decides changes others).0
    (second_so (same_subject s t) (same_changes changes others) e)

same_deed-told : (a b : DeedData) → same_deed a b ≡ true → a ≡ b
same_deed-told (answered s w ids versions) (answered t x others more) e =
    same_answer-told s t w x ids others versions more e
same_deed-told (answered s w ids versions) (applied t n others) e = absurd (false≢true e)
same_deed-told (answered s w ids versions) (turned_away t others q) e = absurd (false≢true e)
same_deed-told (answered s w ids versions) (governed f d) e = absurd (false≢true e)
same_deed-told (applied s m changes) (answered t x others more) e = absurd (false≢true e)
same_deed-told (applied s m changes) (applied t n others) e =
    let front = first_so (same_list s changes t others) (m == n) e in
    applied_by s t m n changes others (same_subjects s t changes others front)
    ((Decides-eqb m n).0 (second_so (same_list s changes t others) (m == n) e))
    (same_lists s t changes others front)
same_deed-told (applied s m changes) (turned_away t others q) e = absurd (false≢true e)
same_deed-told (applied s m changes) (governed f d) e = absurd (false≢true e)
same_deed-told (turned_away s changes p) (answered t x others more) e = absurd (false≢true e)
same_deed-told (turned_away s changes p) (applied t n others) e = absurd (false≢true e)
same_deed-told (turned_away s changes p) (turned_away t others q) e =
    let front = first_so (same_list s changes t others) (same_refusal p q) e in
    turned_away_by s t changes others p q (same_subjects s t changes others front)
    (same_lists s t changes others front)
    (same_refusal-told p q (second_so (same_list s changes t others) (same_refusal p q) e))
same_deed-told (turned_away s changes p) (governed f d) e = absurd (false≢true e)
same_deed-told (governed m d) (answered t x others more) e = absurd (false≢true e)
same_deed-told (governed m d) (applied t n others) e = absurd (false≢true e)
same_deed-told (governed m d) (turned_away t others q) e = absurd (false≢true e)
same_deed-told (governed m d) (governed n f) e =
    λ i. governed ((Decides-eqb m n).0 (first_so (m == n) (same_decider d f) e) i)
    ((same_decider_decides d f).0 (second_so (m == n) (same_decider d f) e) i)

-- the same seat and equal deeds
abbrev pub same_record : RecordData → RecordData → Bool
same_record a b = a.seat == b.seat && same_deed a.deed b.deed

record_by : (a b : RecordData) → a.seat ≡ b.seat → a.deed ≡ b.deed → a ≡ b
record_by a b p q = λ i. record { seat = p i; deed = q i }

same_record-itself : (a : RecordData) → same_record a a ≡ true
same_record-itself a = both_so _ _ (same_number-itself a.seat) (same_deed-itself a.deed)

same_record-told : (a b : RecordData) → same_record a b ≡ true → a ≡ b
same_record-told a b e =
    record_by a b ((Decides-eqb a.seat b.seat).0
    (first_so (a.seat == b.seat) (same_deed a.deed b.deed) e))
    (same_deed-told a.deed b.deed (second_so (a.seat == b.seat) (same_deed a.deed b.deed) e))

pub same_record_decides : (a b : RecordData) → Decides (same_record a b) (a ≡ b)
same_record_decides = decides_by same_record same_record-itself same_record-told
