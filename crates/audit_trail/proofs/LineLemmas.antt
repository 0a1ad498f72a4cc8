-- Records as JSON have no floats, so that their text is determined.
use Rattle.std.proofs.Common.{◌≡◌, ℕ, Bool, true, false, ◌||◌, List, [], ◌∷◌, map, None, Some, refl}
use Rattle.std.specs.Ordering.{nat_cmp, match_ordering}
use Rattle.std.specs.Cmp.Lexicographic.{slice_cmp}
use Rattle.std.specs.declared.cmp.Ordering.{Ordering}
use Rattle.std.specs.declared.cmp.Ordering.TheVariants.{Less, Equal, Greater}
use Rattle.serde_json.specs.Data.{Data, Members, no_members, member, put}
use Rattle.serde_json.specs.View.{items_of}
use Rattle.serde_json.specs.Written.{has_float, items_have_float, members_have_float}
use Rattle.features.specs.declared.rows.Change.{Change}
use Rattle.features.specs.declared.rows.Change.TheVariants.{Add, Reshape, Delete}
use Rattle.policy_text.proofs.PrintedPlain.{document-plain}
use Rattle.judging.specs.declared.causes.Cause.{Cause}
use Rattle.judging.specs.declared.causes.Cause.TheVariants.{Denied, Exists, Absent, Stale}
use Rattle.audit_trail.specs.Records.{DeedData, answered, applied, turned_away, governed, RecordData}
use Rattle.audit_trail.specs.JsonLines.{Fields, with_fields, change_fields, change_data, numeral, cause_fields, deed_fields, line_fields, line_of, IsDocumented}

both_false : (a b : Bool) → a ≡ false → b ≡ false → (a || b) ≡ false
both_false true b h k = absurd cc
both_false false b h k = k

first_false : (a b : Bool) → (a || b) ≡ false → a ≡ false
first_false true b h = absurd cc
first_false false b h = refl

second_false : (a b : Bool) → (a || b) ≡ false → b ≡ false
second_false true b h = absurd cc
second_false false b h = h

put_whole : (k : List ℕ) (d : Data) (ms : Members) → has_float d ≡ false → members_have_float ms ≡ false → members_have_float (put k d ms) ≡ false
put_whole k d no_members h i = both_false _ _ h refl
put_whole k d (member l e ms) h i = go (slice_cmp nat_cmp k l) (put_whole k d ms h (second_false _ _ i))
  where
    go : (o : Ordering) → members_have_float (put k d ms) ≡ false
        → members_have_float (match_ordering o (member k d (member l e ms)) (member l d ms) (member l e (put k d ms))) ≡ false
    go Less next = both_false _ _ h i
    go Equal next = both_false _ _ h (second_false _ _ i)
    go Greater next = both_false _ _ (first_false _ _ i) next

-- no field has a float
abbrev AreWhole : Fields → Type 0
AreWhole [] = Unit {0}
AreWhole (field ∷ fields) = (has_float field.1 ≡ false) × AreWhole fields

with_fields_whole : (ms : Members) (fields : Fields) → members_have_float ms ≡ false → AreWhole fields → members_have_float (with_fields ms fields) ≡ false
with_fields_whole ms [] h whole = h
with_fields_whole ms (field ∷ fields) h whole = with_fields_whole (put field.0 field.1 ms) fields (put_whole field.0 field.1 ms whole.0 h) whole.1

items_whole : {X : Type 0} (f : X → Data) → ((x : X) → has_float (f x) ≡ false) → (xs : List X) → items_have_float (items_of (map f xs)) ≡ false
items_whole f each [] = refl
items_whole f each (x ∷ xs) = both_false _ _ (each x) (items_whole f each xs)

fields_whole : (change : Change) → AreWhole (change_fields change)
fields_whole (Add id class shape) = (refl, (refl, (refl, (refl, tt))))
fields_whole (Reshape id seen shape) = (refl, (refl, (refl, (refl, tt))))
fields_whole (Delete id seen) = (refl, (refl, (refl, tt)))

change_whole : (change : Change) → has_float (change_data change) ≡ false
change_whole change = with_fields_whole no_members (change_fields change) refl (fields_whole change)

cause_whole : (cause : Cause) → AreWhole (cause_fields cause)
cause_whole (Denied None) = (refl, (refl, tt))
cause_whole (Denied (Some rule)) = (refl, (refl, tt))
cause_whole Exists = (refl, tt)
cause_whole Absent = (refl, tt)
cause_whole (Stale current) = (refl, (refl, tt))

deed_whole : (deed : DeedData) → IsDocumented deed → AreWhole (deed_fields deed)
deed_whole (answered subject window ids versions) h = (refl, (refl, (refl, (items_whole numeral (λ n. refl) ids, tt))))
deed_whole (applied subject version changes) h = (refl, (refl, (refl, (items_whole change_data change_whole changes, tt))))
deed_whole (turned_away subject changes refusal) h = (refl, (refl, (items_whole change_data change_whole changes, (refl, cause_whole refusal.cause))))
deed_whole (governed edition decider) h = (refl, (refl, ((document-plain decider.document h).whole, tt)))

pub line_whole : (n : ℕ) (r : RecordData) → IsDocumented r.deed → has_float (line_of n r) ≡ false
line_whole n r h =
    let whole : AreWhole (line_fields n r) = (refl, (refl, deed_whole r.deed h)) in
    with_fields_whole no_members (line_fields n r) refl whole
