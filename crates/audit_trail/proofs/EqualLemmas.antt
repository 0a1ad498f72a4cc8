-- Records of one seat are equal exactly if their deeds are.
use Rattle.std.proofs.Common.{◌≡◌, ◌↔◌, Bool, ◌&&◌, IsTrue, sym, ap, ◌∙◌}
use Rattle.std.proofs.lemmas.Bool.Decides.{Decides-at, Decides-eqb}
use Rattle.audit_trail.specs.Records.{RecordData}
use Rattle.audit_trail.specs.Equality.{same_deed, same_record, same_record_decides}

pub exact_record : (r : Bool) (a b : RecordData) → a.seat ≡ b.seat → r ≡ same_deed a.deed b.deed → IsTrue r ↔ (a ≡ b)
exact_record r a b seats deeds =
    Decides-at r (same_record a b) (deeds ∙ ap (λ v. v && same_deed a.deed b.deed) (sym ((Decides-eqb a.seat b.seat).1 seats))) (same_record_decides a b)
