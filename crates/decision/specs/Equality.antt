-- When two deciders are equal: a Boolean test, and that it decides `≡`.
use Rattle.std.specs.Prelude.{◌≡◌, ◌==◌, Bool, true, ◌&&◌}
use Rattle.std.specs.Bool.{Decides}
use Rattle.std.specs.Cmp.{first_so, second_so}
use Rattle.std.proofs.Common.{refl}
use Rattle.std.proofs.lemmas.Bool.Decides.{Decides-eqb}
use Rattle.plane.specs.Equality.{both_so, decides_by}
use Rattle.policy_documents.specs.Equality.{same_document, same_document_decides}
use Rattle.decision.specs.Deciders.{DeciderData}

-- the same document, under the same edition
abbrev pub same_decider : DeciderData → DeciderData → Bool
same_decider a b = same_document a.document b.document && a.edition == b.edition

same_decider-itself : (a : DeciderData) → same_decider a a ≡ true
same_decider-itself a = both_so _ _ ((same_document_decides a.document a.document).1 refl)
    ((Decides-eqb a.edition a.edition).1 refl)

same_decider-by : (a b : DeciderData) → a.document ≡ b.document → a.edition ≡ b.edition → a ≡ b
same_decider-by a b p q = λ i. record { document = p i; edition = q i }

same_decider-told : (a b : DeciderData) → same_decider a b ≡ true → a ≡ b
same_decider-told a b e =
    same_decider-by a b ((same_document_decides a.document b.document).0
    (first_so (same_document a.document b.document) (a.edition == b.edition) e))
    ((Decides-eqb a.edition b.edition).0
    (second_so (same_document a.document b.document) (a.edition == b.edition) e))

pub same_decider_decides : (a b : DeciderData) → Decides (same_decider a b) (a ≡ b)
same_decider_decides = decides_by same_decider same_decider-itself same_decider-told
