-- The members of an object.
use Rattle.std.proofs.Common.{◌≡◌, List, [], ◌∷◌, length, String, Global, refl, nat_eq, arith}
use Rattle.std.proofs.lemmas.Bool.Decides.{nat_tests}
use Rattle.serde_json.specs.declared.value.Value.{Value}
use Rattle.serde_json.specs.View.{members_view}
use Rattle.policy_text.specs.Reading.{has_one}

pub has_one-length : (es : List (String Global × Value)) → has_one (members_view es) ≡ nat_eq (length es) 1
has_one-length [] = refl
has_one-length (e ∷ []) = refl
has_one-length (e ∷ f ∷ es) = grind (arith, nat_tests)
