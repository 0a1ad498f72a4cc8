-- A name in its padded array.
use Rattle.std.proofs.Common.{◌≡◌, ℕ, ◌≤◌, ◌-◌, List, ◌++◌, length, take, arith, refl, sym, subst, length-append, IsTrue}
use Rattle.std.proofs.lemmas.List.{take_at, drop_at, length-replicate}
use Rattle.std.proofs.lemmas.Bool.Decides.{nat_tests}
use Rattle.features.specs.Names.{is_name, HoldsName, padding}
use Rattle.features.specs.declared.names.TheConstants.{NAME_LIMIT}

pub take-padded : (text : List ℕ) → take (length text) (text ++ padding (length text)) ≡ text
take-padded text = take_at text (padding (length text)) (length text) refl

fits : (text : List ℕ) → IsTrue (is_name text) → length text ≤ NAME_LIMIT
fits text name = grind (arith, nat_tests)

pub holds_padded : (text : List ℕ) → IsTrue (is_name text) → HoldsName (text ++ padding (length text)) (length text)
holds_padded text name = record {
  name = subst (λ (xs : List ℕ). IsTrue (is_name xs)) (sym (take-padded text)) name;
  whole = omega (arith, length-append text (padding (length text)), length-replicate {A = ℕ} (NAME_LIMIT - length text) 0, fits text name);
  within = fits text name;
  padded = drop_at text (padding (length text)) (length text) refl;
}
