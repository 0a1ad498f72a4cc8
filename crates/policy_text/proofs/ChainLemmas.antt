-- What each step of a reading gave, if the whole gave a value.
use Rattle.std.proofs.Common.{◌≡◌, ℕ, ◌+◌, ◌<◌, Bool, true, false, IsTrue, if◌then◌else◌, nat_lt, List, [], ◌∷◌, ◌++◌, refl, sym, subst, ◌∙◌, ltb-true, Result, Ok, Err, Option, Some, None, option_and_then}
use Rattle.std.specs.List.{list_any}
use Rattle.std.specs.Option.{ok_or}
use Rattle.features.specs.Names as spelling
use Rattle.serde_json.specs.Data.{Data, Items, no_items, item}
use Rattle.serde_json.specs.Find.{as_str}
use Rattle.policy_documents.specs.Documents.{is_filled}
use Rattle.features.specs.Equality.{same_name}
use Rattle.policy_text.specs.Reading.{◌>>=◌, at_item, each_at, items_in, is_empty, name_in, value_of, at_key, fresh, within}
use Rattle.policy_text.specs.declared.paths.PathPart.{PathPart}
use Rattle.policy_text.specs.declared.paths.MemberName.{MemberName}
use Rattle.policy_text.specs.declared.faults.TextFault.{TextFault}
use Rattle.policy_text.specs.declared.faults.TextFault.TheVariants as faults

-- the first step of a chain that gave a value
pub bound : {A B P : Type 0} (r : Result A TextFault) (k : A → Result B TextFault) (y : B) → (r >>= k) ≡ Ok y →
    ((x : A) → r ≡ Ok x → k x ≡ Ok y → P) → P
bound (Ok x) k y told next = next x refl told
bound (Err e) k y told next = absurd cc

abbrev read_as : {A : Type 0} → A → Result A TextFault
read_as x = Ok x

pub same_value : {A : Type 0} (x y : A) → read_as x ≡ Ok y → x ≡ y
same_value x y told = cc

-- a value accepted by a test
pub taken : {A : Type 0} (b : Bool) (x y : A) (e : TextFault) → (if b then Ok x else Err e) ≡ Ok y → (b ≡ true) × (x ≡ y)
taken true x y e told = (refl, cc)
taken false x y e told = absurd cc

-- a value that a test did not reject
pub passed : {A : Type 0} (b : Bool) (x y : A) (e : TextFault) → (if b then Err e else Ok x) ≡ Ok y → (b ≡ false) × (x ≡ y)
passed true x y e told = absurd cc
passed false x y e told = (refl, cc)

-- one of two readings, by a test
pub either : {A : Type 0} (P : A → Type 0) (b : Bool) (r s : Result A TextFault) (x : A) → (r ≡ Ok x → P x) → (s ≡ Ok x → P x) → (if b then r else s) ≡ Ok x → P x
either P true r s x first second told = first told
either P false r s x first second told = second told

-- the name under a key is a valid name
pub name_in-spelled : (key : MemberName) (path : List PathPart) (d : Data) (name : List ℕ) → name_in key path d ≡ Ok name → IsTrue (spelling.is_name name)
name_in-spelled key path d name = under (option_and_then as_str (value_of key d))
  where
    fault : TextFault
    fault = faults.Form (at_key path key)

    of_test : (b : Bool) (text : List ℕ) → spelling.is_name text ≡ b → ok_or (if b then Some text else None) fault ≡ Ok name → IsTrue (spelling.is_name name)
    of_test true text test told = let e : text ≡ name = cc in rw (← e) test
    of_test false text test told = absurd cc

    under : (o : Option (List ℕ)) → ok_or (option_and_then spelling.name_of o) fault ≡ Ok name → IsTrue (spelling.is_name name)
    under None told = absurd cc
    under (Some text) told = of_test (spelling.is_name text) text refl told

-- one more name, which was not seen before
pub fresh-read : (path : List PathPart) (name : List ℕ) (before after : List (List ℕ)) → fresh path name before ≡ Ok after → (list_any (same_name name) before ≡ false) × (before ++ name ∷ [] ≡ after)
fresh-read path name before after told = passed (list_any (same_name name) before) (before ++ name ∷ []) after _ told

-- one more, below the limit
pub within-read : (path : List PathPart) (limit before after : ℕ) → within path limit before ≡ Ok after → (before < limit) × (before + 1 ≡ after)
within-read path limit before after told =
    let t = taken (nat_lt before limit) (before + 1) after _ told in (ltb-true before limit t.0, t.1)

-- the items of an array that is not empty
pub items_in-filled : (path : List PathPart) (d : Data) (items : Items) → items_in path d ≡ Ok items → is_empty items ≡ false
items_in-filled path d items told = bound _ _ _ told (λ found _ rest.
    let t = passed (is_empty found) found items _ rest in subst (λ i. is_empty i ≡ false) t.1 t.0)

-- how the items of an array are read, given how each is read
module _ {X S : Type 0} (read : List PathPart → S → Data → Result (X × S) TextFault) where
  abbrev behind_first : List PathPart → ℕ → Items → X × S → Result (List X × S) TextFault
  behind_first path i rest first = each_at read path (i + 1) first.1 rest >>= λ others. Ok (first.0 ∷ others.0, others.1)

  each_at-item : (path : List PathPart) (i : ℕ) (s : S) (d : Data) (rest : Items) → each_at read path i s (item d rest) ≡ (read (at_item path i) s d >>= behind_first path i rest)
  unfolding each_at
  each_at-item path i s d rest = refl

  each_at-none : (path : List PathPart) (i : ℕ) (s : S) → each_at read path i s no_items ≡ Ok ([], s)
  unfolding each_at
  each_at-none path i s = refl

  -- the first item was read, then the others
  in_turn : {P : Type 0} (path : List PathPart) (i : ℕ) (s : S) (d : Data) (rest : Items) (r : List X × S) → each_at read path i s (item d rest) ≡ Ok r →
      ((first : X × S) (others : List X × S) → read (at_item path i) s d ≡ Ok first → each_at read path (i + 1) first.1 rest ≡ Ok others → (first.0 ∷ others.0, others.1) ≡ r → P) → P
  in_turn path i s d rest r told next =
      bound (read (at_item path i) s d) (behind_first path i rest) r (sym (each_at-item path i s d rest) ∙ told) (λ first one behind.
      bound (each_at read path (i + 1) first.1 rest) (λ others. Ok (first.0 ∷ others.0, others.1)) r behind (λ others each end.
      next first others one each (same_value (first.0 ∷ others.0, others.1) r end)))

  pub each_at-filled : (path : List PathPart) (i : ℕ) (s : S) (items : Items) (r : List X × S) → is_empty items ≡ false →
      each_at read path i s items ≡ Ok r → IsTrue (is_filled r.0)
  each_at-filled path i s no_items r filled told = absurd cc
  each_at-filled path i s (item d rest) r filled told =
      in_turn path i s d rest r told (λ first others one each end. subst (λ q. IsTrue (is_filled q.0)) end refl)

  module _ (One : S → X → S → Type 0) (Each : S → List X → S → Type 0) (none : (s : S) → Each s [] s)
      (more : (s t u : S) (x : X) (xs : List X) → One s x t → Each t xs u → Each s (x ∷ xs) u)
      (reads : (path : List PathPart) (s : S) (d : Data) (r : X × S) → read path s d ≡ Ok r → One s r.0 r.1) where
    pub each_at-read : (path : List PathPart) (i : ℕ) (s : S) (items : Items) (r : List X × S) → each_at read path i s items ≡ Ok r → Each s r.0 r.1
    each_at-read path i s no_items r told =
        subst (λ q. Each s q.0 q.1) (same_value ([], s) r (sym (each_at-none path i s) ∙ told)) (none s)
    each_at-read path i s (item d rest) r told =
        in_turn path i s d rest r told (λ first others one each end. subst (λ q. Each s q.0 q.1) end
        (more s first.1 others.1 first.0 others.0 (reads _ s d first one) (each_at-read path (i + 1) first.1 rest others each)))
