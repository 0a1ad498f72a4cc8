-- Reading the items of an array one by one.
use Rattle.std.proofs.Common.{◌≡◌, ℕ, ◌+◌, ◌<◌, ◌≤◌, List, [], ◌∷◌, ◌++◌, length, get_or, drop, refl, sym, ap, ◌∙◌, subst, append_assoc, add-one, drop-cons, Result, Ok, Err, Option, Some, false, nat_eq, arith, IsErrAnd, if◌then◌else◌}
use Rattle.std.specs.Option.{ok_or}
use Rattle.std.proofs.lemmas.List.{append-nil, drop_all}
use Rattle.std.proofs.lemmas.Bool.Decides.{nat_tests}
use Rattle.serde_json.specs.Data.{Data, Items}
use Rattle.serde_json.specs.Find.{as_array}
use Rattle.serde_json.specs.View.{view, items_view}
use Rattle.serde_json.specs.declared.value.Value.{Value}
use Rattle.policy_text.specs.Reading.{◌>>=◌, Fails, Gives, at_item, each_at, items_in, is_empty}
use Rattle.policy_text.specs.declared.paths.PathPart.{PathPart}
use Rattle.policy_text.specs.declared.faults.TextFault.{TextFault}
use Rattle.policy_text.specs.declared.faults.TextFault.TheVariants as faults

pub Fails-bind : {X Y : Type 0} (e : TextFault) (r : Result X TextFault) (k : X → Result Y TextFault) → Fails e r → Fails e (r >>= k)
Fails-bind (faults.Memory m) r k h = tt
Fails-bind faults.NotJson r k h = ap (λ s. s >>= k) h
Fails-bind (faults.Form p) r k h = ap (λ s. s >>= k) h
Fails-bind (faults.UnknownKey p) r k h = ap (λ s. s >>= k) h
Fails-bind (faults.NameTwice p n) r k h = ap (λ s. s >>= k) h
Fails-bind (faults.NoZone p n) r k h = ap (λ s. s >>= k) h
Fails-bind (faults.BadZone p n f) r k h = ap (λ s. s >>= k) h
Fails-bind (faults.TooDeep p) r k h = ap (λ s. s >>= k) h
Fails-bind (faults.TooMany p) r k h = ap (λ s. s >>= k) h

pub Fails-from : {X : Type 0} (e : TextFault) (r : Result X TextFault) → r ≡ Err e → Fails e r
Fails-from (faults.Memory m) r h = tt
Fails-from faults.NotJson r h = h
Fails-from (faults.Form p) r h = h
Fails-from (faults.UnknownKey p) r h = h
Fails-from (faults.NameTwice p n) r h = h
Fails-from (faults.NoZone p n) r h = h
Fails-from (faults.BadZone p n f) r h = h
Fails-from (faults.TooDeep p) r h = h
Fails-from (faults.TooMany p) r h = h

is_empty-length : (vs : List Value) → is_empty (items_view vs) ≡ nat_eq (length vs) 0
is_empty-length [] = refl
is_empty-length (v ∷ vs) = grind (arith, nat_tests)

abbrev items_in_of : List PathPart → Option Items → Result Items TextFault
items_in_of path o = ok_or o (faults.Form path) >>= λ items. if is_empty items then Err (faults.Form path) else Ok items

-- an array that is not empty is found
pub items_in-found : (path : List PathPart) (d : Data) (vs ws : List Value) (n : ℕ) → Some (items_view vs) ≡ as_array d → false ≡ nat_eq n 0 → length ws ≡ n → ws ≡ vs →
    items_in path d ≡ Ok (items_view ws)
items_in-found path d vs ws n e f k g =
    ap (items_in_of path) (sym e) ∙ ap (items_in_of path) (ap (λ l. Some (items_view l)) (sym g))
    ∙ ap (λ b. if b then Err (faults.Form path) else Ok (items_view ws)) (is_empty-length ws ∙ ap (λ m. nat_eq m 0) k ∙ sym f)

-- an error passed on by `?` is the fault that occurred
pub Gives-residual : {X Y : Type 0} (view : X → Y) (r : Result X TextFault) (e : TextFault) (reading : Result Y TextFault) →
    IsErrAnd r (λ f. f ≡ e) → Fails e reading → Gives view r reading
Gives-residual view (Ok x) e reading h told = absurd h
Gives-residual view (Err f) e reading h told = subst (λ g. Fails g reading) (sym h) told

-- what was read already, followed by what is read of the rest
abbrev pub behind : {X S : Type 0} → List X → Result (List X × S) TextFault → Result (List X × S) TextFault
behind done rest = rest >>= λ r. Ok (done ++ r.0, r.1)

behind-cons : {X S : Type 0} (done : List X) (x : X) (r : Result (List X × S) TextFault) →
    behind done (r >>= λ others. Ok (x ∷ others.0, others.1)) ≡ behind (done ++ x ∷ []) r
behind-cons done x (Ok r) = ap (λ xs. Ok (xs, r.1)) (sym (append_assoc done (x ∷ []) r.0))
behind-cons done x (Err e) = refl

module _ {X S : Type 0} (read : List PathPart → S → Data → Result (X × S) TextFault) (path : List PathPart) where
  -- what is left from the item at i on
  abbrev pub left_at : ℕ → S → List Value → Result (List X × S) TextFault
  left_at i seen vs = each_at read path i seen (items_view (drop i vs))

  left_at-cons : (i : ℕ) (seen : S) (vs : List Value) (v : Value) → i < length vs → v ≡ get_or vs i v →
      left_at i seen vs ≡ (read (at_item path i) seen (view v) >>= λ first. left_at (i + 1) first.1 vs >>= λ others. Ok (first.0 ∷ others.0, others.1))
  unfolding each_at
  left_at-cons i seen vs v in_range at =
      ap (λ ws. each_at read path i seen (items_view ws)) (drop-cons vs i v in_range) ∙ rw (← at, add-one) refl

  -- one more item was read
  pub left_at-more : (done : List X) (i : ℕ) (seen after : S) (vs : List Value) (v : Value) (x : X) → i < length vs → v ≡ get_or vs i v →
      read (at_item path i) seen (view v) ≡ Ok (x, after) →
      behind (done ++ x ∷ []) (left_at (i + 1) after vs) ≡ behind done (left_at i seen vs)
  left_at-more done i seen after vs v x in_range at told =
      sym (ap (behind done) (left_at-cons i seen vs v in_range at ∙ rw told refl) ∙ behind-cons done x (left_at (i + 1) after vs))

  -- an item has a fault
  pub left_at-fails : (done : List X) (i : ℕ) (seen : S) (vs : List Value) (v : Value) (e : TextFault) → i < length vs → v ≡ get_or vs i v →
      Fails e (read (at_item path i) seen (view v)) → Fails e (behind done (left_at i seen vs))
  left_at-fails done i seen vs v e in_range at told =
      subst (λ r. Fails e (behind done r)) (sym (left_at-cons i seen vs v in_range at)) (Fails-bind e _ _ (Fails-bind e _ _ told))

  -- all items were read
  pub left_at-end : (done : List X) (i : ℕ) (seen : S) (vs : List Value) → length vs ≤ i → behind done (left_at i seen vs) ≡ Ok (done, seen)
  unfolding each_at
  left_at-end done i seen vs past =
      ap (λ ws. behind done (each_at read path i seen (items_view ws))) (drop_all i vs past) ∙ ap (λ xs. Ok (xs, seen)) (append-nil done)
