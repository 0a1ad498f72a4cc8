-- Reading configurations: how faults are passed on, and subjects one after another.
use Rattle.std.proofs.Common.{arith, ◌≡◌, ℕ, ◌+◌, ◌<◌, ◌≤◌, nat_le, true, false, Bool, List, [], ◌∷◌, ◌++◌, length, get_or, drop, take, if◌then◌else◌, refl, sym, ap, ◌∙◌, subst, add-one, drop-cons, Result, Ok, Err, Option, Some, None, IsErrAnd, IsUtf8}
use Rattle.std.specs.Option.{ok_or}
use Rattle.std.specs.List.{list_any}
use Rattle.std.specs.Str.{bytes_eq, is_utf8}
use Rattle.std.proofs.lemmas.List.{drop_all, length-take-le, take_all, take_more}
use Rattle.std.proofs.lemmas.Str.{IsUtf8-from_is_utf8, is_utf8-from_IsUtf8}
use Rattle.serde_json.specs.Data.{Data}
use Rattle.serde_json.specs.Read.{read}
use Rattle.serde_json.specs.View.{view, items_view}
use Rattle.serde_json.specs.declared.value.Value.{Value}
use Rattle.serde_json.proofs.OnLiterals.{serde_json_on_literals}
use Rattle.features.specs.declared.actors.Subject.{Subject}
use Rattle.memory.specs.JsonFault.{IsTextFault}
use Rattle.memory.specs.declared.json.JsonFault.{JsonFault}
use Rattle.memory.specs.declared.json.JsonFault.TheVariants as reasons
use Rattle.policy_text.specs.Reading.{Fails as FailsText, document_in}
use Rattle.policy_text.specs.declared.faults.TextFault.{TextFault}
use Rattle.policy_text.specs.declared.faults.TextFault.TheVariants as texts
use Rattle.configuration.specs.ConfigFaults.{Fails, Gives, policies_fault, unread_fault}
use Rattle.configuration.specs.Configs.{◌>>=◌, ConfigData, config_in, config_of, count_before_again, each, item_count, of_form, policies_in}
use Rattle.configuration.specs.declared.config_faults.ConfigFault.{ConfigFault}
use Rattle.configuration.specs.declared.config_faults.ConfigFault.TheVariants as faults
use Rattle.configuration.specs.declared.paths.ConfigPath.{ConfigPath}

pub Fails-bind : {X Y : Type 0} (e : ConfigFault) (r : Result X ConfigFault) (k : X → Result Y ConfigFault) → Fails e r → Fails e (r >>= k)
Fails-bind (faults.Memory m) r k h = tt
Fails-bind faults.NotJson r k h = ap (λ s. s >>= k) h
Fails-bind (faults.Form p) r k h = ap (λ s. s >>= k) h
Fails-bind (faults.Subjects f p) r k h = ap (λ s. s >>= k) h
Fails-bind (faults.Policies f) r k h = ap (λ s. s >>= k) h

pub Fails-from : {X : Type 0} (e : ConfigFault) (r : Result X ConfigFault) → r ≡ Err e → Fails e r
Fails-from (faults.Memory m) r h = tt
Fails-from faults.NotJson r h = h
Fails-from (faults.Form p) r h = h
Fails-from (faults.Subjects f p) r h = h
Fails-from (faults.Policies f) r h = h

-- a fault returned by `?` is the fault that occurred
pub Gives-residual : {X Y : Type 0} (view : X → Y) (r : Result X ConfigFault) (e : ConfigFault) (reading : Result Y ConfigFault) →
    IsErrAnd r (λ f. f ≡ e) → Fails e reading → Gives view r reading
Gives-residual view (Ok x) e reading h told = absurd h
Gives-residual view (Err f) e reading h told = subst (λ g. Fails g reading) (sym h) told

-- a fault of a document is one of the policies, unless memory ran out
pub policies-fail : (e : TextFault) (d : Data) → FailsText e (document_in d) → Fails (policies_fault e) (policies_in d)
policies-fail (texts.Memory m) d h = tt
policies-fail texts.NotJson d h = rw h refl
policies-fail (texts.Form p) d h = rw h refl
policies-fail (texts.UnknownKey p) d h = rw h refl
policies-fail (texts.NameTwice p n) d h = rw h refl
policies-fail (texts.NoZone p n) d h = rw h refl
policies-fail (texts.BadZone p n f) d h = rw h refl
policies-fail (texts.TooDeep p) d h = rw h refl
policies-fail (texts.TooMany p) d h = rw h refl

-- a chain of readings at paths, as a chain of readings
form-bind : {X Y : Type 0} (r : Result X ConfigPath) (k : X → Result Y ConfigPath) → of_form (r >>= k) ≡ (of_form r >>= λ x. of_form (k x))
form-bind (Ok x) k = refl
form-bind (Err path) k = refl

-- a fault of the first step is one of the chain
pub Fails-form : {X Y : Type 0} (e : ConfigFault) (r : Result X ConfigPath) (k : X → Result Y ConfigPath) → Fails e (of_form r) → Fails e (of_form (r >>= k))
Fails-form e r k h = subst (Fails e) (sym (form-bind r k)) (Fails-bind e (of_form r) (λ x. of_form (k x)) h)

pub form_of : {A : Type 0} (r : Result A ConfigPath) (x : A) → of_form r ≡ Ok x → r ≡ Ok x
form_of (Ok y) x told = let same : y ≡ x = cc in ap Ok same
form_of (Err path) x told = absurd cc

-- ---- items, one after another

module _ {X : Type 0} (read : List X → Data → Result X ConfigPath) where
  -- what is read of the items from index i on, behind these
  abbrev pub left_at : List X → ℕ → List Value → Result (List X) ConfigPath
  left_at before i vs = each read before (items_view (drop i vs))

  left_at-cons : (before : List X) (i : ℕ) (vs : List Value) (v : Value) → i < length vs → v ≡ get_or vs i v →
      left_at before i vs ≡ (read before (view v) >>= λ x. left_at (before ++ x ∷ []) (i + 1) vs)
  unfolding each
  left_at-cons before i vs v in_range at =
      ap (λ ws. each read before (items_view ws)) (drop-cons vs i v in_range) ∙ rw (← at, add-one) refl

  -- an item was read
  pub left_at-more : (before : List X) (i : ℕ) (vs : List Value) (v : Value) (x : X) → i < length vs → v ≡ get_or vs i v →
      read before (view v) ≡ Ok x → left_at (before ++ x ∷ []) (i + 1) vs ≡ left_at before i vs
  left_at-more before i vs v x in_range at told = sym (left_at-cons before i vs v in_range at ∙ rw told refl)

  -- an item has a fault
  pub left_at-fails : (before : List X) (i : ℕ) (vs : List Value) (v : Value) (path : ConfigPath) → i < length vs → v ≡ get_or vs i v →
      read before (view v) ≡ Err path → left_at before i vs ≡ Err path
  left_at-fails before i vs v path in_range at told = left_at-cons before i vs v in_range at ∙ rw told refl

  -- all was read
  pub left_at-end : (before : List X) (i : ℕ) (vs : List Value) → length vs ≤ i → left_at before i vs ≡ Ok before
  unfolding each
  left_at-end before i vs past = ap (λ ws. each read before (items_view ws)) (drop_all i vs past)

count_viewed : (vs : List Value) → item_count (items_view vs) ≡ length vs
count_viewed [] = refl
count_viewed (v ∷ vs) = grind (arith, count_viewed vs)

-- an array has at most so many items, or more
pub few : (vs : List Value) (most : ℕ) → length vs ≤ most → nat_le (item_count (items_view vs)) most ≡ true
few vs most fits = rw (count_viewed vs) (grind arith)

pub too_many : (vs : List Value) (most : ℕ) → most < length vs → nat_le (item_count (items_view vs)) most ≡ false
too_many vs most more = rw (count_viewed vs) (grind arith)

-- ---- the second name

-- how many stand before it, where it does not stand before index i
abbrev pub again_at : ℕ → List Subject → ℕ
again_at i ss = count_before_again (take i ss) (drop i ss)

again_at-cons : (i : ℕ) (ss : List Subject) (s : Subject) → i < length ss → s ≡ get_or ss i s →
    again_at i ss ≡ (if list_any (λ other. bytes_eq other.name s.name) (take i ss) then length (take i ss) else again_at (i + 1) ss)
unfolding count_before_again
again_at-cons i ss s in_range at =
    ap (count_before_again (take i ss)) (drop-cons ss i s in_range) ∙ rw (take_more ss i s in_range, ← at, add-one) refl

-- it is at this index
pub again_at-here : (i : ℕ) (ss : List Subject) (s : Subject) → i < length ss → s ≡ get_or ss i s → list_any (λ other. bytes_eq other.name s.name) (take i ss) ≡ true → again_at i ss ≡ i
again_at-here i ss s in_range at test = again_at-cons i ss s in_range at ∙ rw test (length-take-le i ss (omega (arith, in_range)))

-- it is behind this index
pub again_at-more : (i : ℕ) (ss : List Subject) (s : Subject) → i < length ss → s ≡ get_or ss i s → list_any (λ other. bytes_eq other.name s.name) (take i ss) ≡ false → again_at (i + 1) ss ≡ again_at i ss
again_at-more i ss s in_range at test = sym (again_at-cons i ss s in_range at ∙ rw test refl)

-- there is none
pub again_at-end : (i : ℕ) (ss : List Subject) → length ss ≤ i → again_at i ss ≡ length ss
unfolding count_before_again
again_at-end i ss past = rw (drop_all i ss past, take_all i ss past) refl

abbrev of_read : Option Data → Result ConfigData ConfigFault
of_read o = ok_or o faults.NotJson >>= config_in

config_of-utf8 : (bytes : List ℕ) → IsUtf8 bytes → config_of bytes ≡ of_read (read bytes)
unfolding config_of
config_of-utf8 bytes utf8 = rw (is_utf8-from_IsUtf8 bytes utf8) refl

-- the JSON value of the bytes spells the configuration
pub config_of-read : (bytes : List ℕ) (d : Data) → IsUtf8 bytes → read bytes ≡ Some d → config_of bytes ≡ config_in d
config_of-read bytes d utf8 told = config_of-utf8 bytes utf8 ∙ ap of_read told

unread : (bytes : List ℕ) → (IsUtf8 bytes → read bytes ≡ None) → config_of bytes ≡ Err faults.NotJson
unfolding config_of
unread bytes told = by_test (is_utf8 bytes) refl
  where
    by_test : (b : Bool) → is_utf8 bytes ≡ b → config_of bytes ≡ Err faults.NotJson
    by_test true test = config_of-utf8 bytes (IsUtf8-from_is_utf8 bytes test) ∙ ap of_read (told (IsUtf8-from_is_utf8 bytes test))
    by_test false test = rw test refl

-- if no JSON value was read, memory ran out or the bytes are not a JSON text
pub unread-fails : (bytes : List ℕ) (e : JsonFault) → (IsTextFault e → IsUtf8 bytes → read bytes ≡ None) → Fails (unread_fault e) (config_of bytes)
unread-fails bytes (reasons.Text error) told = unread bytes (told tt)
unread-fails bytes (reasons.Memory m) told = tt

-- the empty text is not a JSON value
read-empty : (d : Data) → read [] ≡ Some d → ⊥
unfolding serde_json_on_literals
read-empty d told = cc

pub read-filled : {P : Type 0} (bytes : List ℕ) (d : Data) → length bytes ≡ 0 → read bytes ≡ Some d → P
read-filled [] d none told = absurd (read-empty d told)
read-filled (b ∷ bs) d none told = absurd (omega arith)
