-- Reading a text gives the configuration that it spells, and no other.
use Rattle.std.proofs.Common.{arith, ltb-true, ◌≡◌, ℕ, ◌≤◌, ◌<◌, Bool, true, false, IsTrue, if◌then◌else◌, nat_lt, List, [], ◌∷◌, ◌++◌, length, refl, sym, ap, subst, ◌∙◌, append_assoc, Result, Ok, Err, Option, Some, None, option_and_then}
use Rattle.std.proofs.lemmas.Bool.{ltb-false}
use Rattle.std.proofs.lemmas.List.{append-nil}
use Rattle.std.specs.Option.{ok_or}
use Rattle.std.specs.Str.{is_utf8}
use Rattle.serde_json.specs.Data.{Data, null, boolean, number, string, array, object, Items, no_items, item}
use Rattle.serde_json.specs.Find.{as_array}
use Rattle.serde_json.specs.Read.{read}
use Rattle.features.specs.Names.{is_name}
use Rattle.features.specs.Subjects.{have_distinct_names}
use Rattle.features.specs.declared.actors.Subject.{Subject}
use Rattle.features.specs.declared.actors.SubjectsFault.TheVariants as lists
use Rattle.policy_documents.specs.Documents.{DocumentData}
use Rattle.policy_text.specs.Reading.{document_in}
use Rattle.policy_text.specs.declared.faults.TextFault.{TextFault}
use Rattle.configuration.specs.Configs.{◌>>=◌, ConfigData, GridData, config_from, config_in, config_keys, config_of, each, flag_in, grid_member, has_only, name_in, object_in, of_form, of_list, of_policies, policies_in, policies_value, steward_in, subject_behind, subject_in, subject_items, subject_keys, subjects_in, taken_over, value_of, web_in}
use Rattle.configuration.specs.Web.{WebData, name_at}
use Rattle.configuration.specs.Spelling.{IsObject, HasName, IsFlag, SpellsSubject, SpellsSubjects, SpellsConfig, Spells}
use Rattle.configuration.specs.declared.config_faults.ConfigFault.{ConfigFault}
use Rattle.configuration.specs.declared.config_faults.ConfigFault.TheVariants as faults
use Rattle.configuration.specs.declared.paths.ConfigPath.{ConfigPath}
use Rattle.configuration.specs.declared.paths.ConfigPath.TheVariants as paths
use Rattle.configuration.specs.declared.paths.MemberName.{MemberName}
use Rattle.configuration.specs.declared.paths.MemberName.TheVariants as member_names
use Rattle.configuration.proofs.ConfigLemmas.{form_of}

-- a chain that gave a value, by its first step
bound : {A B E P : Type 0} (r : Result A E) (k : A → Result B E) (y : B) → (r >>= k) ≡ Ok y →
    ((x : A) → r ≡ Ok x → k x ≡ Ok y → P) → P
bound (Ok x) k y told next = next x refl told
bound (Err e) k y told next = absurd cc

-- a chain whose first step gives a value goes on from there
onward : {A B E : Type 0} (r : Result A E) (k : A → Result B E) (x : A) (y : Result B E) → r ≡ Ok x → k x ≡ y → (r >>= k) ≡ y
onward r k x y told next = ap (λ s. s >>= k) told ∙ next

abbrev read_as : {A E : Type 0} → A → Result A E
read_as x = Ok x

same_value : {A E : Type 0} (x y : A) → read_as {E = E} x ≡ Ok y → x ≡ y
same_value x y told = cc

-- a value that was accepted by a test
taken_on : {A E : Type 0} (b : Bool) (x y : A) (e : E) → (if b then Ok x else Err e) ≡ Ok y → IsTrue b
taken_on true x y e told = refl
taken_on false x y e told = absurd cc

some_of : {A E : Type 0} (o : Option A) (e : E) (x : A) → ok_or o e ≡ Ok x → o ≡ Some x
some_of None e x told = absurd cc
some_of (Some y) e x told = let same : y ≡ x = cc in ap Some same

-- ---- what was read is spelled

object-found : (listed : List MemberName) (path : ConfigPath) (d : Data) (u : Unit {0}) → object_in listed path d ≡ Ok u → IsObject listed d
object-found listed path null u told = absurd cc
object-found listed path (boolean b) u told = absurd cc
object-found listed path (number n) u told = absurd cc
object-found listed path (string s) u told = absurd cc
object-found listed path (array ds) u told = absurd cc
object-found listed path (object ms) u told = record { members = ms; is = refl; only = taken_on (has_only listed ms) tt u path told }

named : (b : Bool) (text name : List ℕ) (path : ConfigPath) → is_name text ≡ b → ok_or (if b then Some text else None) path ≡ Ok name → (text ≡ name) × IsTrue (is_name name)
named true text name path test told = let same : text ≡ name = cc in (same, rw (← same) test)
named false text name path test told = absurd cc

name-under : (o : Option Data) (path : ConfigPath) (name : List ℕ) → ok_or (option_and_then name_at o) path ≡ Ok name →
    (o ≡ Some (string name)) × IsTrue (is_name name)
name-under None path name told = absurd cc
name-under (Some null) path name told = absurd cc
name-under (Some (boolean b)) path name told = absurd cc
name-under (Some (number n)) path name told = absurd cc
name-under (Some (array ds)) path name told = absurd cc
name-under (Some (object ms)) path name told = absurd cc
name-under (Some (string s)) path name told =
    let found = named (is_name s) s name path refl told in (ap (λ text. Some (string text)) found.0, found.1)

name-found : (key : MemberName) (index : ℕ) (d : Data) (name : List ℕ) → name_in key index d ≡ Ok name → HasName key d name
name-found key index d name told =
    let found = name-under (value_of key d) (paths.ItemMember member_names.Subjects index key) name told in record { stands = found.0; spelled = found.1 }

flag-found : (path : ConfigPath) (o : Option Data) (b : Bool) → flag_in path o ≡ Ok b → IsFlag o b
flag-found path None b told = sym (same_value false b told)
flag-found path (Some null) b told = absurd cc
flag-found path (Some (boolean c)) b told = ap boolean (same_value c b told)
flag-found path (Some (number n)) b told = absurd cc
flag-found path (Some (string s)) b told = absurd cc
flag-found path (Some (array ds)) b told = absurd cc
flag-found path (Some (object ms)) b told = absurd cc

abbrev subject_with : List ℕ → List ℕ → List ℕ → Bool → Subject
subject_with name office role steward = record { name = name; office = office; role = role; steward = steward }

subject-found : (index : ℕ) (d : Data) (s : Subject) → subject_in index d ≡ Ok s → SpellsSubject d s
unfolding subject_in
subject-found index d s told =
    bound (object_in subject_keys (paths.Item member_names.Subjects index) d) _ s told (λ u is_object t1. bound (name_in member_names.Name index d) _ s t1 (λ name has_name t2.
    bound (name_in member_names.Office index d) _ s t2 (λ office has_office t3. bound (name_in member_names.Role index d) _ s t3 (λ role has_role t4.
    bound (steward_in index d) _ s t4 (λ steward has_flag t5.
    subst (SpellsSubject d) (same_value (subject_with name office role steward) s t5) (record {
      is_object = object-found subject_keys (paths.Item member_names.Subjects index) d u is_object;
      name = name-found member_names.Name index d name has_name;
      office = name-found member_names.Office index d office has_office;
      role = name-found member_names.Role index d role has_role;
      steward = flag-found (paths.ItemMember member_names.Subjects index member_names.Steward) (value_of member_names.Steward d) steward has_flag;
    }))))))

-- the items spell what was read behind these
pub record IsReadBehind (before : List Subject) (items : Items) (all : List Subject) : Type 0 where
  pub others : List Subject
  pub whole : before ++ others ≡ all
  pub spelled : SpellsSubjects items others

subjects-found : (before : List Subject) (items : Items) (all : List Subject) → each subject_behind before items ≡ Ok all → IsReadBehind before items all
unfolding each
subjects-found before no_items all told = record { others = []; whole = append-nil before ∙ same_value before all told; spelled = tt }
subjects-found before (item d rest) all told =
    bound (subject_behind before d) _ all told (λ first one t1.
    let more = subjects-found (before ++ first ∷ []) rest all t1 in
    record { others = first ∷ more.others; whole = sym (append_assoc before (first ∷ []) more.others) ∙ more.whole; spelled = (subject-found (length before) d first one, more.spelled) })

-- a checked list is the given one, not empty, not too long, and has no name twice
pub record IsTaken (given taken : List Subject) : Type 0 where
  pub same : given ≡ taken
  pub some : 1 ≤ length given
  pub fit : length given ≤ 64
  pub distinct : IsTrue (have_distinct_names given)

taken-found : (given taken : List Subject) → taken_over given ≡ Ok taken → IsTaken given taken
taken-found [] taken told = absurd cc
taken-found (s ∷ ss) taken told = by_tests (nat_lt 64 (length (s ∷ ss))) (have_distinct_names (s ∷ ss)) refl refl told
  where
    by_tests : (b c : Bool) → nat_lt 64 (length (s ∷ ss)) ≡ b → have_distinct_names (s ∷ ss) ≡ c →
        of_list (s ∷ ss) (if b then Err lists.TooMany else if c then Ok (s ∷ ss) else Err lists.NameTwice) ≡ Ok taken → IsTaken (s ∷ ss) taken
    by_tests true c long test told = absurd cc
    by_tests false false long test told = absurd cc
    by_tests false true long test told = record { same = same_value (s ∷ ss) taken told; some = omega arith; fit = ltb-false 64 (length (s ∷ ss)) long; distinct = test }

document-found : (r : Result DocumentData TextFault) (d : DocumentData) → of_policies r ≡ Ok d → r ≡ Ok d
document-found (Ok e) d told = cc
document-found (Err f) d told = absurd cc

array-under : (o : Option Data) (items : Items) → option_and_then as_array o ≡ Some items → o ≡ Some (array items)
array-under None items told = absurd cc
array-under (Some null) items told = absurd cc
array-under (Some (boolean b)) items told = absurd cc
array-under (Some (number n)) items told = absurd cc
array-under (Some (string s)) items told = absurd cc
array-under (Some (array ds)) items told = cc
array-under (Some (object ms)) items told = absurd cc

abbrev config_with : List Subject → DocumentData → Option GridData → WebData → ConfigData
config_with subjects document grid web = record { subjects = subjects; document = document; grid = grid; web = web }

config-found : (d : Data) (c : ConfigData) → config_in d ≡ Ok c → SpellsConfig d c
unfolding config_in config_from
config-found d c told =
    bound (of_form (object_in config_keys paths.Whole d)) _ c told (λ u is_object t1.
    bound (of_form (subject_items d)) _ c t1 (λ items has_items t2. bound (of_form (policies_value d)) _ c t2 (λ policies has_policies t3.
    bound (of_form (subjects_in items)) _ c t3 (λ given in_order t4. bound (taken_over given) _ c t4 (λ taken is_taken t5.
    bound (policies_in policies) _ c t5 (λ document has_document t6. bound (of_form (grid_member (value_of member_names.Grid d))) _ c t6 (λ grid has_grid t7.
    bound (of_form (web_in taken d)) _ c t7 (λ web has_web t8.
    let taken_as = taken-found given taken is_taken in
    let listed = subjects-found [] items given (form_of (subjects_in items) given in_order) in
    subst (SpellsConfig d) (ap (λ ss. config_with ss document grid web) taken_as.same ∙ same_value (config_with taken document grid web) c t8) (record {
      is_object = object-found config_keys paths.Whole d u (form_of (object_in config_keys paths.Whole d) u is_object);
      items = items;
      has_subjects = array-under (value_of member_names.Subjects d) items (some_of _ _ items (form_of (subject_items d) items has_items));
      each = subst (SpellsSubjects items) listed.whole listed.spelled;
      some = taken_as.some;
      fit = taken_as.fit;
      distinct = taken_as.distinct;
      policies = policies;
      has_policies = some_of (value_of member_names.Policies d) _ policies (form_of (policies_value d) policies has_policies);
      document = document-found (document_in policies) document has_document;
      grid = form_of (grid_member (value_of member_names.Grid d)) grid has_grid;
      web = subst (λ ss. web_in ss d ≡ Ok web) (sym taken_as.same) (form_of (web_in taken d) web has_web);
    })))))))))

abbrev of_value : Option Data → Result ConfigData ConfigFault
of_value o = ok_or o faults.NotJson >>= config_in

pub found : (text : List ℕ) (c : ConfigData) → config_of text ≡ Ok c → Spells text c
unfolding config_of
found text c told = by_test (is_utf8 text) refl told
  where
    by_test : (b : Bool) → is_utf8 text ≡ b → (if b then of_value (read text) else Err faults.NotJson) ≡ Ok c → Spells text c
    by_test false test told = absurd cc
    by_test true test told = bound (ok_or (read text) faults.NotJson) config_in c told (λ value json t.
        record { utf8 = test; value = value; json = some_of (read text) faults.NotJson value json; spells = config-found value c t })

-- ---- what is spelled is read

object-again : (listed : List MemberName) (path : ConfigPath) (d : Data) → IsObject listed d → object_in listed path d ≡ Ok tt
object-again listed path d h = rw (h.is, h.only) refl

name-again : (key : MemberName) (index : ℕ) (d : Data) (name : List ℕ) → HasName key d name → name_in key index d ≡ Ok name
name-again key index d name h = rw (h.stands, h.spelled) refl

flag-again : (path : ConfigPath) (o : Option Data) (b : Bool) → IsFlag o b → flag_in path o ≡ Ok b
flag-again path None b h = ap Ok (sym h)
flag-again path (Some d) b h = rw h refl

subject-again : (index : ℕ) (d : Data) (s : Subject) → SpellsSubject d s → subject_in index d ≡ Ok s
unfolding subject_in
subject-again index d s h =
    onward (object_in subject_keys (paths.Item member_names.Subjects index) d) _ tt _ (object-again subject_keys (paths.Item member_names.Subjects index) d h.is_object)
    (onward (name_in member_names.Name index d) _ s.name _ (name-again member_names.Name index d s.name h.name)
    (onward (name_in member_names.Office index d) _ s.office _ (name-again member_names.Office index d s.office h.office)
    (onward (name_in member_names.Role index d) _ s.role _ (name-again member_names.Role index d s.role h.role)
    (onward (steward_in index d) _ s.steward _ (flag-again (paths.ItemMember member_names.Subjects index member_names.Steward) (value_of member_names.Steward d) s.steward h.steward) refl))))

subjects-again : (before : List Subject) (items : Items) (ss : List Subject) → SpellsSubjects items ss → each subject_behind before items ≡ Ok (before ++ ss)
unfolding each
subjects-again before no_items [] h = ap Ok (sym (append-nil before))
subjects-again before no_items (s ∷ ss) h = absurd h
subjects-again before (item d rest) [] h = absurd h
subjects-again before (item d rest) (s ∷ ss) h =
    onward (subject_behind before d) _ s _ (subject-again (length before) d s h.0) (subjects-again (before ++ s ∷ []) rest ss h.1 ∙ ap Ok (append_assoc before (s ∷ []) ss))

taken-again : (ss : List Subject) → 1 ≤ length ss → length ss ≤ 64 → IsTrue (have_distinct_names ss) → taken_over ss ≡ Ok ss
taken-again [] some fit distinct = absurd (omega (arith, some))
taken-again (s ∷ ss) some fit distinct = by_test (nat_lt 64 (length (s ∷ ss))) refl
  where
    by_test : (b : Bool) → nat_lt 64 (length (s ∷ ss)) ≡ b → taken_over (s ∷ ss) ≡ Ok (s ∷ ss)
    by_test true long =
        let more : 64 < length (s ∷ ss) = ltb-true 64 (length (s ∷ ss)) long in absurd (omega (arith, fit, more))
    by_test false long = rw (long, distinct) refl

config-again : (d : Data) (c : ConfigData) → SpellsConfig d c → config_in d ≡ Ok c
unfolding config_in config_from
config-again d c h =
    onward (of_form (object_in config_keys paths.Whole d)) _ tt _ (ap of_form (object-again config_keys paths.Whole d h.is_object))
    (onward (of_form (subject_items d)) _ h.items _ (rw h.has_subjects refl)
    (onward (of_form (policies_value d)) _ h.policies _ (rw h.has_policies refl)
    (onward (of_form (subjects_in h.items)) _ c.subjects _ (ap of_form (subjects-again [] h.items c.subjects h.each))
    (onward (taken_over c.subjects) _ c.subjects _ (taken-again c.subjects h.some h.fit h.distinct)
    (onward (policies_in h.policies) _ c.document _ (ap of_policies h.document)
    (onward (of_form (grid_member (value_of member_names.Grid d))) _ c.grid _ (ap of_form h.grid)
    (onward (of_form (web_in c.subjects d)) _ c.web _ (ap of_form h.web) refl)))))))

pub again : (text : List ℕ) (c : ConfigData) → Spells text c → config_of text ≡ Ok c
unfolding config_of
again text c h = rw (h.utf8, h.json) (config-again h.value c h.spells)

pub one : (text : List ℕ) (a b : ConfigData) → Spells text a → Spells text b → a ≡ b
one text a b h k = same_value {E = ConfigFault} a b (sym (again text a h) ∙ again text b k)
