-- The path of a document's first fault leads to the value at fault.
use Rattle.std.proofs.Common.{◌≡◌, ℕ, zero, suc, ◌+◌, ◌*◌, Bool, true, false, if◌then◌else◌, nat_lt, List, [], ◌∷◌, ◌++◌, length, length-append, refl, sym, ap, subst, ◌∙◌, arith, Result, Ok, Err, Option, Some, None, is_some, option_and_then}
use Rattle.std.specs.List.{list_any}
use Rattle.std.specs.Option.{ok_or}
use Rattle.features.specs.Names.{is_name, name_of}
use Rattle.features.specs.Equality.{same_name}
use Rattle.plane.specs.declared.point.Point.{Point}
use Rattle.wkt.specs.Reading.{shape_of}
use Rattle.wkt.specs.declared.fault.WktFault.{WktFault}
use Rattle.serde_json.specs.Data.{Data, null, boolean, number, string, array, object, Items, no_items, item}
use Rattle.serde_json.specs.Find.{as_array, as_bool, as_object, as_str, get_item}
use Rattle.policy_documents.specs.Documents.{Head}
use Rattle.policy_documents.specs.declared.zones.Zone.{Zone}
use Rattle.policy_documents.specs.declared.matches.Match.{Match}
use Rattle.policy_documents.specs.declared.matches.Match.TheVariants as matches
use Rattle.policy_documents.specs.declared.matches.Term.{Term}
use Rattle.policy_documents.specs.declared.matches.Term.TheVariants as terms
use Rattle.policy_text.specs.Reading.{◌>>=◌, Seen, action_in, algorithm_in, all_of_at, any_of_at, array_in, at_item, at_key, atom_at, atom_keys, atom_of, document_in, document_keys, each_at, effect_in, fresh, has_key, has_one, has_only, head_at, is_empty, is_true, items_in, known_in, known_term, match_at, match_in, match_keys, name_in, node_at, nothing_seen, object_in, optional_array_in, own_in, policy_at, policy_keys, row_at, rule_at, rule_keys, set_at, set_keys, shape_in, single_in, target_at, term_at, term_in, term_keys, term_of, text_in, unseen, value_of, when_at, with_zone, within, zone_at, zone_keys, zones_at}
use Rattle.policy_text.specs.FaultPaths.{IsThere, LeadsTo, value_after, value_at}
use Rattle.policy_documents.specs.Documents.{NodeData}
use Rattle.policy_text.specs.declared.faults.TextFault.{TextFault}
use Rattle.policy_text.specs.declared.faults.TextFault.TheVariants as faults
use Rattle.policy_text.specs.declared.paths.MemberName.{MemberName}
use Rattle.policy_text.specs.declared.paths.MemberName.TheVariants as member_names
use Rattle.policy_text.specs.declared.paths.PathPart.{PathPart}
use Rattle.policy_text.specs.declared.paths.PathPart.TheVariants as path_parts
use Rattle.policy_text.proofs.ChainLemmas.{bound, either, passed, same_value}
use Rattle.policy_text.proofs.ZoneReadLemmas.{zones_place}

-- ---- steps that fail

abbrev fails_as : {A : Type 0} → TextFault → Result A TextFault
fails_as f = Err f

same_fault : {A : Type 0} (f e : TextFault) → fails_as {A = A} f ≡ Err e → f ≡ e
same_fault f e told = cc

-- the step of a chain that failed
failed : {A B P : Type 0} (r : Result A TextFault) (k : A → Result B TextFault) (e : TextFault) → (r >>= k) ≡ Err e →
    (r ≡ Err e → P) → ((x : A) → r ≡ Ok x → k x ≡ Err e → P) → P
failed (Ok x) k e told first next = next x refl told
failed (Err f) k e told first next = first (ap fails_as (same_fault f e told))

-- one of two, by a test
branch : {A P : Type 0} (b : Bool) (r s : Result A TextFault) (e : TextFault) → (r ≡ Err e → P) → (s ≡ Err e → P) → (if b then r else s) ≡ Err e → P
branch true r s e first second told = first told
branch false r s e first second told = second told

-- ---- what was found

found_by : {A : Type 0} (o : Option A) (f : TextFault) (x : A) → ok_or o f ≡ Ok x → o ≡ Some x
found_by None f x told = absurd cc
found_by (Some y) f x told = cc

string_of : (o : Option Data) (text : List ℕ) → option_and_then as_str o ≡ Some text → o ≡ Some (string text)
string_of None text told = absurd cc
string_of (Some null) text told = absurd cc
string_of (Some (boolean b)) text told = absurd cc
string_of (Some (number n)) text told = absurd cc
string_of (Some (string s)) text told = cc
string_of (Some (array ds)) text told = absurd cc
string_of (Some (object ms)) text told = absurd cc

array_of : (d : Data) (items : Items) → as_array d ≡ Some items → d ≡ array items
array_of null items told = absurd cc
array_of (boolean b) items told = absurd cc
array_of (number n) items told = absurd cc
array_of (string s) items told = absurd cc
array_of (array ds) items told = cc
array_of (object ms) items told = absurd cc

array_under : (o : Option Data) (items : Items) → option_and_then as_array o ≡ Some items → o ≡ Some (array items)
array_under None items told = absurd cc
array_under (Some d) items told = ap Some (array_of d items told)

named_so : (b : Bool) (text name : List ℕ) → (if b then Some text else None) ≡ Some name → Some text ≡ Some name
named_so true text name told = told
named_so false text name told = absurd cc

name_under : (o : Option (List ℕ)) (name : List ℕ) → option_and_then name_of o ≡ Some name → o ≡ Some name
name_under None name told = absurd cc
name_under (Some text) name told = named_so (is_name text) text name told

name_text : (key : MemberName) (path : List PathPart) (d : Data) (name : List ℕ) → name_in key path d ≡ Ok name → value_of key d ≡ Some (string name)
name_text key path d name told =
    string_of (value_of key d) name (name_under (option_and_then as_str (value_of key d)) name
    (found_by (option_and_then name_of (option_and_then as_str (value_of key d))) (faults.Form (at_key path key)) name told))

text_text : (key : MemberName) (path : List PathPart) (d : Data) (text : List ℕ) → text_in key path d ≡ Ok text → value_of key d ≡ Some (string text)
text_text key path d text told =
    string_of (value_of key d) text (found_by (option_and_then as_str (value_of key d)) (faults.Form (at_key path key)) text told)

-- ---- paths

one_part : (o : Option Data) → option_and_then (value_at []) o ≡ o
one_part None = refl
one_part (Some d) = refl

more_of : (rest : List PathPart) (part : PathPart) → ((d : Data) → value_at (rest ++ part ∷ []) d ≡ option_and_then (value_after part) (value_at rest d)) → (o : Option Data) →
    option_and_then (value_at (rest ++ part ∷ [])) o ≡ option_and_then (value_after part) (option_and_then (value_at rest) o)
more_of rest part more None = refl
more_of rest part more (Some d) = more d

-- a path with one more part leads one value further
value_at-more : (path : List PathPart) (part : PathPart) (d : Data) → value_at (path ++ part ∷ []) d ≡ option_and_then (value_after part) (value_at path d)
value_at-more [] part d = one_part (value_after part d)
value_at-more (first ∷ rest) part d = more_of rest part (value_at-more rest part) (value_after first d)

module _ (top : Data) where
  -- the path leads to this value
  abbrev At : List PathPart → Data → Type 0
  At path d = value_at path top ≡ Some d

  -- it leads to this row of items, from that of an index on
  abbrev HasItems : List PathPart → ℕ → Items → Type 0
  HasItems path index items = (k : ℕ) → value_at (at_item path (index + k)) top ≡ get_item k items

  there : (path : List PathPart) (d : Data) → At path d → IsThere path top
  there path d h = ap is_some h

  under : (path : List PathPart) (part : PathPart) (d : Data) → At path d → value_at (path ++ part ∷ []) top ≡ value_after part d
  under path part d h = value_at-more path part top ∙ ap (option_and_then (value_after part)) h

  under_key : (path : List PathPart) (key : MemberName) (d e : Data) → At path d → value_of key d ≡ Some e → At (at_key path key) e
  under_key path key d e h found = under path (path_parts.Member key) d h ∙ found

  has_items : (path : List PathPart) (items : Items) → At path (array items) → HasItems path 0 items
  has_items path items h k =
      let z : 0 + k ≡ k = omega arith in
      subst (λ i. value_at (at_item path i) top ≡ get_item k items) (sym z) (under path (path_parts.Item k) (array items) h)

  has_none : (path : List PathPart) → value_at path top ≡ None → HasItems path 0 no_items
  has_none path h k = value_at-more path (path_parts.Item (0 + k)) top ∙ ap (option_and_then (value_after (path_parts.Item (0 + k)))) h

  first_item : (path : List PathPart) (index : ℕ) (d : Data) (rest : Items) → HasItems path index (item d rest) → At (at_item path index) d
  first_item path index d rest has =
      let z : index + 0 ≡ index = omega arith in subst (λ i. value_at (at_item path i) top ≡ Some d) z (has 0)

  other_items : (path : List PathPart) (index : ℕ) (d : Data) (rest : Items) → HasItems path index (item d rest) → HasItems path (index + 1) rest
  other_items path index d rest has k =
      let z : index + suc k ≡ index + 1 + k = omega arith in subst (λ i. value_at (at_item path i) top ≡ get_item k rest) z (has (suc k))

  array_items : (key : MemberName) (path : List PathPart) (d : Data) (items : Items) → At path d → array_in key path d ≡ Ok items → HasItems (at_key path key) 0 items
  array_items key path d items h told =
      has_items (at_key path key) items (under_key path key d (array items) h
      (array_under (value_of key d) items (found_by (option_and_then as_array (value_of key d)) (faults.Form (at_key path key)) items told)))

  optional_items : (key : MemberName) (path : List PathPart) (d : Data) (items : Items) → At path d → optional_array_in key path d ≡ Ok items → HasItems (at_key path key) 0 items
  unfolding optional_array_in
  optional_items key path d items h told = by_value (value_of key d) refl
    where
      by_value : (o : Option Data) → value_of key d ≡ o → HasItems (at_key path key) 0 items
      by_value None x =
          let none : optional_array_in key path d ≡ Ok no_items = rw x refl in
          subst (HasItems (at_key path key) 0) (same_value no_items items (sym none ∙ told)) (has_none (at_key path key) (under path (path_parts.Member key) d h ∙ x))
      by_value (Some v) x =
          let some : optional_array_in key path d ≡ ok_or (as_array v) (faults.Form (at_key path key)) = rw x refl in
          let is : v ≡ array items = array_of v items (found_by (as_array v) (faults.Form (at_key path key)) items (sym some ∙ told)) in
          has_items (at_key path key) items (under_key path key d (array items) h (x ∙ ap Some is))

  row_items : (path : List PathPart) (d : Data) (items : Items) → At path d → items_in path d ≡ Ok items → HasItems path 0 items
  row_items path d items h told = bound (ok_or (as_array d) (faults.Form path)) _ items told (λ found is rest.
      let same = passed (is_empty found) found items _ rest in
      let e : d ≡ array items = array_of d items (found_by (as_array d) (faults.Form path) found is ∙ ap Some same.1) in
      has_items path items (subst (At path) e h))

  -- ---- faults

  module _ (e : TextFault) where
    given : {A : Type 0} (f : TextFault) → fails_as {A = A} f ≡ Err e → LeadsTo f top → LeadsTo e top
    given f told h = subst (λ x. LeadsTo x top) (same_fault f e told) h

    missing : {A : Type 0} (o : Option A) (path : List PathPart) → ok_or o (faults.Form path) ≡ Err e → LeadsTo e top
    missing None path told = given (faults.Form path) told tt
    missing (Some x) path told = absurd cc

    name_leads : (key : MemberName) (path : List PathPart) (d : Data) → name_in key path d ≡ Err e → LeadsTo e top
    name_leads key path d = missing (option_and_then name_of (option_and_then as_str (value_of key d))) (at_key path key)

    optional_leads : (key : MemberName) (path : List PathPart) (d : Data) → optional_array_in key path d ≡ Err e → LeadsTo e top
    unfolding optional_array_in
    optional_leads key path d told = by_value (value_of key d) refl
      where
        by_value : (o : Option Data) → value_of key d ≡ o → LeadsTo e top
        by_value None x = absurd (let none : optional_array_in key path d ≡ Ok no_items = rw x refl in cc)
        by_value (Some v) x =
            let some : optional_array_in key path d ≡ ok_or (as_array v) (faults.Form (at_key path key)) = rw x refl in
            missing (as_array v) (at_key path key) (sym some ∙ told)

    object_leads : (listed : List MemberName) (path : List PathPart) (d : Data) → At path d → object_in listed path d ≡ Err e → LeadsTo e top
    object_leads listed path d h told = failed (ok_or (as_object d) (faults.Form path)) _ e told (missing (as_object d) path) (λ members _ rest.
        branch {A = Unit {0}} (has_only listed members) (Ok tt) (Err (faults.UnknownKey path)) e (λ fine. absurd cc) (λ wrong. given (faults.UnknownKey path) wrong (there path d h)) rest)

    single_leads : (listed : List MemberName) (path : List PathPart) (d : Data) → At path d → single_in listed path d ≡ Err e → LeadsTo e top
    single_leads listed path d h told = failed (ok_or (as_object d) (faults.Form path)) _ e told (missing (as_object d) path) (λ members _ rest.
        branch {A = Unit {0}} (has_only listed members) (if has_one members then Ok tt else Err (faults.Form path)) (Err (faults.UnknownKey path)) e
        (branch {A = Unit {0}} (has_one members) (Ok tt) (Err (faults.Form path)) e (λ fine. absurd cc) (λ wrong. given (faults.Form path) wrong tt))
        (λ wrong. given (faults.UnknownKey path) wrong (there path d h)) rest)

    within_leads : (path : List PathPart) (limit count : ℕ) → IsThere path top → within path limit count ≡ Err e → LeadsTo e top
    within_leads path limit count h = branch (nat_lt count limit) (Ok (count + 1)) (Err (faults.TooMany path)) e (λ fine. absurd cc) (λ wrong. given (faults.TooMany path) wrong h)

    fresh_leads : (path : List PathPart) (name : List ℕ) (names : List (List ℕ)) → At path (string name) → fresh path name names ≡ Err e → LeadsTo e top
    fresh_leads path name names h = branch (list_any (same_name name) names) (Err (faults.NameTwice path name)) (Ok (names ++ name ∷ [])) e
        (λ wrong. given (faults.NameTwice path name) wrong h) (λ fine. absurd cc)

    -- ---- matches and atoms

    -- the zone of a match of this value is its text
    abbrev IsZoneOf : Data → Match → Type 0
    IsZoneOf d (matches.Zone name) = value_of member_names.Zone d ≡ Some (string name)
    IsZoneOf d (matches.Role name) = Unit {0}
    IsZoneOf d (matches.Office name) = Unit {0}
    IsZoneOf d (matches.Class name) = Unit {0}
    IsZoneOf d (matches.Owner name) = Unit {0}
    IsZoneOf d (matches.Action action) = Unit {0}

    module _ (path : List PathPart) (d : Data) where
      named : (key : MemberName) (make : List ℕ → Match) (m : Match) → ((name : List ℕ) → value_of key d ≡ Some (string name) → IsZoneOf d (make name)) →
          (name_in key path d >>= λ name. Ok (make name)) ≡ Ok m → IsZoneOf d m
      named key make m zone told = bound (name_in key path d) (λ name. Ok (make name)) m told (λ name found end.
          subst (IsZoneOf d) (same_value (make name) m end) (zone name (name_text key path d name found)))

      acted : (m : Match) → (action_in path d >>= λ action. Ok (matches.Action action)) ≡ Ok m → IsZoneOf d m
      acted m told = bound (action_in path d) (λ action. Ok (matches.Action action)) m told (λ action _ end. subst (IsZoneOf d) (same_value (matches.Action action) m end) tt)

      match_in-zone : (m : Match) → match_in path d ≡ Ok m → IsZoneOf d m
      unfolding match_in
      match_in-zone m =
          either (IsZoneOf d) (has_key member_names.Role d) _ _ m (named member_names.Role matches.Role m (λ _ _. tt))
          (either (IsZoneOf d) (has_key member_names.Office d) _ _ m (named member_names.Office matches.Office m (λ _ _. tt))
          (either (IsZoneOf d) (has_key member_names.Class d) _ _ m (named member_names.Class matches.Class m (λ _ _. tt))
          (either (IsZoneOf d) (has_key member_names.Owner d) _ _ m (named member_names.Owner matches.Owner m (λ _ _. tt))
          (either (IsZoneOf d) (has_key member_names.Zone d) _ _ m (named member_names.Zone matches.Zone m (λ _ h. h)) (acted m)))))

      unnamed : (key : MemberName) (make : List ℕ → Match) → (name_in key path d >>= λ name. Ok (make name)) ≡ Err e → LeadsTo e top
      unnamed key make told = failed (name_in key path d) (λ name. Ok (make name)) e told (name_leads key path d) (λ _ _ end. absurd cc)

      unacted : (action_in path d >>= λ action. Ok (matches.Action action)) ≡ Err e → LeadsTo e top
      unacted told = failed (action_in path d) (λ action. Ok (matches.Action action)) e told (missing _ (at_key path member_names.Action)) (λ _ _ end. absurd cc)

      match_in-leads : match_in path d ≡ Err e → LeadsTo e top
      unfolding match_in
      match_in-leads =
          branch (has_key member_names.Role d) _ _ e (unnamed member_names.Role matches.Role) (branch (has_key member_names.Office d) _ _ e (unnamed member_names.Office matches.Office)
          (branch (has_key member_names.Class d) _ _ e (unnamed member_names.Class matches.Class) (branch (has_key member_names.Owner d) _ _ e (unnamed member_names.Owner matches.Owner)
          (branch (has_key member_names.Zone d) _ _ e (unnamed member_names.Zone matches.Zone) unacted))))

      module _ (zones : List Zone) (h : At path d) where
        known_in-leads : (m : Match) → IsZoneOf d m → known_in zones path m ≡ Err e → LeadsTo e top
        known_in-leads (matches.Zone name) zone told = branch {A = Unit {0}} (list_any (λ z. same_name name z.name) zones) (Ok tt) (Err (faults.NoZone (at_key path member_names.Zone) name)) e (λ fine. absurd cc)
            (λ wrong. given (faults.NoZone (at_key path member_names.Zone) name) wrong (under_key path member_names.Zone d (string name) h zone)) told
        known_in-leads (matches.Role name) zone told = absurd cc
        known_in-leads (matches.Office name) zone told = absurd cc
        known_in-leads (matches.Class name) zone told = absurd cc
        known_in-leads (matches.Owner name) zone told = absurd cc
        known_in-leads (matches.Action action) zone told = absurd cc

        match_at-leads : (tests : ℕ) → match_at zones path tests d ≡ Err e → LeadsTo e top
        unfolding match_at
        match_at-leads tests told = failed (single_in match_keys path d) _ e told (single_leads match_keys path d h) (λ _ _ a. failed (match_in path d) _ e a match_in-leads (λ m read b.
            failed (known_in zones path m) _ e b (known_in-leads m (match_in-zone m read)) (λ _ _ c.
            failed (within path 4096 tests) _ e c (within_leads path 4096 tests (there path d h)) (λ _ _ end. absurd cc))))

        term_in-leads : term_in path d ≡ Err e → LeadsTo e top
        unfolding term_in
        term_in-leads = branch (has_key member_names.Own d) _ _ e
            (branch (is_true (option_and_then as_bool (value_of member_names.Own d))) (Ok terms.Own) (Err (faults.Form (at_key path member_names.Own))) e (λ fine. absurd cc) (λ wrong. given (faults.Form (at_key path member_names.Own)) wrong tt))
            (λ told. failed (match_in path d) (λ m. Ok (terms.Match m)) e told match_in-leads (λ _ _ end. absurd cc))

        -- the zone of a term of this value is its text
        abbrev IsTermOf : Term → Type 0
        IsTermOf (terms.Match m) = IsZoneOf d m
        IsTermOf terms.Own = Unit {0}

        own_term : (term : Term) → own_in path d ≡ Ok term → IsTermOf term
        own_term term = either IsTermOf (is_true (option_and_then as_bool (value_of member_names.Own d))) (Ok terms.Own) (Err (faults.Form (at_key path member_names.Own))) term
            (λ own. subst IsTermOf (same_value terms.Own term own) tt) (λ wrong. absurd cc)

        term_in-term : (term : Term) → term_in path d ≡ Ok term → IsTermOf term
        unfolding term_in
        term_in-term term = either IsTermOf (has_key member_names.Own d) _ _ term (own_term term)
            (λ told. bound (match_in path d) (λ m. Ok (terms.Match m)) term told (λ m read end. subst IsTermOf (same_value (terms.Match m) term end) (match_in-zone m read)))

        known_term-leads : (term : Term) → IsTermOf term → known_term zones path term ≡ Err e → LeadsTo e top
        known_term-leads (terms.Match m) zone told = known_in-leads m zone told
        known_term-leads terms.Own zone told = absurd cc

        term_of-leads : (tests : ℕ) → term_of zones path tests d ≡ Err e → LeadsTo e top
        unfolding term_of
        term_of-leads tests told = failed (term_in path d) _ e told term_in-leads (λ term read a. failed (known_term zones path term) _ e a (known_term-leads term (term_in-term term read)) (λ _ _ b.
            failed (within path 4096 tests) _ e b (within_leads path 4096 tests (there path d h)) (λ _ _ end. absurd cc)))

        term_at-leads : (tests : ℕ) → term_at zones path tests d ≡ Err e → LeadsTo e top
        unfolding term_at
        term_at-leads tests told = failed (single_in term_keys path d) _ e told (single_leads term_keys path d h) (λ _ _ rest. term_of-leads tests rest)

    atom_of-leads : (zones : List Zone) (path : List PathPart) (d : Data) (h : At path d) (tests : ℕ) (o : Option Data) → value_of member_names.Not d ≡ o →
        atom_of zones path tests d o ≡ Err e → LeadsTo e top
    unfolding atom_of
    atom_of-leads zones path d h tests None x told = failed (term_of zones path tests d) _ e told (term_of-leads path d zones h tests) (λ _ _ end. absurd cc)
    atom_of-leads zones path d h tests (Some inner) x told = failed (within path 4096 tests) _ e told (within_leads path 4096 tests (there path d h)) (λ n _ a.
        failed (term_at zones (at_key path member_names.Not) n inner) _ e a (term_at-leads (at_key path member_names.Not) inner zones (under_key path member_names.Not d inner h x) n) (λ _ _ end. absurd cc))

    atom_at-leads : (zones : List Zone) (path : List PathPart) (tests : ℕ) (d : Data) → At path d → atom_at zones path tests d ≡ Err e → LeadsTo e top
    unfolding atom_at
    atom_at-leads zones path tests d h told = failed (single_in atom_keys path d) _ e told (single_leads atom_keys path d h) (λ _ _ rest.
        atom_of-leads zones path d h tests (value_of member_names.Not d) refl rest)

    -- ---- rows

    module _ {X S : Type 0} (read : List PathPart → S → Data → Result (X × S) TextFault) where
      each_leads : (path : List PathPart) → ((i : ℕ) (s : S) (d : Data) → At (at_item path i) d → read (at_item path i) s d ≡ Err e → LeadsTo e top) →
          (index : ℕ) (s : S) (items : Items) → HasItems path index items → each_at read path index s items ≡ Err e → LeadsTo e top
      unfolding each_at
      each_leads path reads index s no_items has told = absurd cc
      each_leads path reads index s (item d rest) has told = failed (read (at_item path index) s d) _ e told (reads index s d (first_item path index d rest has)) (λ first _ others.
          failed (each_at read path (index + 1) first.1 rest) _ e others (each_leads path reads (index + 1) first.1 rest (other_items path index d rest has)) (λ _ _ end. absurd cc))

    module _ {X : Type 0} (read : List PathPart → ℕ → Data → Result (X × ℕ) TextFault) (reads : (path : List PathPart) (a : ℕ) (d : Data) → At path d → read path a d ≡ Err e → LeadsTo e top) where
      row_leads : (path : List PathPart) (a : ℕ) (d : Data) → At path d → row_at read path a d ≡ Err e → LeadsTo e top
      row_leads path a d h told = failed (items_in path d) _ e told
          (λ wrong. failed (ok_or (as_array d) (faults.Form path)) _ e wrong (missing (as_array d) path) (λ found _ rest.
          branch (is_empty found) (Err (faults.Form path)) (Ok found) e (λ empty. given (faults.Form path) empty tt) (λ fine. absurd cc) rest))
          (λ items found each. each_leads read path (λ i. reads (at_item path i)) 0 a items (row_items path d items h found) each)

    module _ (zones : List Zone) where
      all_of_at-leads : (path : List PathPart) (tests : ℕ) (d : Data) → At path d → all_of_at zones path tests d ≡ Err e → LeadsTo e top
      unfolding all_of_at
      all_of_at-leads = row_leads (match_at zones) (λ path tests d h. match_at-leads path d zones h tests)

      any_of_at-leads : (path : List PathPart) (tests : ℕ) (d : Data) → At path d → any_of_at zones path tests d ≡ Err e → LeadsTo e top
      unfolding any_of_at
      any_of_at-leads = row_leads (all_of_at zones) all_of_at-leads

      target_at-leads : (path : List PathPart) (tests : ℕ) (items : Items) → HasItems path 0 items → target_at zones path tests items ≡ Err e → LeadsTo e top
      unfolding target_at
      target_at-leads path tests items has told = each_leads (any_of_at zones) path (λ i. any_of_at-leads (at_item path i)) 0 tests items has told

      when_at-leads : (path : List PathPart) (tests : ℕ) (items : Items) → HasItems path 0 items → when_at zones path tests items ≡ Err e → LeadsTo e top
      unfolding when_at
      when_at-leads path tests items has told = each_leads (atom_at zones) path (λ i. atom_at-leads zones (at_item path i)) 0 tests items has told

      -- ---- rules, policies and sets

      rule_at-leads : (path : List PathPart) (s : Seen) (d : Data) → At path d → rule_at zones path s d ≡ Err e → LeadsTo e top
      unfolding rule_at
      rule_at-leads path s d h told =
          failed (object_in rule_keys path d) _ e told (object_leads rule_keys path d h) (λ _ _ a. failed (name_in member_names.Rule path d) _ e a (name_leads member_names.Rule path d) (λ name named b.
          failed (effect_in path d) _ e b (missing _ (at_key path member_names.Effect)) (λ _ _ c.
          failed (optional_array_in member_names.Target path d) _ e c (optional_leads member_names.Target path d) (λ target targeted f.
          failed (optional_array_in member_names.When path d) _ e f (optional_leads member_names.When path d) (λ when conditioned g.
          failed (fresh (at_key path member_names.Rule) name s.names) _ e g
          (fresh_leads (at_key path member_names.Rule) name s.names (under_key path member_names.Rule d (string name) h (name_text member_names.Rule path d name named))) (λ _ _ i.
          failed (within path 512 s.rules) _ e i (within_leads path 512 s.rules (there path d h)) (λ _ _ j.
          failed (target_at zones (at_key path member_names.Target) s.tests target) _ e j
          (target_at-leads (at_key path member_names.Target) s.tests target (optional_items member_names.Target path d target h targeted)) (λ t _ l.
          failed (when_at zones (at_key path member_names.When) t.1 when) _ e l
          (when_at-leads (at_key path member_names.When) t.1 when (optional_items member_names.When path d when h conditioned)) (λ _ _ end. absurd cc)))))))))

      head_at-leads : (listed : List MemberName) (name_key children : MemberName) (path : List PathPart) (s : Seen) (d : Data) → At path d →
          head_at zones listed name_key children path s d ≡ Err e → LeadsTo e top
      unfolding head_at
      head_at-leads listed name_key children path s d h told =
          failed (object_in listed path d) _ e told (object_leads listed path d h) (λ _ _ a. failed (name_in name_key path d) _ e a (name_leads name_key path d) (λ name named b.
          failed (algorithm_in path d) _ e b (missing _ (at_key path member_names.Combine)) (λ _ _ c.
          failed (optional_array_in member_names.Target path d) _ e c (optional_leads member_names.Target path d) (λ target targeted f.
          failed (array_in children path d) _ e f (missing _ (at_key path children)) (λ _ _ g.
          failed (fresh (at_key path name_key) name s.names) _ e g
          (fresh_leads (at_key path name_key) name s.names (under_key path name_key d (string name) h (name_text name_key path d name named))) (λ _ _ i.
          failed (within path 512 s.nodes) _ e i (within_leads path 512 s.nodes (there path d h)) (λ _ _ j.
          failed (target_at zones (at_key path member_names.Target) s.tests target) _ e j
          (target_at-leads (at_key path member_names.Target) s.tests target (optional_items member_names.Target path d target h targeted)) (λ _ _ end. absurd cc))))))))

      -- the children of a set or a policy are under their key
      head_children : (listed : List MemberName) (name_key children : MemberName) (path : List PathPart) (s : Seen) (d : Data) (r : Head × (Seen × Items)) → At path d →
          head_at zones listed name_key children path s d ≡ Ok r → HasItems (at_key path children) 0 r.1.1
      unfolding head_at
      head_children listed name_key children path s d r h told =
          bound (object_in listed path d) _ r told (λ _ _ a. bound (name_in name_key path d) _ r a (λ name _ b. bound (algorithm_in path d) _ r b (λ combine _ c.
          bound (optional_array_in member_names.Target path d) _ r c (λ target _ f. bound (array_in children path d) _ r f (λ items found g. bound (fresh (at_key path name_key) name s.names) _ r g (λ names _ i.
          bound (within path 512 s.nodes) _ r i (λ nodes _ j. bound (target_at zones (at_key path member_names.Target) s.tests target) _ r j (λ t _ end.
          subst (λ q. HasItems (at_key path children) 0 q.1.1) (same_value _ r end) (array_items children path d items h found)))))))))

      policy_at-leads : (path : List PathPart) (s : Seen) (d : Data) → At path d → policy_at zones path s d ≡ Err e → LeadsTo e top
      unfolding policy_at
      policy_at-leads path s d h told =
          failed (head_at zones policy_keys member_names.Policy member_names.Rules path s d) _ e told (head_at-leads policy_keys member_names.Policy member_names.Rules path s d h) (λ r head a.
          failed (each_at (rule_at zones) (at_key path member_names.Rules) 0 r.1.0 r.1.1) _ e a
          (each_leads (rule_at zones) (at_key path member_names.Rules) (λ i. rule_at-leads (at_item (at_key path member_names.Rules) i)) 0 r.1.0 r.1.1
          (head_children policy_keys member_names.Policy member_names.Rules path s d r h head)) (λ _ _ end. absurd cc))

      -- a set, whose children have paths of two more parts
      set_at-leads : (levels : ℕ) (read : List PathPart → Seen → Data → Result (NodeData × Seen) TextFault) →
          ((path : List PathPart) (s : Seen) (d : Data) → length path + 2 * levels ≡ 17 → At path d → read path s d ≡ Err e → LeadsTo e top) →
          (path : List PathPart) (s : Seen) (d : Data) → length path + 2 * suc levels ≡ 17 → At path d → set_at read zones path s d ≡ Err e → LeadsTo e top
      unfolding set_at
      set_at-leads levels read reads path s d long h told =
          failed (head_at zones set_keys member_names.Set member_names.Of path s d) _ e told (head_at-leads set_keys member_names.Set member_names.Of path s d h) (λ r head a.
          failed (each_at read (at_key path member_names.Of) 0 r.1.0 r.1.1) _ e a
          (each_leads read (at_key path member_names.Of) (λ i t c. reads (at_item (at_key path member_names.Of) i) t c
          (omega (arith, length-append path (path_parts.Member member_names.Of ∷ []), length-append (at_key path member_names.Of) (path_parts.Item i ∷ [])))) 0 r.1.0 r.1.1
          (head_children set_keys member_names.Set member_names.Of path s d r h head)) (λ _ _ end. absurd cc))

      node_at-leads : (levels : ℕ) (path : List PathPart) (s : Seen) (d : Data) → length path + 2 * levels ≡ 17 → At path d → node_at zones levels path s d ≡ Err e → LeadsTo e top
      unfolding node_at
      node_at-leads zero path s d long h told = given (faults.TooDeep path) told (there path d h, omega arith)
      node_at-leads (suc levels) path s d long h told = branch (has_key member_names.Set d) (set_at (node_at zones levels) zones path s d) (policy_at zones path s d) e
          (set_at-leads levels (node_at zones levels) (node_at-leads levels) path s d long h) (policy_at-leads path s d h) told

    -- ---- zones

    shape_in-leads : (path : List PathPart) (name text : List ℕ) → At (at_key path member_names.Shape) (string text) → shape_in path name text ≡ Err e → LeadsTo e top
    shape_in-leads path name text h told = by_shape (shape_of text) refl
      where
        by_shape : (r : Result (List Point) WktFault) → shape_of text ≡ r → LeadsTo e top
        by_shape (Ok corners) x = absurd (let fine : shape_in path name text ≡ Ok corners = rw x refl in cc)
        by_shape (Err fault) x =
            let wrong : shape_in path name text ≡ Err (faults.BadZone (at_key path member_names.Shape) name fault) = rw x refl in
            given (faults.BadZone (at_key path member_names.Shape) name fault) (sym wrong ∙ told) (text, h, x)

    with_zone-leads : (path : List PathPart) (name : List ℕ) (shape : List Point) (zones : List Zone) → IsThere path top → At (at_key path member_names.Zone) (string name) →
        with_zone path name shape zones ≡ Err e → LeadsTo e top
    unfolding with_zone
    with_zone-leads path name shape zones h spelled told = failed (unseen (at_key path member_names.Zone) name zones) _ e told
        (branch {A = Unit {0}} (list_any (λ z. same_name name z.name) zones) (Err (faults.NameTwice (at_key path member_names.Zone) name)) (Ok tt) e
        (λ wrong. given (faults.NameTwice (at_key path member_names.Zone) name) wrong spelled) (λ fine. absurd cc)) (λ _ _ a.
        failed (within path 64 (length zones)) _ e a (within_leads path 64 (length zones) h) (λ _ _ end. absurd cc))

    zone_at-leads : (path : List PathPart) (zones : List Zone) (d : Data) → At path d → zone_at path zones d ≡ Err e → LeadsTo e top
    unfolding zone_at
    zone_at-leads path zones d h told = failed (object_in zone_keys path d) _ e told (object_leads zone_keys path d h) (λ _ _ a.
        failed (name_in member_names.Zone path d) _ e a (name_leads member_names.Zone path d) (λ name named b.
        failed (text_in member_names.Shape path d) _ e b (missing (option_and_then as_str (value_of member_names.Shape d)) (at_key path member_names.Shape)) (λ text shaped c.
        failed (shape_in path name text) _ e c (shape_in-leads path name text (under_key path member_names.Shape d (string text) h (text_text member_names.Shape path d text shaped))) (λ shape _ f.
        with_zone-leads path name shape zones (there path d h) (under_key path member_names.Zone d (string name) h (name_text member_names.Zone path d name named)) f))))

    zones_at-leads : (index : ℕ) (zones : List Zone) (items : Items) → HasItems zones_place index items → zones_at index zones items ≡ Err e → LeadsTo e top
    unfolding zones_at
    zones_at-leads index zones no_items has told = absurd cc
    zones_at-leads index zones (item d rest) has told = failed (zone_at (at_item zones_place index) zones d) _ e told
        (zone_at-leads (at_item zones_place index) zones d (first_item zones_place index d rest has)) (λ more _ others.
        zones_at-leads (index + 1) more rest (other_items zones_place index d rest has) others)

-- the path of a document's first fault leads to the value at fault
pub document_in-leads : (d : Data) (e : TextFault) → document_in d ≡ Err e → LeadsTo e d
unfolding document_in
document_in-leads d e told = failed (object_in document_keys [] d) _ e told (object_leads d e document_keys [] d refl) (λ _ _ a.
    failed (optional_array_in member_names.Zones [] d) _ e a (optional_leads d e member_names.Zones [] d) (λ items zoned b.
    failed (ok_or (value_of member_names.Root d) (faults.Form (at_key [] member_names.Root))) _ e b (missing d e (value_of member_names.Root d) (at_key [] member_names.Root)) (λ root rooted c.
    failed (zones_at 0 [] items) _ e c (zones_at-leads d e 0 [] items (optional_items d member_names.Zones [] d items refl zoned)) (λ zones _ f.
    failed (node_at zones 8 (at_key [] member_names.Root) nothing_seen root) _ e f
    (node_at-leads d e zones 8 (at_key [] member_names.Root) nothing_seen root (omega arith) (under_key d [] member_names.Root d root refl (found_by (value_of member_names.Root d) (faults.Form (at_key [] member_names.Root)) root rooted)))
    (λ _ _ end. absurd cc)))))
