-- What each step of the reader gives if there is no fault.
use Rattle.std.proofs.Common.{◌≡◌, ℕ, ◌+◌, ◌<◌, false, not, IsTrue, List, [], ◌∷◌, ◌++◌, Some, Ok, refl, sym, ◌∙◌, rules}
use Rattle.std.specs.Cmp.{IsEquivalence}
use Rattle.std.specs.Cmp.Rules.{comparing}
use Rattle.std.specs.List.{list_any}
use Rattle.std.proofs.lemmas.Bool.{lt-ltb, and_parts, and_from, or_parts, or_from, not-true, not_from_false}
use Rattle.std.proofs.lemmas.List.Folds.{list_any-append}
use Rattle.features.specs.Names as spelling
use Rattle.features.specs.declared.actors.Action.{Action}
use Rattle.features.specs.declared.actors.Action.TheVariants as actions
use Rattle.features.specs.Equality.{same_name}
use Rattle.policy_documents.specs.Documents.{are_distinct, is_zone_known}
use Rattle.policy_text.specs.Reading.{counted, within, fresh, known_in, algorithm_named, effect_named, action_named, Seen}
use Rattle.policy_text.specs.Printed.{algorithm_text, effect_text, action_text}
use Rattle.policy_text.specs.declared.paths.PathPart.{PathPart}
use Rattle.policy_documents.specs.declared.zones.Zone.{Zone}
use Rattle.policy_documents.specs.declared.algorithms.Algorithm.{Algorithm}
use Rattle.policy_documents.specs.declared.algorithms.Algorithm.TheVariants.{DenyOverrides, PermitOverrides, DenyUnlessPermit, PermitUnlessDeny, FirstApplicable}
use Rattle.policy_documents.specs.declared.algorithms.Effect.{Effect}
use Rattle.policy_documents.specs.declared.algorithms.Effect.TheVariants as effects
use Rattle.policy_documents.specs.declared.matches.Match.{Match}
use Rattle.policy_documents.specs.declared.matches.Match.TheVariants as matches

-- ---- words

pub name_read : (name : List ℕ) → IsTrue (spelling.is_name name) → spelling.name_of name ≡ Some name
name_read name h = rw h refl

pub algorithm_read : (a : Algorithm) → algorithm_named (algorithm_text a) ≡ Some a
algorithm_read DenyOverrides = refl
algorithm_read PermitOverrides = refl
algorithm_read DenyUnlessPermit = refl
algorithm_read PermitUnlessDeny = refl
algorithm_read FirstApplicable = refl

pub effect_read : (e : Effect) → effect_named (effect_text e) ≡ Some e
effect_read effects.Permit = refl
effect_read effects.Deny = refl

pub action_read : (a : Action) → action_named (action_text a) ≡ Some a
action_read actions.Read = refl
action_read actions.Add = refl
action_read actions.Reshape = refl
action_read actions.Delete = refl

-- ---- counts

pub counted_room : (path : List PathPart) (tests : ℕ) → tests < 4096 → counted path tests ≡ Ok (tests + 1)
counted_room path tests h = rw (lt-ltb tests 4096 h) refl

pub within_room : (path : List PathPart) (limit count : ℕ) → count < limit → within path limit count ≡ Ok (count + 1)
within_room path limit count h = rw (lt-ltb count limit h) refl

-- ---- names and zones that were seen before

pub fresh_read : (path : List PathPart) (name : List ℕ) (names : List (List ℕ)) → list_any (same_name name) names ≡ false → fresh path name names ≡ Ok (names ++ name ∷ [])
fresh_read path name names h = rw h refl

pub known_read : (zones : List Zone) (path : List PathPart) (m : Match) → IsTrue (is_zone_known zones m) → known_in zones path m ≡ Ok tt
known_read zones path (matches.Role name) h = refl
known_read zones path (matches.Office name) h = refl
known_read zones path (matches.Class name) h = refl
known_read zones path (matches.Owner name) h = refl
known_read zones path (matches.Zone name) h = rw h refl
known_read zones path (matches.Action action) h = refl

same_name-laws : IsEquivalence same_name
same_name-laws = search (comparing, rules)

-- a name differs from all names before it
pub distinct_behind : (xs : List (List ℕ)) (name : List ℕ) (ys : List (List ℕ)) → IsTrue (are_distinct (xs ++ name ∷ ys)) → list_any (same_name name) xs ≡ false
distinct_behind [] name ys h = refl
distinct_behind (x ∷ xs) name ys h =
    let parts = and_parts (not (list_any (same_name x) (xs ++ name ∷ ys))) (are_distinct (xs ++ name ∷ ys)) h in
    let absent = not-true (list_any (same_name x) (xs ++ name ∷ ys)) parts.0 in
    let apart = or_parts (list_any (same_name x) xs) (list_any (same_name x) (name ∷ ys)) (sym (list_any-append (same_name x) xs (name ∷ ys)) ∙ absent) in
    let here = or_parts (same_name x name) (list_any (same_name x) ys) apart.1 in
    or_from (same_name name x) (list_any (same_name name) xs) (same_name-laws.symm name x ∙ here.0) (distinct_behind xs name ys parts.1)

pub distinct_front : (xs ys : List (List ℕ)) → IsTrue (are_distinct (xs ++ ys)) → IsTrue (are_distinct xs)
distinct_front [] ys h = refl
distinct_front (x ∷ xs) ys h =
    let parts = and_parts (not (list_any (same_name x) (xs ++ ys))) (are_distinct (xs ++ ys)) h in
    let absent = not-true (list_any (same_name x) (xs ++ ys)) parts.0 in
    let apart = or_parts (list_any (same_name x) xs) (list_any (same_name x) ys) (sym (list_any-append (same_name x) xs ys) ∙ absent) in
    and_from (not (list_any (same_name x) xs)) (are_distinct xs) (not_from_false (list_any (same_name x) xs) apart.0) (distinct_front xs ys parts.1)

-- ---- what was seen, by its parts

abbrev pub seen_of : List (List ℕ) → ℕ → ℕ → ℕ → Seen
seen_of names nodes rules tests = record { names = names; nodes = nodes; rules = rules; tests = tests }

pub seen_same : {names names2 : List (List ℕ)} {nodes nodes2 rules rules2 tests tests2 : ℕ} → names ≡ names2 → nodes ≡ nodes2 → rules ≡ rules2 → tests ≡ tests2 →
    seen_of names nodes rules tests ≡ seen_of names2 nodes2 rules2 tests2
seen_same a b c d = rw (a, b, c, d) refl
