-- Matches that were read: their count, zones and spelling, and that no list of them is empty.
use Rattle.std.proofs.Common.{◌≡◌, ℕ, ◌+◌, ◌≤◌, Bool, true, ◌&&◌, IsTrue, if◌then◌else◌, List, [], ◌∷◌, ◌++◌, flat_map, refl, sym, subst, ◌∙◌, arith, Result, Ok, Err}
use Rattle.std.specs.List.{list_any, list_all}
use Rattle.std.proofs.lemmas.Bool.{and_from}
use Rattle.std.proofs.lemmas.List.Folds.{list_all-append}
use Rattle.features.specs.Names as spelling
use Rattle.serde_json.specs.Data.{Data, Items}
use Rattle.policy_documents.specs.Documents.{is_zone_known, is_match_spelled}
use Rattle.features.specs.Equality.{same_name}
use Rattle.policy_text.specs.Reading.{◌>>=◌, has_key, name_in, action_in, match_in, known_in, counted, match_at, each_at}
use Rattle.policy_documents.specs.declared.zones.Zone.{Zone}
use Rattle.policy_text.specs.declared.paths.MemberName.{MemberName}
use Rattle.policy_text.specs.declared.paths.MemberName.TheVariants as member_names
use Rattle.policy_text.specs.declared.paths.PathPart.{PathPart}
use Rattle.policy_documents.specs.declared.matches.Match.{Match}
use Rattle.policy_documents.specs.declared.matches.Match.TheVariants as matches
use Rattle.policy_text.specs.declared.faults.TextFault.{TextFault}
use Rattle.policy_text.proofs.ChainLemmas.{bound, same_value, taken, either, name_in-spelled, within-read, each_at-read}

-- the matches of a part, and the count of matches and atoms, given the count before the part
pub record IsTested (zones : List Zone) (before size : ℕ) (found : List Match) (full : Bool) (after : ℕ) : Type 0 where
  pub count : after ≡ before + size
  pub within : before ≤ 4096 → after ≤ 4096
  pub known : IsTrue (list_all (is_zone_known zones) found)
  pub spelled : IsTrue (list_all is_match_spelled found)
  pub filled : IsTrue full

pub all_append : {X : Type 0} (p : X → Bool) (xs ys : List X) → IsTrue (list_all p xs) → IsTrue (list_all p ys) → IsTrue (list_all p (xs ++ ys))
all_append p xs ys h k = list_all-append p xs ys ∙ and_from _ _ h k

-- the sizes of several, added up
abbrev pub sizes_of : {X : Type 0} → (X → ℕ) → List X → ℕ
sizes_of size [] = 0
sizes_of size (x ∷ xs) = size x + sizes_of size xs

pub counted-read : (path : List PathPart) (before after : ℕ) → counted path before ≡ Ok after → (after ≡ before + 1) × (after ≤ 4096)
counted-read path before after told = let w = within-read path 4096 before after told in (sym w.1, omega (arith, w.0, w.1))

module _ (path : List PathPart) (d : Data) where
  named : (key : MemberName) (make : List ℕ → Match) (m : Match) → ((name : List ℕ) → IsTrue (spelling.is_name name) → IsTrue (is_match_spelled (make name))) →
      (name_in key path d >>= λ name. Ok (make name)) ≡ Ok m → IsTrue (is_match_spelled m)
  named key make m spelled told = bound (name_in key path d) (λ name. Ok (make name)) m told (λ name found end.
      subst (λ x. IsTrue (is_match_spelled x)) (same_value (make name) m end) (spelled name (name_in-spelled key path d name found)))

  acted : (m : Match) → (action_in path d >>= λ action. Ok (matches.Action action)) ≡ Ok m → IsTrue (is_match_spelled m)
  acted m told = bound (action_in path d) (λ action. Ok (matches.Action action)) m told (λ action _ end.
      subst (λ x. IsTrue (is_match_spelled x)) (same_value (matches.Action action) m end) refl)

  pub match_in-spelled : (m : Match) → match_in path d ≡ Ok m → IsTrue (is_match_spelled m)
  unfolding match_in
  match_in-spelled m =
      either spelled (has_key member_names.Role d) _ _ m (named member_names.Role matches.Role m (λ _ h. h))
      (either spelled (has_key member_names.Office d) _ _ m (named member_names.Office matches.Office m (λ _ h. h))
      (either spelled (has_key member_names.Class d) _ _ m (named member_names.Class matches.Class m (λ _ h. h))
      (either spelled (has_key member_names.Owner d) _ _ m (named member_names.Owner matches.Owner m (λ _ h. h))
      (either spelled (has_key member_names.Zone d) _ _ m (named member_names.Zone matches.Zone m (λ _ h. h)) (acted m)))))
    where
      spelled : Match → Type 0
      spelled x = IsTrue (is_match_spelled x)

module _ (zones : List Zone) where
  pub nothing_tested : (before : ℕ) → IsTested zones before 0 [] true before
  nothing_tested before = record { count = omega arith; within = λ h. h; known = refl; spelled = refl; filled = refl }

  pub then_tested : (a b c s t : ℕ) (xs ys : List Match) (f g : Bool) → IsTested zones a s xs f b → IsTested zones b t ys g c → IsTested zones a (s + t) (xs ++ ys) (f && g) c
  then_tested a b c s t xs ys f g h k = record {
    count = omega (arith, h.count, k.count);
    within = λ low. k.within (h.within low);
    known = all_append (is_zone_known zones) xs ys h.known k.known;
    spelled = all_append is_match_spelled xs ys h.spelled k.spelled;
    filled = and_from f g h.filled k.filled;
  }

  module _ {X : Type 0} (read : List PathPart → ℕ → Data → Result (X × ℕ) TextFault) (size : X → ℕ) (found : X → List Match) (full : X → Bool)
      (reads : (path : List PathPart) (a : ℕ) (d : Data) (r : X × ℕ) → read path a d ≡ Ok r → IsTested zones a (size r.0) (found r.0) (full r.0) r.1) where
    pub each_tested : (path : List PathPart) (i a : ℕ) (items : Items) (r : List X × ℕ) → each_at read path i a items ≡ Ok r →
        IsTested zones a (sizes_of size r.0) (flat_map found r.0) (list_all full r.0) r.1
    each_tested = each_at-read read (λ a x b. IsTested zones a (size x) (found x) (full x) b)
        (λ a xs b. IsTested zones a (sizes_of size xs) (flat_map found xs) (list_all full xs) b)
        nothing_tested (λ a b c x xs one others. then_tested a b c (size x) (sizes_of size xs) (found x) (flat_map found xs) (full x) (list_all full xs) one others) reads

  known_if : (b : Bool) (u : Unit {0}) (e : TextFault) → (if b then Ok tt else Err e) ≡ Ok u → b ≡ true
  known_if b u e told = (taken b tt u e told).0

  pub known_in-known : (path : List PathPart) (m : Match) (u : Unit {0}) → known_in zones path m ≡ Ok u → IsTrue (is_zone_known zones m)
  known_in-known path (matches.Zone name) u told = known_if (list_any (λ z. same_name name z.name) zones) u _ told
  known_in-known path (matches.Role name) u told = refl
  known_in-known path (matches.Office name) u told = refl
  known_in-known path (matches.Class name) u told = refl
  known_in-known path (matches.Owner name) u told = refl
  known_in-known path (matches.Action action) u told = refl

  -- one match
  tested : (path : List PathPart) (a b : ℕ) (m : Match) → IsTrue (is_zone_known zones m) → IsTrue (is_match_spelled m) → counted path a ≡ Ok b → IsTested zones a 1 (m ∷ []) true b
  tested path a b m known spelled told = let c = counted-read path a b told in
      record { count = c.0; within = λ _. c.1; known = and_from _ true known refl; spelled = and_from _ true spelled refl; filled = refl }

  pub match_at-tested : (path : List PathPart) (a : ℕ) (d : Data) (r : Match × ℕ) → match_at zones path a d ≡ Ok r → IsTested zones a 1 (r.0 ∷ []) true r.1
  unfolding match_at
  match_at-tested path a d r told = bound _ _ r told (λ _ _ found. bound _ _ r found (λ m read known. bound _ _ r known (λ u there counting. bound _ _ r counting (λ n counted end.
      subst (λ q. IsTested zones a 1 (q.0 ∷ []) true q.1) (same_value (m, n) r end)
      (tested path a n m (known_in-known path m u there) (match_in-spelled path d m read) counted)))))
