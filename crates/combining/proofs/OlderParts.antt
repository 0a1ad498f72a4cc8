-- The rules that made the decision of a set or a policy, for each of the three older algorithms.
use Rattle.std.proofs.Common.{◌≡◌, ℕ, Bool, true, false, ◌&&◌, ◌||◌, List, [], ◌∷◌, ◌++◌, map, refl, sym, ap, ◌∙◌, true≢false, if◌then◌else◌}
use Rattle.std.specs.List.{list_all, list_any}
use Rattle.std.proofs.lemmas.List.{length-map, map-append}
use Rattle.policy_documents.specs.declared.algorithms.Algorithm.{Algorithm}
use Rattle.policy_documents.specs.declared.algorithms.Algorithm.TheVariants.{DenyOverrides, PermitOverrides, DenyUnlessPermit, PermitUnlessDeny, FirstApplicable}
use Rattle.combining.specs.declared.questions.Question.{Question}
use Rattle.combining.specs.declared.decisions.Decision.{Decision}
use Rattle.combining.specs.declared.decisions.Decision.TheVariants.{Permit, Deny, NotApplicable}
use Rattle.combining.specs.Decisions.{is_not_applicable, first_applicable, combined}
use Rattle.combining.specs.Deciding.{Placed, is_decision, is_first_applicable, is_open, is_deciding, placed_within}
use Rattle.combining.specs.ThreeAlgorithms.{OlderPlaced, older_within, is_older, is_older_deciding}
use Rattle.combining.proofs.EnclosingLemmas.{around, list_all-push}
use Rattle.combining.proofs.PlacedLemmas.{length-placed_parts}
use Rattle.combining.proofs.FirstMarks.{mark, SameFirst, none, SameFirst-append, SameFirst-found, any_left, any_right}
use Rattle.combining.proofs.OlderDecisions.{same_decision, combined-among}
use Rattle.combining.proofs.OlderMarks.{marks, placed_marks, older_marks, Made, AllMade, no_parts, part_made, all_made-length, older_within_marks, marks-part, made_shut}

module _ (q : Question) (met : List (List ℕ)) (d : Decision) (applicable : is_not_applicable d ≡ false) where
  -- the decisions of parts
  abbrev pub decisions_in : List (Decision × List Placed) → List Decision
  decisions_in parts = map (λ part. part.0) parts

  -- under an overriding algorithm all parts count
  overriding-open : (a : Algorithm) (e : Decision) → is_first_applicable a ≡ false → is_decision d e ≡ true → (earlier : List Decision) → is_open d (around a e earlier) ≡ true
  overriding-open a e overrides same earlier = λ i. same i && (if overrides i then list_all is_not_applicable earlier else true)

  overriding-same : (a : Algorithm) (e : Decision) → is_first_applicable a ≡ false → is_decision d e ≡ true → (earlier : List Decision) →
      (parts : List (Decision × List Placed)) (older : List OlderPlaced) → AllMade q met d parts older →
      SameFirst (placed_marks q met d a e earlier parts) (older_marks q met d older)
  overriding-same a e overrides same earlier _ _ no_parts = none
  overriding-same a e overrides same earlier _ _ (part_made f ps older {parts} {others} made rest) =
      rw (marks-part q met d a e earlier (f, ps) parts (overriding-open a e overrides same earlier), map-append (is_older_deciding q met d) older others)
      (SameFirst-append _ _ _ _ made.same (overriding-same a e overrides same (earlier ++ f ∷ []) parts others rest))

  -- if one of the parts has the decision d, such a rule is found among them
  found-among : (b : Bool) (f : Decision) (ds : List Decision) (bs cs : List Bool) → is_decision d f ≡ b → (f ≡ d → list_any mark bs ≡ true) →
      (list_any (is_decision d) ds ≡ true → list_any mark cs ≡ true) → list_any (is_decision d) (f ∷ ds) ≡ true → list_any mark (bs ++ cs) ≡ true
  found-among true f ds bs cs is first behind some = any_left bs cs (first (same_decision d f is))
  found-among false f ds bs cs is first behind some = any_right bs cs (behind (ap (λ b. b || list_any (is_decision d) ds) (sym is) ∙ some))

  overriding-found : (a : Algorithm) (e : Decision) → is_first_applicable a ≡ false → is_decision d e ≡ true → (earlier : List Decision) →
      (parts : List (Decision × List Placed)) (older : List OlderPlaced) → AllMade q met d parts older → list_any (is_decision d) (decisions_in parts) ≡ true →
      list_any mark (placed_marks q met d a e earlier parts) ≡ true
  overriding-found a e overrides same earlier _ _ no_parts some = absurd (true≢false (sym some))
  overriding-found a e overrides same earlier _ _ (part_made f ps older {parts} {others} made rest) some =
      rw (marks-part q met d a e earlier (f, ps) parts (overriding-open a e overrides same earlier))
      (found-among (is_decision d f) f (decisions_in parts) (marks q met d ps) (placed_marks q met d a e (earlier ++ f ∷ []) parts) refl made.found (overriding-found a e overrides same (earlier ++ f ∷ []) parts others rest) some)

  made-overriding : (a : Algorithm) (e : Decision) (parts : List (Decision × List Placed)) (older : List OlderPlaced) → is_older a ≡ true → is_first_applicable a ≡ false →
      (e ≡ d → combined a (decisions_in parts) ≡ d) → is_decision d e ≡ true → AllMade q met d parts older →
      Made q met d e (placed_within q met a e [] parts) (map (older_within e) older)
  made-overriding a e parts older is_one overrides decided same all = record {
    same = rw (older_within_marks q met d e true same older) (overriding-same a e overrides same [] parts older all);
    found = λ is. overriding-found a e overrides same [] parts older all (combined-among a (decisions_in parts) d is_one overrides applicable (decided is));
  }

  -- under first-applicable the parts count up to the first applicable one, which has such a rule
  first-open : (e : Decision) → is_decision d e ≡ true → (earlier : List Decision) → list_all is_not_applicable earlier ≡ true → is_open d (around FirstApplicable e earlier) ≡ true
  first-open e same earlier still = λ i. same i && still i

  record FirstMade (ps : List Placed) (older : List OlderPlaced) : Type 0 where
    same : SameFirst (marks q met d ps) (older_marks q met d older)
    found : list_any mark (marks q met d ps) ≡ true

  first-stops : (e : Decision) (earlier : List Decision) (f : Decision) (ps : List Placed) (older : List OlderPlaced) (parts : List (Decision × List Placed)) (others : List OlderPlaced) →
      is_open d (around FirstApplicable e earlier) ≡ true → Made q met d f ps older → AllMade q met d parts others → f ≡ d →
      FirstMade (placed_within q met FirstApplicable e earlier ((f, ps) ∷ parts)) (older ++ others)
  first-stops e earlier f ps older parts others opened made rest is = record {
    same =
        rw (marks-part q met d FirstApplicable e earlier (f, ps) parts opened, map-append (is_older_deciding q met d) older others)
        (SameFirst-found _ _ _ _ made.same (made.found is) (length-map _ (is_deciding q met d)
        ∙ length-placed_parts q met FirstApplicable e parts (earlier ++ f ∷ []) ∙ all_made-length q met d parts others rest ∙ sym (length-map others (is_older_deciding q met d))));
    found = rw (marks-part q met d FirstApplicable e earlier (f, ps) parts opened) (any_left (marks q met d ps) (placed_marks q met d FirstApplicable e (earlier ++ f ∷ []) parts) (made.found is));
  }

  first-made : (e : Decision) → is_decision d e ≡ true → (earlier : List Decision) → list_all is_not_applicable earlier ≡ true →
      (parts : List (Decision × List Placed)) (older : List OlderPlaced) → AllMade q met d parts older → first_applicable (decisions_in parts) ≡ d →
      FirstMade (placed_within q met FirstApplicable e earlier parts) older
  first-made e same earlier still _ _ no_parts is = absurd (true≢false (ap is_not_applicable is ∙ applicable))
  first-made e same earlier still _ _ (part_made Permit ps older {parts} {others} made rest) is =
      first-stops e earlier Permit ps older parts others (first-open e same earlier still) made rest is
  first-made e same earlier still _ _ (part_made Deny ps older {parts} {others} made rest) is =
      first-stops e earlier Deny ps older parts others (first-open e same earlier still) made rest is
  first-made e same earlier still _ _ (part_made NotApplicable ps older {parts} {others} made rest) is =
      let opened = first-open e same earlier still in
      let behind = first-made e same (earlier ++ NotApplicable ∷ []) (list_all-push earlier NotApplicable ∙ ap (λ b. b && true) still) parts others rest is in record {
        same =
            rw (marks-part q met d FirstApplicable e earlier (NotApplicable, ps) parts opened, map-append (is_older_deciding q met d) older others)
            (SameFirst-append _ _ _ _ made.same behind.same);
        found = rw (marks-part q met d FirstApplicable e earlier (NotApplicable, ps) parts opened) (any_right (marks q met d ps) (placed_marks q met d FirstApplicable e (earlier ++ NotApplicable ∷ []) parts) behind.found);
      }

  made-first : (e : Decision) (parts : List (Decision × List Placed)) (older : List OlderPlaced) → (e ≡ d → first_applicable (decisions_in parts) ≡ d) →
      is_decision d e ≡ true → AllMade q met d parts older →
      Made q met d e (placed_within q met FirstApplicable e [] parts) (map (older_within e) older)
  made-first e parts older decided same all =
      let told = first-made e same [] refl parts older all (decided (same_decision d e same)) in
      record { same = rw (older_within_marks q met d e true same older) told.same; found = λ is. told.found }

  -- a set or a policy that has the decision d, and one that has another
  made-by : (b : Bool) (a : Algorithm) (e : Decision) (parts : List (Decision × List Placed)) (older : List OlderPlaced) → is_older a ≡ true →
      (e ≡ d → combined a (decisions_in parts) ≡ d) → AllMade q met d parts older → is_decision d e ≡ b →
      Made q met d e (placed_within q met a e [] parts) (map (older_within e) older)
  made-by false a e parts older is_one decided all other = made_shut q met d a e parts older other all
  made-by true DenyOverrides e parts older is_one decided all same = made-overriding DenyOverrides e parts older refl refl decided same all
  made-by true PermitOverrides e parts older is_one decided all same = made-overriding PermitOverrides e parts older refl refl decided same all
  made-by true FirstApplicable e parts older is_one decided all same = made-first e parts older decided same all
  made-by true DenyUnlessPermit e parts older is_one decided all same = absurd (true≢false (sym is_one))
  made-by true PermitUnlessDeny e parts older is_one decided all same = absurd (true≢false (sym is_one))

  pub made_within : (a : Algorithm) (e : Decision) (parts : List (Decision × List Placed)) (older : List OlderPlaced) → is_older a ≡ true →
      (e ≡ d → combined a (decisions_in parts) ≡ d) → AllMade q met d parts older →
      Made q met d e (placed_within q met a e [] parts) (map (older_within e) older)
  made_within a e parts older is_one decided all = made-by (is_decision d e) a e parts older is_one decided all refl
