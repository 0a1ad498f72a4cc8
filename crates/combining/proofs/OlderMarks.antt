-- The rules that made a decision, in a document that uses only the three older algorithms.
use Rattle.std.proofs.Common.{◌≡◌, ℕ, Bool, true, false, ◌&&◌, List, [], ◌∷◌, ◌++◌, length, map, refl, sym, ap, ◌∙◌, true≢false, if◌then◌else◌, arith, length-append}
use Rattle.std.specs.List.{list_all, list_any}
use Rattle.std.proofs.lemmas.List.{length-map, map-append}
use Rattle.policy_documents.specs.declared.algorithms.Algorithm.{Algorithm}
use Rattle.combining.specs.declared.questions.Question.{Question}
use Rattle.combining.specs.declared.decisions.Decision.{Decision}
use Rattle.combining.specs.Decisions.{is_not_applicable}
use Rattle.combining.specs.Deciding.{Placed, Enclosing, within, is_decision, is_first_applicable, is_open, is_deciding, placed_within}
use Rattle.combining.specs.ThreeAlgorithms.{OlderPlaced, older_within, is_older_deciding}
use Rattle.combining.proofs.EnclosingLemmas.{around, and_and}
use Rattle.combining.proofs.PlacedLemmas.{sizes_of, length-placed_parts}
use Rattle.combining.proofs.FirstMarks.{mark, unmarked, SameFirst, SameFirst-length, SameFirst-unmarked, map-changed, map-unmarked}
use Rattle.combining.proofs.OlderDecisions.{is_decision-refl}

-- the marks of the rules that made the decision d, by both definitions
module _ (q : Question) (met : List (List ℕ)) (d : Decision) where
  abbrev pub marks : List Placed → List Bool
  marks ps = map (is_deciding q met d) ps

  abbrev pub older_marks : List OlderPlaced → List Bool
  older_marks ps = map (is_older_deciding q met d) ps

  -- the same of the parts of a set or a policy
  abbrev pub placed_marks : Algorithm → Decision → List Decision → List (Decision × List Placed) → List Bool
  placed_marks a e earlier parts = marks (placed_within q met a e earlier parts)

  -- both definitions mark the same rule first, and a part with the decision d has such a rule
  pub record Made (e : Decision) (ps : List Placed) (older : List OlderPlaced) : Type 0 where
    pub same : SameFirst (marks ps) (older_marks older)
    pub found : e ≡ d → list_any mark (marks ps) ≡ true

  -- the same of each part of a set or a policy
  pub data AllMade : List (Decision × List Placed) → List OlderPlaced → Type 0 where
    no_parts : AllMade [] []
    part_made : (e : Decision) → (ps : List Placed) → (older : List OlderPlaced) → {parts : List (Decision × List Placed)} → {others : List OlderPlaced} →
        Made e ps older → AllMade parts others → AllMade ((e, ps) ∷ parts) (older ++ others)

  pub all_made-length : (parts : List (Decision × List Placed)) (older : List OlderPlaced) → AllMade parts older → sizes_of parts ≡ length older
  all_made-length _ _ no_parts = refl
  all_made-length _ _ (part_made e ps older {parts} {others} made rest) =
      let first : length (marks ps) ≡ length (older_marks older) = SameFirst-length _ _ made.same in
      let behind : sizes_of parts ≡ length others = all_made-length parts others rest in
      omega (arith, length-map ps (is_deciding q met d), length-map older (is_older_deciding q met d), length-append older others)

  -- what is around rules keeps their marks, or removes all of them
  within_marks : (e : Enclosing) (b : Bool) → is_open d e ≡ b → (ps : List Placed) → marks (map (within e) ps) ≡ map (λ p. b && is_deciding q met d p) ps
  within_marks e b is ps = map-changed (is_deciding q met d) _ (within e)
      (λ p. and_and (is_open d e) _ _ ∙ ap (λ c. c && is_deciding q met d p) is) ps

  pub older_within_marks : (e : Decision) (b : Bool) → is_decision d e ≡ b → (ps : List OlderPlaced) → older_marks (map (older_within e) ps) ≡ map (λ p. b && is_older_deciding q met d p) ps
  older_within_marks e b is ps = map-changed (is_older_deciding q met d) _ (older_within e)
      (λ p. and_and (is_decision d e) _ _ ∙ ap (λ c. c && is_older_deciding q met d p) is) ps

  -- the marks of one part, followed by those of the parts after it
  pub marks-part : (a : Algorithm) (e : Decision) (earlier : List Decision) (part : Decision × List Placed) (parts : List (Decision × List Placed)) →
      is_open d (around a e earlier) ≡ true →
      placed_marks a e earlier (part ∷ parts) ≡ marks part.1 ++ placed_marks a e (earlier ++ part.0 ∷ []) parts
  marks-part a e earlier part parts opened =
      map-append (is_deciding q met d) (map (within (around a e earlier)) part.1) (placed_within q met a e (earlier ++ part.0 ∷ []) parts)
      ∙ ap (λ bs. bs ++ placed_marks a e (earlier ++ part.0 ∷ []) parts) (within_marks (around a e earlier) true opened part.1)

  -- in a set or a policy with another decision no rule counts
  shut_within : (a : Algorithm) (e : Decision) → is_decision d e ≡ false → (earlier : List Decision) (parts : List (Decision × List Placed)) →
      placed_marks a e earlier parts ≡ map unmarked (placed_within q met a e earlier parts)
  shut_within a e other earlier [] = refl
  shut_within a e other earlier (part ∷ parts) =
      let around_part = around a e earlier in
      let behind = placed_within q met a e (earlier ++ part.0 ∷ []) parts in
      let shut : is_open d around_part ≡ false = ap (λ b. b && (if is_first_applicable a then list_all is_not_applicable earlier else true)) other in
      map-append (is_deciding q met d) (map (within around_part) part.1) behind
      ∙ (λ i. (within_marks around_part false shut part.1 ∙ sym (map-unmarked (within around_part) part.1)) i ++ shut_within a e other (earlier ++ part.0 ∷ []) parts i)
      ∙ sym (map-append unmarked (map (within around_part) part.1) behind)

  pub made_shut : (a : Algorithm) (e : Decision) (parts : List (Decision × List Placed)) (older : List OlderPlaced) → is_decision d e ≡ false → AllMade parts older →
      Made e (placed_within q met a e [] parts) (map (older_within e) older)
  made_shut a e parts older other all = record {
    same = rw (shut_within a e other [] parts, older_within_marks e false other older)
        (SameFirst-unmarked _ _ (length-placed_parts q met a e parts [] ∙ all_made-length parts older all));
    found = λ is. absurd (true≢false (sym (is_decision-refl d) ∙ ap (is_decision d) (sym is) ∙ other));
  }
