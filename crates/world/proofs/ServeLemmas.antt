-- After a call of its own the index still serves the world.
use Rattle.std.proofs.Common.{◌≡◌, ℕ, ◌+◌, Bool, true, false, List, [], ◌∷◌, ◌++◌, length, length-append, Option, Some, None, Result, Ok, Err, is_some, refl, sym, ap, subst, ◌∙◌, arith, inl, inr, IsTrue, IfOk, OnErr}
use Rattle.std.specs.List.{Contains}
use Rattle.std.specs.Option.{option_map}
use Rattle.std.proofs.lemmas.Bool.{cases_eq}
use Rattle.std.proofs.lemmas.List.Elements.{Contains-append_left, Contains-append_cases, Contains-push}
use Rattle.std.proofs.lemmas.List.Sorted.{Contains-permutation}
use Rattle.plane.specs.declared.point.Point.{Point}
use Rattle.predicate_locks.specs.Searches.{Searches as Running}
use Rattle.features.specs.declared.actors.Subject.{Subject}
use Rattle.decision.specs.Deciders.{DeciderData}
use Rattle.plain_world.specs.declared.open_searches.Search.{Search}
use Rattle.plain_world.specs.declared.settings.Limits.{Limits}
use Rattle.plain_world.specs.declared.settings.Starts.{Starts}
use Rattle.plain_world.specs.Admitting.{search_with}
use Rattle.plain_world.specs.Events.{with_ready, without_search}
use Rattle.plain_world.specs.Keeping.{is_kept}
use Rattle.plain_world.specs.Laws.{IsOrdered, IsUnderWay}
use Rattle.plain_world.specs.Staging.{TransactionData, transaction_with, next_placement, with_step, one_placed}
use Rattle.plain_world.specs.States.{WorldData, opened}
use Rattle.search_tree.specs.Advances.{HasPlacedBehindNone}
use Rattle.search_tree.specs.Calls.{SameContents, IsOpen, IsShut, IsFurther}
use Rattle.search_tree.specs.Tends.{HasTended, ContentsTended}
use Rattle.search_tree.specs.Trees.{IsFirst, SeenSearch, search_in}
use Rattle.tree_answers.specs.declared.fault.TreeFault.{TreeFault}
use Rattle.tree_answers.specs.declared.answers.Tending.{Tending}
use Rattle.tree_answers.specs.declared.answers.Tending.TheVariants.{Idle, Freed, Installed, Cleaned, Retired}
use Rattle.world.specs.Index.{Index, IndexServes, frames, seen_there, told_here}
use Rattle.world.proofs.KeptLemmas.{world_kept}
use Rattle.world.proofs.PairLemmas.{features_more, placements_more, placed_more}
use Rattle.world.proofs.SearchLemmas.{pushed_here, pushed_other, ready_here, ready_other, ready_length, gone_here, gone_other, one_less}

abbrev Seen : Type 0
Seen = SeenSearch (List Point) (List Point)

-- ---- a search in the world and in the index

pub none_of : {A B : Type 0} (f : A → B) (o : Option A) → option_map f o ≡ None → o ≡ None
none_of f None e = refl
none_of f (Some x) e = absurd cc

pub some_of : {A B : Type 0} (f : A → B) (o : Option A) (y : B) → option_map f o ≡ Some y → (x : A) × (o ≡ Some x) × (f x ≡ y)
some_of f None y e = absurd cc
some_of f (Some x) y e = (x, refl, cc (e))

-- a search that is open in the world is open in the index, with the same window and as ready
pub seen_of : (w : WorldData) (t : Index) (number : ℕ) (s : Search) → IndexServes w t → search_with number w.searches ≡ Some s → (seen : Seen) × (search_in t number ≡ Some seen) × (seen.query ≡ s.window) × (seen.ready ≡ s.ready)
seen_of w t number s h is =
    let there = some_of seen_there (search_in t number) (told_here s) (h.searches number ∙ ap (option_map told_here) is) in
    (there.0, there.1, ap (λ (p : List Point × Bool). p.0) there.2, ap (λ (p : List Point × Bool). p.1) there.2)

-- a search that is open in the index is open in the world
pub told_of : (w : WorldData) (t : Index) (number : ℕ) (seen : Seen) → IndexServes w t → search_in t number ≡ Some seen → (s : Search) × (search_with number w.searches ≡ Some s) × (s.window ≡ seen.query) × (s.ready ≡ seen.ready)
told_of w t number seen h is =
    let here = some_of told_here (search_with number w.searches) (seen_there seen) (sym (h.searches number) ∙ ap (option_map seen_there) is) in
    (here.0, here.1, ap (λ (p : List Point × Bool). p.0) here.2, ap (λ (p : List Point × Bool). p.1) here.2)

-- ---- the index's own steps

pub serves_alike : (w : WorldData) (t u : Index) → IndexServes w t → SameContents frames t u → ((number : ℕ) → search_in u number ≡ search_in t number) → u.running ≡ t.running → u.limit ≡ t.limit → IndexServes w u
serves_alike w t u h contents searches running limit = record {
  contents = h.contents;
  are_contents = contents h.contents h.are_contents;
  features = h.features;
  placements = h.placements;
  searches = λ number. ap (option_map seen_there) (searches number) ∙ h.searches number;
  as_many = ap (λ (r : Running (List Point)). length r.running) running ∙ h.as_many;
  next = ap (λ (r : Running (List Point)). r.next) running ∙ h.next;
  limit = limit ∙ h.limit;
}

-- the next shape of a transaction is placed
pub serves_placed : (w : WorldData) (t u : Index) (number : ℕ) (pair : ℕ × List Point) → IndexServes w t → HasPlacedBehindNone frames t u pair
    → ((tr : TransactionData) → transaction_with number w.transactions ≡ Some tr → next_placement tr ≡ Some pair) → IndexServes (record w { transactions = with_step one_placed number w.transactions }) u
serves_placed w t u number pair h placed next =
    let more = λ (p : ℕ × List Point) (has : Contains h.contents p). Contains-append_left h.contents (pair ∷ []) p has in
    record {
      contents = h.contents ++ pair ∷ [];
      are_contents = placed.placed.contents h.contents h.are_contents;
      features = features_more h.contents (h.contents ++ pair ∷ []) more w.state.features h.features;
      placements = placed_more (h.contents ++ pair ∷ []) number w.transactions (λ tr is. (pair, next tr is, Contains-push h.contents pair)) (placements_more h.contents (h.contents ++ pair ∷ []) more w.transactions h.placements);
      searches = λ number. ap (option_map seen_there) (placed.placed.searches number) ∙ h.searches number;
      as_many = ap (λ (r : Running (List Point)). length r.running) placed.placed.running ∙ h.as_many;
      next = ap (λ (r : Running (List Point)). r.next) placed.placed.running ∙ h.next;
      limit = placed.placed.counts.limit ∙ h.limit;
    }

-- a search is opened
pub serves_opened : (w : WorldData) (t u : Index) (seat number search : ℕ) (window : List Point) → IndexServes w t → number ≡ w.next_search → IsOpen frames t u window search
    → IndexServes (record w { searches = w.searches ++ record { number = number; seat = seat; window = window; ready = false } ∷ []; next_search = number + 1 }) u
serves_opened w t u seat number search window h next opens =
    let same : search ≡ number = opens.number ∙ (h.next ∙ sym next) in
    let new : Search = record { number = number; seat = seat; window = window; ready = false } in
    let runs : search_in u number ≡ Some (record { query = window; found = []; ready = false }) = subst (λ (n : ℕ). search_in u n ≡ Some (record { query = window; found = []; ready = false })) same opens.runs in
    let free : search_in t number ≡ None = subst (λ (n : ℕ). search_in t n ≡ None) same opens.did_not_run in
    let none : search_with number w.searches ≡ None = none_of told_here (search_with number w.searches) (sym (h.searches number) ∙ ap (option_map seen_there) free) in
    record {
      contents = h.contents;
      are_contents = opens.contents h.contents h.are_contents;
      features = h.features;
      placements = h.placements;
      searches = λ n. elim (cases_eq n number) [
        | inl e ↦ subst (λ (n : ℕ). option_map seen_there (search_in u n) ≡ option_map told_here (search_with n (w.searches ++ new ∷ []))) (sym e) (ap (option_map seen_there) runs ∙ sym (ap (option_map told_here) (pushed_here w.searches new none)))
        | inr apart ↦ ap (option_map seen_there) (opens.others n (λ e. apart (e ∙ same))) ∙ (h.searches n ∙ sym (ap (option_map told_here) (pushed_other n w.searches new (λ e. apart (sym e)))))
      ];
      as_many = let more = opens.more in let many = h.as_many in let longer = length-append w.searches (new ∷ []) in omega (arith, more, many, longer);
      next = let up = opens.next in let was = h.next in omega (arith, up, was, next);
      limit = opens.counts.limit ∙ h.limit;
    }

-- a search ends
pub serves_shut : (w : WorldData) (t u : Index) (number : ℕ) (s : Search) → IndexServes w t → IsUnderWay w → search_with number w.searches ≡ Some s → IsShut frames t u number → IndexServes (without_search number w) u
serves_shut w t u number s h way is shut = record {
  contents = h.contents;
  are_contents = shut.contents h.contents h.are_contents;
  features = h.features;
  placements = h.placements;
  searches = λ n. elim (cases_eq n number) [
    | inl e ↦ subst (λ (n : ℕ). option_map seen_there (search_in u n) ≡ option_map told_here (search_with n (without_search number w).searches)) (sym e) (ap (option_map seen_there) shut.gone ∙ sym (ap (option_map told_here) (gone_here number w.searches)))
    | inr apart ↦ ap (option_map seen_there) (shut.others n apart) ∙ (h.searches n ∙ sym (ap (option_map told_here) (gone_other number n w.searches apart)))
  ];
  as_many =
      let seen = seen_of w t number s h is in
      let fewer = shut.fewer (ap is_some seen.1) in
      let less = one_less number w.next_search w.searches s way.searches is in
      let many = h.as_many in
      omega (arith, fewer, less, many);
  next = shut.next ∙ h.next;
  limit = shut.counts.limit ∙ h.limit;
}

-- ---- visits

-- there is more to see
pub serves_more : (w : WorldData) (t u : Index) (number : ℕ) (s : Search) → IndexServes w t → search_with number w.searches ≡ Some s → IsFurther frames t u number false → (s.ready ≡ false) × IndexServes w u
serves_more w t u number s h is further =
    let seen = seen_of w t number s h is in
    let same : further.before ≡ seen.0 = cc (further.ran, seen.1) in
    let unready : s.ready ≡ false = sym seen.3 ∙ (sym (ap (λ (x : Seen). x.ready) same) ∙ further.was_not_ready) in
    let window : further.before.query ≡ s.window = ap (λ (x : Seen). x.query) same ∙ seen.2 in (
      unready,
      record {
        contents = h.contents;
        are_contents = further.contents h.contents h.are_contents;
        features = h.features;
        placements = h.placements;
        searches = λ n. elim (cases_eq n number) [
          | inl e ↦ subst (λ (n : ℕ). option_map seen_there (search_in u n) ≡ option_map told_here (search_with n w.searches)) (sym e)
              (ap (option_map seen_there) further.now ∙ (ap (λ (q : List Point). Some (q, false)) window ∙ (ap (λ (b : Bool). Some (s.window, b)) (sym unready) ∙ sym (ap (option_map told_here) is))))
          | inr apart ↦ ap (option_map seen_there) ((further.others n apart).0) ∙ h.searches n
        ];
        as_many = ap (λ (r : Running (List Point)). length r.running) further.running ∙ h.as_many;
        next = ap (λ (r : Running (List Point)). r.next) further.running ∙ h.next;
        limit = further.counts.limit ∙ h.limit;
      },
    )

-- the search is ready
pub serves_ready : (w : WorldData) (t u : Index) (number : ℕ) (s : Search) → IndexServes w t → search_with number w.searches ≡ Some s → IsFurther frames t u number true
    → (s.ready ≡ false) × IndexServes (record w { searches = with_ready number w.searches }) u
serves_ready w t u number s h is further =
    let seen = seen_of w t number s h is in
    let same : further.before ≡ seen.0 = cc (further.ran, seen.1) in
    let unready : s.ready ≡ false = sym seen.3 ∙ (sym (ap (λ (x : Seen). x.ready) same) ∙ further.was_not_ready) in
    let window : further.before.query ≡ s.window = ap (λ (x : Seen). x.query) same ∙ seen.2 in (
      unready,
      record {
        contents = h.contents;
        are_contents = further.contents h.contents h.are_contents;
        features = h.features;
        placements = h.placements;
        searches = λ n. elim (cases_eq n number) [
          | inl e ↦ subst (λ (n : ℕ). option_map seen_there (search_in u n) ≡ option_map told_here (search_with n (with_ready number w.searches))) (sym e)
              (ap (option_map seen_there) further.now ∙ (ap (λ (q : List Point). Some (q, true)) window ∙ sym (ap (option_map told_here) (ready_here number w.searches s is))))
          | inr apart ↦ ap (option_map seen_there) ((further.others n apart).0) ∙ (h.searches n ∙ sym (ap (option_map told_here) (ready_other number n w.searches apart)))
        ];
        as_many = ap (λ (r : Running (List Point)). length r.running) further.running ∙ (h.as_many ∙ sym (ready_length number w.searches));
        next = ap (λ (r : Running (List Point)). r.next) further.running ∙ h.next;
        limit = further.counts.limit ∙ h.limit;
      },
    )

-- ---- tending

pub serves_tended : (w : WorldData) (t u : Index) (tending : Tending) → IsOrdered w → IndexServes w t → HasTended frames t u tending → ContentsTended frames t (λ pair. IsTrue (is_kept pair.0 pair.1 w)) u tending → IndexServes w u
serves_tended w t u Idle ordered h tended contents = serves_alike w t u h contents tended.searches tended.running tended.limit
serves_tended w t u Freed ordered h tended contents = serves_alike w t u h contents tended.searches tended.running tended.limit
serves_tended w t u Installed ordered h tended contents = serves_alike w t u h contents tended.searches tended.running tended.limit
serves_tended w t u Retired ordered h tended contents = serves_alike w t u h contents tended.searches tended.running tended.limit
serves_tended w t u Cleaned ordered h tended contents =
    let left = contents h.contents h.are_contents in
    let loses = left.2 in
    let kept = world_kept h.contents left.0 w ordered.sorted
    (λ pair keep has. elim (Contains-append_cases left.0 loses.lost pair (Contains-permutation h.contents (left.0 ++ loses.lost) pair loses.same has)) [
      | inl stays ↦ stays
      | inr lost ↦ absurd (loses.none_kept pair lost keep)
    ]) h.features h.placements in
    record {
      contents = left.0;
      are_contents = left.1;
      features = kept.0;
      placements = kept.1;
      searches = λ number. ap (option_map seen_there) (tended.searches number) ∙ h.searches number;
      as_many = ap (λ (r : Running (List Point)). length r.running) tended.running ∙ h.as_many;
      next = ap (λ (r : Running (List Point)). r.next) tended.running ∙ h.next;
      limit = tended.limit ∙ h.limit;
    }

-- ---- a world that has just been opened

pub serves_first : (subjects : List Subject) (decider : DeciderData) (starts : Starts) (limits : Limits) (t : Index) → IsFirst frames starts.generation starts.counter starts.search limits.steps t → IndexServes (opened subjects decider starts limits) t
serves_first subjects decider starts limits t first = record {
  contents = [];
  are_contents = first.contents;
  features = tt;
  placements = tt;
  searches = λ number. ap (option_map seen_there) (first.searches number);
  as_many = ap length first.none_run;
  next = first.next_is;
  limit = first.limit_is;
}

-- tending, with any answer
pub serves_after_tending : (w : WorldData) (t u : Index) (result : Result Tending TreeFault) → IsOrdered w → IndexServes w t → IfOk result (HasTended frames t u) → IfOk result (ContentsTended frames t (λ pair. IsTrue (is_kept pair.0 pair.1 w)) u) → OnErr result (u ≡ t) → IndexServes w u
serves_after_tending w t u (Ok tending) ordered h tended contents same = serves_tended w t u tending ordered h tended contents
serves_after_tending w t u (Err fault) ordered h tended contents same = subst (λ (x : Index). IndexServes w x) (sym same) h
