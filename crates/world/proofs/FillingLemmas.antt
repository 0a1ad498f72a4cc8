-- An index gets pairs.
use Rattle.std.proofs.Common.{◌≡◌, ℕ, zero, suc, take, slice_get, Some, List, [], ◌∷◌, ◌++◌, map, length, append-nil, append_assoc, true, false, Result, Ok, Err, refl, sym, ap, subst, subst₂, ◌∙◌, inl, inr}
use Rattle.std.specs.List.{Contains}
use Rattle.plane.specs.declared.point.Point.{Point}
use Rattle.features.specs.declared.rows.Feature.{Feature}
use Rattle.search_tree.specs.Advances.{HasAdvanced, IsAdvance, is_placed}
use Rattle.search_tree.specs.Advances.IsAdvance.{was_placed, overruns, goes_on, is_refused}
use Rattle.search_tree.specs.Calls.{SameContents}
use Rattle.search_tree.specs.Trees.{PlainWalk, search_in, tree_of}
use Rattle.tree_answers.specs.declared.answers.Step.{Step}
use Rattle.tree_answers.specs.declared.answers.Step.TheVariants as steps
use Rattle.tree_answers.specs.declared.fault.TreeFault.{TreeFault}
use Rattle.tree_theory.specs.Contents.{IsContents}
use Rattle.std.specs.Option.{option_map}
use Rattle.std.proofs.lemmas.List.Elements.{Contains-append_left, Contains-push}
use Rattle.features.specs.declared.actors.Subject.{Subject}
use Rattle.features.specs.Rows.{IsSortedById}
use Rattle.judging.specs.States.{PlainState}
use Rattle.predicate_locks.specs.Searches.{Searches as Running}
use Rattle.plain_world.specs.declared.settings.Limits.{Limits}
use Rattle.plain_world.specs.declared.settings.Starts.{Starts}
use Rattle.plain_world.specs.States.{WorldData, opened_from}
use Rattle.plain_world.proofs.OrderLemmas.{opened_from_ordered}
use Rattle.plain_world.proofs.UnderWayLemmas.{opened_from_way}
use Rattle.search_tree.specs.Trees.{IsFirst}
use Rattle.world.specs.Index.{HasFeatures, Index, IndexServes, IsWorld, frames, seen_there}
use Rattle.world.proofs.WorldLemmas.{indexed}
use Rattle.world.specs.Filling.{GetsAll, GetsPair, GetsRows, pair_of}

pub gets_none : (t u : Index) → SameContents frames t u → ((number : ℕ) → search_in u number ≡ search_in t number) → u.running ≡ t.running → u.limit ≡ t.limit → GetsAll t u []
gets_none t u contents searches running limit = record {
  contents = λ xs are. rw (append-nil xs) (contents xs are);
  searches = searches;
  running = running;
  limit = limit;
}

pub gets_same : (t : Index) → GetsAll t t []
gets_same t = gets_none t t (λ xs are. are) (λ number. refl) refl refl

pub gets_both : (t u v : Index) (ps qs : List (ℕ × List Point)) → GetsAll t u ps → GetsAll u v qs → GetsAll t v (ps ++ qs)
gets_both t u v ps qs first then = record {
  contents = λ xs are. subst (IsContents (tree_of frames v)) (append_assoc xs ps qs) (then.contents (xs ++ ps) (first.contents xs are));
  searches = λ number. then.searches number ∙ first.searches number;
  running = then.running ∙ first.running;
  limit = then.limit ∙ first.limit;
}

-- a step that does not place
unplaced : (t u : Index) (pair : ℕ × List Point) (step : Step) → is_placed step ≡ false → HasAdvanced frames t u pair step → GetsAll t u []
unplaced t u pair steps.Moved e h = gets_none t u h.contents h.searches h.running h.counts.limit
unplaced t u pair steps.Split e (inl h) = gets_none t u h.contents h.searches h.running h.limit
unplaced t u pair steps.Split e (inr h) = gets_none t u h.contents h.searches h.running h.limit
unplaced t u pair steps.Installed e h = gets_none t u h.contents h.tended.searches h.tended.running h.tended.limit
unplaced t u pair steps.Restarted e h = gets_none t u h.contents h.searches h.running h.counts.limit
unplaced t u pair steps.Placed e h = absurd cc

-- what a step leaves, by whether its walk is placed then
abbrev pub AfterStep : (t u : Index) (old new : PlainWalk (List Point)) → Type 0
AfterStep t u old new = (new.placed ≡ true → GetsPair t u (old.key, old.item)) × (new.placed ≡ false → GetsAll t u [] × (new.key ≡ old.key) × (new.item ≡ old.item))

still : (t u : Index) (old new : PlainWalk (List Point)) → GetsAll t u [] → new.key ≡ old.key → new.item ≡ old.item → new.placed ≡ false → AfterStep t u old new
still t u old new gets key item stays = (λ put. let wrong : false ≡ true = sym stays ∙ put in absurd (cc wrong), λ _. (gets, key, item))

pub after_step : (t u : Index) (old new : PlainWalk (List Point)) (result : Result Step TreeFault) (step : Step) → old.placed ≡ false → IsAdvance frames t u old new result → result ≡ Ok step → AfterStep t u old new
after_step t u old new _ step waits (was_placed placed same walk) e = let wrong : true ≡ false = sym placed ∙ waits in absurd (cc wrong)
after_step t u old new _ step waits (overruns w l same walk) e = absurd cc
after_step t u old new _ step waits (goes_on steps.Moved may stepped h) e = still t u old new (unplaced t u (old.key, old.item) steps.Moved refl h) stepped.key stepped.item stepped.placed
after_step t u old new _ step waits (goes_on steps.Split may stepped h) e = still t u old new (unplaced t u (old.key, old.item) steps.Split refl h) stepped.key stepped.item stepped.placed
after_step t u old new _ step waits (goes_on steps.Installed may stepped h) e = still t u old new (unplaced t u (old.key, old.item) steps.Installed refl h) stepped.key stepped.item stepped.placed
after_step t u old new _ step waits (goes_on steps.Restarted may stepped h) e = still t u old new (unplaced t u (old.key, old.item) steps.Restarted refl h) stepped.key stepped.item stepped.placed
after_step t u old new _ step waits (goes_on steps.Placed may stepped h) e = (
  λ put. record {
    contents = h.placed.contents;
    searches = h.placed.searches;
    running = h.placed.running;
    limit = h.placed.counts.limit;
  },
  λ stays. let wrong : true ≡ false = sym stepped.placed ∙ stays in absurd (cc wrong),
)
after_step t u old new _ step waits (is_refused fault may why same walk) e = absurd cc

-- a pair of a walk that is for this key and item
pub pair_is : (t u : Index) (key id : ℕ) (item shape : List Point) → key ≡ id → item ≡ shape → GetsPair t u (key, item) → GetsPair t u (id, shape)
pair_is t u key id item shape k i gets = subst₂ (λ (n : ℕ) (s : List Point). GetsPair t u (n, s)) k i gets

-- each of the features is among the pairs
has_each : (front : List (ℕ × List Point)) (rows : List Feature) → HasFeatures (front ++ map pair_of rows) rows
has_each front [] = tt
has_each front (row ∷ rows) =
    let all = append_assoc front (pair_of row ∷ []) (map pair_of rows) in (
      subst (λ (xs : List (ℕ × List Point)). Contains xs (pair_of row)) all (Contains-append_left (front ++ pair_of row ∷ []) (map pair_of rows) (pair_of row) (Contains-push front (pair_of row))),
      subst (λ (xs : List (ℕ × List Point)). HasFeatures xs rows) all (has_each (front ++ pair_of row ∷ []) rows),
    )

-- the index serves a world that begins at a state
pub serves_from : (subjects : List Subject) (base : PlainState) (starts : Starts) (limits : Limits) (t u : Index) → IsFirst frames starts.generation starts.counter starts.search limits.steps t → GetsRows t u base.features → IndexServes (opened_from subjects base starts limits) u
serves_from subjects base starts limits t u first gets = record {
  contents = map pair_of base.features;
  are_contents = gets.contents [] first.contents;
  features = has_each [] base.features;
  placements = tt;
  searches = λ number. ap (option_map seen_there) (gets.searches number ∙ first.searches number);
  as_many = ap (λ (r : Running (List Point)). length r.running) gets.running ∙ ap length first.none_run;
  next = ap (λ (r : Running (List Point)). r.next) gets.running ∙ first.next_is;
  limit = gets.limit ∙ first.limit_is;
}

pub world_from : (subjects : List Subject) (base : PlainState) (starts : Starts) (limits : Limits) (w : WorldData) (t u : Index) → IsSortedById base.features → w ≡ opened_from subjects base starts limits → IsFirst frames starts.generation starts.counter starts.search limits.steps t → GetsRows t u base.features → IsWorld (indexed w u [])
world_from subjects base starts limits w t u sorted is first gets = subst (λ (x : WorldData). IsWorld (indexed x u [])) (sym is) (record {
  ordered = opened_from_ordered subjects base starts limits sorted;
  under_way = opened_from_way subjects base starts limits;
  serves = serves_from subjects base starts limits t u first gets;
  walks = tt;
})

pub take_next : (rows : List Feature) (k : ℕ) (row : Feature) → slice_get rows k ≡ Some row → map pair_of (take (suc k) rows) ≡ map pair_of (take k rows) ++ pair_of row ∷ []
take_next [] k row is = absurd cc
take_next (first ∷ rows) zero row is = let same : first ≡ row = cc in ap (λ (r : Feature). pair_of r ∷ []) same
take_next (first ∷ rows) (suc k) row is = ap (λ (ps : List (ℕ × List Point)). pair_of first ∷ ps) (take_next rows k row is)
