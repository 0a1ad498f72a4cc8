-- Events keep what every world keeps, and what is known of the slots that were tended.
use Rattle.std.proofs.Common.{◌≡◌, ◌⊎◌, ℕ, ◌+◌, ◌==◌, Bool, true, false, ◌||◌, List, [], ◌∷◌, ◌++◌, Contains, Result, Ok, Err, OnOk, OnErr, if◌then◌else◌, IsTrue, inl, inr, refl, sym, ap, subst, ◌∙◌}
use Rattle.std.specs.List.{list_any}
use Rattle.node_arena.specs.declared.handle.Handle.{Handle}
use Rattle.node_arena.specs.Slots.{value_at}
use Rattle.plane.specs.declared.point.Point.{Point}
use Rattle.features.specs.declared.rows.Change.{Change}
use Rattle.features.specs.declared.rows.Feature.{Feature}
use Rattle.policy_documents.specs.Documents.{DocumentData}
use Rattle.audit_trail.specs.Records.{RecordData}
use Rattle.plain_world.specs.declared.faults.Fault.{Fault}
use Rattle.plain_world.specs.declared.outcomes.Outcome.{Outcome}
use Rattle.plain_world.specs.declared.open_searches.Search.{Search}
use Rattle.plain_world.specs.Admitting.{may_begin, may_finish, may_go_on, may_govern, may_open, may_roll, may_sit, may_stage}
use Rattle.plain_world.specs.Answers.{AnswerData}
use Rattle.plain_world.specs.Answering.{TakesIn}
use Rattle.plain_world.specs.Events.{Event, TakeSeat, Finish, DropSearch, Begin, Stage, Commit, Abort, Govern, Roll, Reply, Done, Number, Ended, Rows, Failed, Happens}
use Rattle.plain_world.specs.Keeping.{brings, is_staged, stands}
use Rattle.plain_world.specs.Staging.{TransactionData, staged, with_step}
use Rattle.plain_world.specs.States.{WorldData}
use Rattle.plain_world.proofs.AdmittedLemmas.{admitted, by_if, by_unless}
use Rattle.plain_world.proofs.RefusalLemmas.{leaves}
use Rattle.search_tree.specs.Calls.{IsOpen, IsShut, IsVisit}
use Rattle.search_tree.specs.Calls.IsVisit.{none_runs, was_ready, overruns, goes_on, wants_memory}
use Rattle.search_tree.specs.Trees.{tree_of}
use Rattle.tree_answers.specs.declared.answers.Visit.{Visit}
use Rattle.tree_answers.specs.declared.fault.TreeFault.{TreeFault}
use Rattle.tree_theory.specs.Contents.{pairs_at}
use Rattle.world.specs.Index.{Index, IsWorld, frames}
use Rattle.world.specs.Kept.{AreKept, IsTended, is_noted}
use Rattle.world.specs.Stepping.{KeepsPair}
use Rattle.world.specs.Walks.{JourneyData, walk_begun, walk_ended}
use Rattle.world.specs.declared.kept_slots.KeptSlots.{KeptSlots}
use Rattle.world.proofs.KeptSlotLemmas.{Fewer, fewer_one, fewer_same}
use Rattle.world.proofs.WorldLemmas.{indexed, world_begun, world_dropped, world_finished, world_govern, world_opened, world_roll, world_seat, world_stage, world_taken}

-- ---- what a world keeps

-- the features and the staged changes are the same
abbrev pub Stays : WorldData → WorldData → Type 0
Stays old new = (new.state.features ≡ old.state.features) × (new.transactions ≡ old.transactions)

-- what the old world keeps, the new one keeps
abbrev pub KeepsOn : WorldData → WorldData → Type 0
KeepsOn old new = (pair : ℕ × List Point) → KeepsPair old pair → KeepsPair new pair

pub keeps_same : (old new : WorldData) → Stays old new → KeepsOn old new
keeps_same old new stays pair h =
    subst (λ (rows : List Feature). IsTrue (stands pair.0 pair.1 rows || is_staged pair.0 pair.1 new.transactions)) (sym stays.0)
    (subst (λ (ts : List TransactionData). IsTrue (stands pair.0 pair.1 old.state.features || is_staged pair.0 pair.1 ts)) (sym stays.1) h)

or_more : (a b c : Bool) → (b ≡ true → c ≡ true) → (a || b) ≡ true → (a || c) ≡ true
or_more true b c more h = refl
or_more false b c more h = more h

or_other : (a b c : Bool) → (a ≡ true → b ≡ true) → (a || c) ≡ true → (b || c) ≡ true
or_other true true c more h = refl
or_other true false c more h = let wrong = more refl in absurd (cc (wrong))
or_other false true c more h = refl
or_other false false c more h = h

any_more : {T : Type 0} (f : T → Bool) (xs ys : List T) → list_any f xs ≡ true → list_any f (xs ++ ys) ≡ true
any_more f [] ys h = absurd cc
any_more f (x ∷ xs) ys h = or_more (f x) (list_any f xs) (list_any f (xs ++ ys)) (any_more f xs ys) h

-- one more change is staged
staged_more : (id number : ℕ) (shape : List Point) (change : Change) (ts : List TransactionData) → is_staged id shape ts ≡ true → is_staged id shape (with_step (staged change) number ts) ≡ true
staged_more id number shape change [] h = absurd cc
staged_more id number shape change (t ∷ ts) h = go (t.number == number) (staged_more id number shape change ts)
  where
    brought : TransactionData → Bool
    brought t = list_any (λ c. brings id shape c) t.changes

    go : (b : Bool) → (is_staged id shape ts ≡ true → is_staged id shape (with_step (staged change) number ts) ≡ true) → is_staged id shape (if b then staged change t ∷ ts else t ∷ with_step (staged change) number ts) ≡ true
    go true behind = or_other (brought t) (brought (staged change t)) (is_staged id shape ts) (any_more (λ c. brings id shape c) t.changes (change ∷ [])) h
    go false behind = or_more (brought t) (is_staged id shape ts) (is_staged id shape (with_step (staged change) number ts)) behind h

keeps_is : (old new w : WorldData) → new ≡ w → KeepsOn old w → KeepsOn old new
keeps_is old new w e h = subst (KeepsOn old) (sym e) h

-- the same of an equal one that has the same features and the same staged changes
keeps_stays : (old new w : WorldData) → new ≡ w → w.state.features ≡ old.state.features → w.transactions ≡ old.transactions → KeepsOn old new
keeps_stays old new w e features transactions = keeps_is old new w e (keeps_same old w (features, transactions))

keeps_itself : (old new : WorldData) → new ≡ old → KeepsOn old new
keeps_itself old new e = keeps_is old new old e (λ pair h. h)

keeps_seat : (name : List ℕ) (old new : WorldData) (reply : Reply) → Happens (TakeSeat name) old new reply → KeepsOn old new
keeps_seat name old new reply happens =
    by_if (may_sit name old) old new reply _ (λ _. KeepsOn old new) (λ fault may same. keeps_itself old new same)
    (λ subject may d. by_unless old new reply _ (λ _. KeepsOn old new) (λ fault want same. keeps_itself old new same)
    (λ d. keeps_stays old new _ d.0 refl refl) d) happens

keeps_govern : (seat : ℕ) (document : DocumentData) (old new : WorldData) (reply : Reply) → Happens (Govern seat document) old new reply → KeepsOn old new
keeps_govern seat document old new reply happens =
    by_if (may_govern seat old) old new reply _ (λ _. KeepsOn old new) (λ fault may same. keeps_itself old new same)
    (λ x may d. by_unless old new reply _ (λ _. KeepsOn old new) (λ fault want same. keeps_itself old new same)
    (λ d. keeps_stays old new _ d.1 refl refl) d) happens

keeps_roll : (seat : ℕ) (old new : WorldData) (reply : Reply) → Happens (Roll seat) old new reply → KeepsOn old new
keeps_roll seat old new reply happens =
    by_if (may_roll seat old) old new reply _ (λ _. KeepsOn old new) (λ fault may same. keeps_itself old new same)
    (λ x may d. by_unless old new reply _ (λ _. KeepsOn old new) (λ fault want same. keeps_itself old new same)
    (λ d. keeps_stays old new _ d.1 refl refl) d) happens

keeps_begun : (seat : ℕ) (old new : WorldData) (reply : Reply) → Happens (Begin seat) old new reply → KeepsOn old new
keeps_begun seat old new reply happens =
    by_if (may_begin seat old) old new reply _ (λ _. KeepsOn old new) (λ fault may same. keeps_itself old new same)
    (λ number may d. by_unless old new reply _ (λ _. KeepsOn old new) (λ fault want same. keeps_itself old new same)
    (λ d. keeps_is old new _ d.0 (λ pair h. or_more (stands pair.0 pair.1 old.state.features) (is_staged pair.0 pair.1 old.transactions) _ (any_more (λ (t : TransactionData). list_any (λ change. brings pair.0 pair.1 change) t.changes) old.transactions _) h)) d) happens

keeps_staged : (seat number : ℕ) (change : Change) (old new : WorldData) (reply : Reply) → Happens (Stage seat number change) old new reply → KeepsOn old new
keeps_staged seat number change old new reply happens =
    by_if (may_stage seat number change old) old new reply _ (λ _. KeepsOn old new) (λ fault may same. keeps_itself old new same)
    (λ x may d. keeps_is old new _ d.0 (λ pair h. or_more (stands pair.0 pair.1 old.state.features) (is_staged pair.0 pair.1 old.transactions) _ (staged_more pair.0 number pair.1 change old.transactions) h)) happens

keeps_dropped : (seat number : ℕ) (old new : WorldData) → Happens (DropSearch seat number) old new Done → KeepsOn old new
keeps_dropped seat number old new happens =
    let d = admitted (may_go_on seat number old) old new Done _ refl happens in
    keeps_stays old new _ d.2.0 refl refl

keeps_finished : (seat number : ℕ) (old new : WorldData) (answer : AnswerData) → Happens (Finish seat number) old new (Rows answer) → KeepsOn old new
keeps_finished seat number old new answer happens =
    let d = admitted (may_finish seat number old) old new (Rows answer) _ refl happens in
    keeps_stays old new _ d.2.3 refl refl

keeps_taken : (r : RecordData) (old new : WorldData) → TakesIn r old new → KeepsOn old new
keeps_taken r old new takes = keeps_stays old new _ takes.added refl refl

-- ---- what is known of slots

pub kept_on : (w v : WorldData) (t u : Index) (notes : KeptSlots) → KeepsOn w v → Fewer (tree_of frames t) (tree_of frames u) → AreKept w t notes → AreKept v u notes
kept_on w v t u notes keeps fewer h at noted pair has = keeps pair (h at noted pair (fewer at pair has))

beside : (w v : WorldData) (t : Index) (notes : KeptSlots) → KeepsOn w v → AreKept w t notes → AreKept v t notes
beside w v t notes keeps h = kept_on w v t t notes keeps (λ at pair has. has) h

unchanged : (t u : Index) → u ≡ t → Fewer (tree_of frames t) (tree_of frames u)
unchanged t u same at pair has = subst (λ (i : Index). Contains (pairs_at (value_at i.nodes at)) pair) same has

-- a visit leaves each node its pairs
pub fewer_visited : (t u : Index) (number : ℕ) (result : Result Visit TreeFault) → IsVisit frames t u number result → Fewer (tree_of frames t) (tree_of frames u)
fewer_visited t u number _ (none_runs gone same) = unchanged t u same
fewer_visited t u number _ (was_ready ready same) = unchanged t u same
fewer_visited t u number _ (overruns over shut) = fewer_same shut.step.nodes
fewer_visited t u number _ (goes_on visit under further) = elim further.step.sees [
  | inl seen ↦ fewer_one (tree_of frames t) (tree_of frames u) seen.nodes (λ pair has. has)
  | inr gone ↦ fewer_same gone.nodes
]
fewer_visited t u number _ (wants_memory refusal under untouched) = fewer_same untouched.nodes

-- ---- worlds

pub tended_by : {w : WorldData} {t : Index} {js : List JourneyData} {notes : KeptSlots} → AreKept w t notes → IsWorld (indexed w t js) → IsTended (indexed w t js) notes
tended_by kept h = record { world = h; kept = kept }

-- nothing is known of any slot
pub tended_anew : (w : WorldData) (t : Index) (js : List JourneyData) (notes : KeptSlots) → IsWorld (indexed w t js) → ((slot : ℕ) → is_noted notes slot ≡ false) → IsTended (indexed w t js) notes
tended_anew w t js notes h none = record {
  world = h;
  kept = λ at noted. let wrong = none at.slot in absurd (cc (noted, wrong));
}

module _ (w v : WorldData) (t : Index) (js : List JourneyData) (notes : KeptSlots) (h : IsTended (indexed w t js) notes) where
  -- a refused event leaves the world unchanged
  unchanged_world : v ≡ w → IsTended (indexed v t js) notes
  unchanged_world same = subst (λ (x : WorldData). IsTended (indexed x t js) notes) (sym same) h

  pub tended_begin_refused : (seat : ℕ) (fault : Fault) → Happens (Begin seat) w v (Failed fault) → IsTended (indexed v t js) notes
  tended_begin_refused seat fault happens = unchanged_world (leaves (Begin seat) w v fault happens)

  pub tended_abort_refused : (seat number : ℕ) (fault : Fault) → Happens (Abort seat number) w v (Failed fault) → IsTended (indexed v t js) notes
  tended_abort_refused seat number fault happens = unchanged_world (leaves (Abort seat number) w v fault happens)

  pub tended_commit_refused : (seat number : ℕ) (fault : Fault) → Happens (Commit seat number) w v (Failed fault) → IsTended (indexed v t js) notes
  tended_commit_refused seat number fault happens = unchanged_world (leaves (Commit seat number) w v fault happens)

  pub tended_drop_refused : (seat number : ℕ) (fault : Fault) → Happens (DropSearch seat number) w v (Failed fault) → IsTended (indexed v t js) notes
  tended_drop_refused seat number fault happens = unchanged_world (leaves (DropSearch seat number) w v fault happens)

  pub tended_finish_refused : (seat number : ℕ) (fault : Fault) → Happens (Finish seat number) w v (Failed fault) → IsTended (indexed v t js) notes
  tended_finish_refused seat number fault happens = unchanged_world (leaves (Finish seat number) w v fault happens)

  pub tended_seat : (name : List ℕ) (reply : Reply) → Happens (TakeSeat name) w v reply → IsTended (indexed v t js) notes
  tended_seat name reply happens = record { world = world_seat name w v t js reply happens h.world; kept = beside w v t notes (keeps_seat name w v reply happens) h.kept }

  pub tended_stage : (seat number : ℕ) (change : Change) (reply : Reply) → Happens (Stage seat number change) w v reply → IsTended (indexed v t js) notes
  tended_stage seat number change reply happens = record { world = world_stage seat number change w v t js reply happens h.world; kept = beside w v t notes (keeps_staged seat number change w v reply happens) h.kept }

  pub tended_govern : (seat : ℕ) (document : DocumentData) (reply : Reply) → Happens (Govern seat document) w v reply → IsTended (indexed v t js) notes
  tended_govern seat document reply happens = record { world = world_govern seat document w v t js reply happens h.world; kept = beside w v t notes (keeps_govern seat document w v reply happens) h.kept }

  pub tended_roll : (seat : ℕ) (reply : Reply) → Happens (Roll seat) w v reply → IsTended (indexed v t js) notes
  tended_roll seat reply happens = record { world = world_roll seat w v t js reply happens h.world; kept = beside w v t notes (keeps_roll seat w v reply happens) h.kept }

  -- an answer is taken in, or refused
  pub tended_taken : {E : Type 0} (r : RecordData) (result : Result (Unit {0}) E) → OnOk result (TakesIn r w v) → OnErr result (v ≡ w) → IsTended (indexed v t js) notes
  tended_taken r (Ok u) takes same = record { world = world_taken r w v t js takes h.world; kept = beside w v t notes (keeps_taken r w v takes) h.kept }
  tended_taken r (Err e) takes same = unchanged_world same

  pub tended_begun : (seat number : ℕ) → Happens (Begin seat) w v (Number number) → IsTended (indexed v t (walk_begun number js)) notes
  tended_begun seat number happens = record { world = world_begun seat number w v t js happens h.world; kept = beside w v t notes (keeps_begun seat w v (Number number) happens) h.kept }

  module _ (u : Index) where
    pub tended_dropped : (seat number : ℕ) → Happens (DropSearch seat number) w v Done → IsShut frames t u number → IsTended (indexed v u js) notes
    tended_dropped seat number happens shut = record { world = world_dropped seat number w v t u js happens shut h.world; kept = kept_on w v t u notes (keeps_dropped seat number w v happens) (fewer_same shut.step.nodes) h.kept }

    pub tended_finished : (seat number : ℕ) (answer : AnswerData) → Happens (Finish seat number) w v (Rows answer) → IsShut frames t u number → IsTended (indexed v u js) notes
    tended_finished seat number answer happens shut = record { world = world_finished seat number w v t u js answer happens shut h.world; kept = kept_on w v t u notes (keeps_finished seat number w v answer happens) (fewer_same shut.step.nodes) h.kept }

    pub tended_opened : (seat number search : ℕ) (window : List Point) → may_open seat w ≡ Ok number → v ≡ record w { searches = w.searches ++ record { number = number; seat = seat; window = window; ready = false } ∷ []; next_search = number + 1 } → IsOpen frames t u window search
        → IsTended (indexed v u js) notes
    tended_opened seat number search window may is opens = record {
      world = world_opened seat number search window w v t u js may is opens h.world;
      kept = kept_on w v t u notes (keeps_stays w v _ is refl refl) (fewer_same opens.step.nodes) h.kept;
    }
