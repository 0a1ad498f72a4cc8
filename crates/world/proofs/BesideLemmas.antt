-- Events that leave the index alone: the index still serves the world.
use Rattle.std.proofs.Common.{◌≡◌, ℕ, ◌+◌, ◌≤◌, ◌==◌, nat_lt, Bool, true, false, List, length, Some, Ok, Err, if◌then◌else◌, refl, sym, ap, subst, ◌∙◌, arith}
use Rattle.std.specs.Bool.{MatchBool}
use Rattle.std.specs.Option.{option_map}
use Rattle.std.proofs.lemmas.Bool.Decides.{nat_tests}
use Rattle.plane.specs.declared.point.Point.{Point}
use Rattle.features.specs.declared.actors.Subject.{Subject}
use Rattle.features.specs.declared.rows.Change.{Change}
use Rattle.features.specs.Changes.{after}
use Rattle.policy_documents.specs.Documents.{DocumentData}
use Rattle.judging.specs.declared.causes.Judgement.{Judgement}
use Rattle.judging.specs.declared.causes.Judgement.TheVariants as judgements
use Rattle.audit_trail.specs.Records.{applied}
use Rattle.plain_world.specs.declared.faults.Fault.TheVariants as faults
use Rattle.plain_world.specs.declared.outcomes.Outcome.TheVariants as outcomes
use Rattle.plain_world.specs.declared.open_searches.Search.{Search}
use Rattle.plain_world.specs.Admitting.{LAST, and_then, subject_at, own_transaction, all_placed, may_record, may_sit, may_begin, may_step, may_stage, may_commit, may_govern, may_roll, search_with}
use Rattle.plain_world.specs.Events.{TakeSeat, Begin, Stage, Commit, Abort, Govern, Roll, Reply, Ended, Failed, Happens, Applies, CommitsAs, recorded, without_transaction}
use Rattle.plain_world.specs.Laws.{IsUnderWay}
use Rattle.plain_world.specs.Staging.{TransactionData, transaction_with, placements, staged_in}
use Rattle.plain_world.specs.States.{WorldData, most_features}
use Rattle.plain_world.proofs.AdmittedLemmas.{by_if, by_unless, own_open, staged_of}
use Rattle.plain_world.proofs.RunLemmas.{and_then_ok}
use Rattle.world.specs.Index.{Index, IndexServes, AreAmong, HasFeatures, HasPlacements, told_here}
use Rattle.world.proofs.PairLemmas.{features_after, staged_more, begun_more, ended_less, all_there}

-- searches and limits are unchanged, and an index that had the old world's pairs has the new one's
pub record Beside (old new : WorldData) : Type 0 where
  pub searches : new.searches ≡ old.searches
  pub next : new.next_search ≡ old.next_search
  pub limits : new.limits ≡ old.limits
  pub features : (all : List (ℕ × List Point)) → HasFeatures all old.state.features → HasPlacements all old.transactions → HasFeatures all new.state.features
  pub placements : (all : List (ℕ × List Point)) → HasPlacements all old.transactions → HasPlacements all new.transactions

pub serves_beside : (old new : WorldData) (t : Index) → Beside old new → IndexServes old t → IndexServes new t
serves_beside old new t b h = record {
  contents = h.contents;
  are_contents = h.are_contents;
  features = b.features h.contents h.features h.placements;
  placements = b.placements h.contents h.placements;
  searches = λ number. h.searches number ∙ sym (ap (λ (ss : List Search). option_map told_here (search_with number ss)) b.searches);
  as_many = h.as_many ∙ sym (ap (λ (ss : List Search). length ss) b.searches);
  next = h.next ∙ sym b.next;
  limit = h.limit ∙ sym (ap (λ l. l.steps) b.limits);
}

pub beside_same : (old new : WorldData) → new ≡ old → Beside old new
beside_same old new e = subst (λ (w : WorldData). Beside old w) (sym e) (record { searches = refl; next = refl; limits = refl; features = λ all f p. f; placements = λ all p. p })

-- the same for a world that equals the new one
beside_is : (old new w : WorldData) → new ≡ w → Beside old w → Beside old new
beside_is old new w e b = subst (λ (w : WorldData). Beside old w) (sym e) b

-- a transaction ends, and the features are unchanged
pub beside_ended : (number : ℕ) (old w : WorldData) → w.searches ≡ old.searches → w.next_search ≡ old.next_search → w.limits ≡ old.limits → w.state.features ≡ old.state.features → w.transactions ≡ old.transactions → Beside old (without_transaction number w)
beside_ended number old w searches next limits features transactions = record {
  searches = searches;
  next = next;
  limits = limits;
  features = λ all f p. subst (λ rows. HasFeatures all rows) (sym features) f;
  placements = λ all p. ended_less all number w.transactions (subst (λ ts. HasPlacements all ts) (sym transactions) p);
}

pub beside_seat : (name : List ℕ) (old new : WorldData) (reply : Reply) → Happens (TakeSeat name) old new reply → Beside old new
beside_seat name old new reply happens =
    by_if (may_sit name old) old new reply _ (λ _. Beside old new) (λ fault may same. beside_same old new same)
    (λ subject may d. by_unless old new reply _ (λ _. Beside old new) (λ fault want same. beside_same old new same)
    (λ d. beside_is old new _ d.0 (record { searches = refl; next = refl; limits = refl; features = λ all f p. f; placements = λ all p. p })) d) happens

pub beside_begin : (seat : ℕ) (old new : WorldData) (reply : Reply) → Happens (Begin seat) old new reply → Beside old new
beside_begin seat old new reply happens =
    by_if (may_begin seat old) old new reply _ (λ _. Beside old new) (λ fault may same. beside_same old new same)
    (λ number may d. by_unless old new reply _ (λ _. Beside old new) (λ fault want same. beside_same old new same)
    (λ d. beside_is old new _ d.0 (record { searches = refl; next = refl; limits = refl; features = λ all f p. f; placements = λ all p. begun_more all number seat old.transactions p })) d) happens

pub beside_stage : (seat number : ℕ) (change : Change) (old new : WorldData) (reply : Reply) → IsUnderWay old → Happens (Stage seat number change) old new reply → Beside old new
beside_stage seat number change old new reply way happens =
    by_if (may_stage seat number change old) old new reply _ (λ _. Beside old new) (λ fault may same. beside_same old new same)
    (λ x may d. beside_is old new _ d.0 (record { searches = refl; next = refl; limits = refl; features = λ all f p. f; placements = λ all p. staged_more all number change old.transactions way.within p })) happens

pub beside_abort : (seat number : ℕ) (old new : WorldData) (reply : Reply) → Happens (Abort seat number) old new reply → Beside old new
beside_abort seat number old new reply happens =
    by_if (may_step seat number old) old new reply _ (λ _. Beside old new) (λ fault may same. beside_same old new same)
    (λ t may d. beside_is old new _ d.0 (beside_ended number old old refl refl refl refl refl)) happens

pub beside_govern : (seat : ℕ) (document : DocumentData) (old new : WorldData) (reply : Reply) → Happens (Govern seat document) old new reply → Beside old new
beside_govern seat document old new reply happens =
    by_if (may_govern seat old) old new reply _ (λ _. Beside old new) (λ fault may same. beside_same old new same)
    (λ x may d. by_unless old new reply _ (λ _. Beside old new) (λ fault want same. beside_same old new same)
    (λ d. beside_is old new _ d.1 (record { searches = refl; next = refl; limits = refl; features = λ all f p. f; placements = λ all p. p })) d) happens

pub beside_roll : (seat : ℕ) (old new : WorldData) (reply : Reply) → Happens (Roll seat) old new reply → Beside old new
beside_roll seat old new reply happens =
    by_if (may_roll seat old) old new reply _ (λ _. Beside old new) (λ fault may same. beside_same old new same)
    (λ x may d. by_unless old new reply _ (λ _. Beside old new) (λ fault want same. beside_same old new same)
    (λ d. beside_is old new _ d.1 (record { searches = refl; next = refl; limits = refl; features = λ all f p. f; placements = λ all p. p })) d) happens

-- ---- commits

-- a transaction that may be committed has placed each shape
all_is_placed : (seat number : ℕ) (w : WorldData) (subject : Subject) → may_commit seat number w ≡ Ok subject
    → (t : TransactionData) × (transaction_with number w.transactions ≡ Some t) × (length (placements t.changes) ≤ t.placed)
all_is_placed seat number w subject e =
    let a = and_then_ok (subject_at seat w) _ subject e in
    let b = and_then_ok (own_transaction seat number w) (λ (t : TransactionData). and_then (all_placed t) (λ _. and_then (may_record w) (λ _. Ok a.0))) subject a.2 in
    let c = and_then_ok (all_placed b.0) (λ _. and_then (may_record w) (λ _. Ok a.0)) subject b.2 in
    (b.0, (own_open seat number w b.0 b.1).0, most (nat_lt b.0.placed (length (placements b.0.changes))) refl c.1)
  where
    most : {p l : ℕ} {x : Unit {0}} (b : Bool) → nat_lt p l ≡ b → (if b then Err faults.NotPlaced else Ok tt) ≡ Ok x → l ≤ p
    most true is e = absurd cc
    most false is e = grind (arith, nat_tests, is)

-- the index has what the committed list brings
list_there : (all : List (ℕ × List Point)) (seat number : ℕ) (w : WorldData) (subject : Subject) → may_commit seat number w ≡ Ok subject → HasPlacements all w.transactions → AreAmong all (placements (staged_in number w.transactions))
list_there all seat number w subject may p =
    let t = all_is_placed seat number w subject may in
    subst (λ (changes : List Change). AreAmong all (placements changes)) (sym (staged_of number w.transactions t.0 t.1)) (all_there all number w.transactions t.0 t.1 t.2 p)

beside_applies : (seat number : ℕ) (subject who : Subject) (old new : WorldData) (reply : Reply) → may_commit seat number old ≡ Ok who → Applies seat number subject (staged_in number old.transactions) old new reply → Beside old new
beside_applies seat number subject who old new reply may d =
    let changes = staged_in number old.transactions in
    go (old.state.version == LAST) (nat_lt (most_features old) (length (after (old.state.version + 1) subject.office changes old.state.features))) d
  where
    go : (last full : Bool) → MatchBool last ((new ≡ old) × (reply ≡ Failed faults.Spent)) (MatchBool full ((new ≡ old) × (reply ≡ Failed faults.StoreFull))
        ((reply ≡ Ended (outcomes.Applied (old.state.version + 1))) × (new ≡ without_transaction number (recorded seat (applied subject (old.state.version + 1) (staged_in number old.transactions)) old)))) → Beside old new
    go true full d = beside_same old new d.0
    go false true d = beside_same old new d.0
    go false false d = beside_is old new _ d.1 (record {
      searches = refl;
      next = refl;
      limits = refl;
      features = λ all f p. features_after all (old.state.version + 1) subject.office (staged_in number old.transactions) old.state.features (list_there all seat number old who may p) f;
      placements = λ all p. ended_less all number old.transactions p;
    })

beside_commits_as : (judgement : Judgement) (seat number : ℕ) (subject who : Subject) (old new : WorldData) (reply : Reply) → may_commit seat number old ≡ Ok who → CommitsAs judgement seat number subject (staged_in number old.transactions) old new reply → Beside old new
beside_commits_as judgements.Accepted seat number subject who old new reply may d = beside_applies seat number subject who old new reply may d
beside_commits_as (judgements.Refused refusal question) seat number subject who old new reply may d = beside_is old new _ d.1 (beside_ended number old (recorded seat _ old) refl refl refl refl refl)

pub beside_commit : (seat number : ℕ) (old new : WorldData) (reply : Reply) → Happens (Commit seat number) old new reply → Beside old new
beside_commit seat number old new reply happens =
    by_if (may_commit seat number old) old new reply _ (λ _. Beside old new) (λ fault may same. beside_same old new same)
    (λ subject may d. by_unless old new reply _ (λ _. Beside old new) (λ fault want same. beside_same old new same)
    (λ d. beside_commits_as d.0 seat number subject subject old new reply may d.2) d) happens
