-- What records make of the tables, one after another.
use Rattle.std.proofs.Common.{◌≡◌, ◌≢◌, ℕ, ◌+◌, ◌<◌, ◌≤◌, ℤ, pos, List, [], ◌∷◌, ◌++◌, length, map, Less, refl, sym, ap, ap₂, subst, ◌∙◌, arith, append_assoc, append-nil, length-append, int_cmp}
use Rattle.std.proofs.lemmas.Int.{ints}
use Rattle.std.proofs.lemmas.Bool.Decides.{nat_tests}
use Rattle.features.specs.declared.actors.Subject.{Subject}
use Rattle.features.specs.declared.rows.Change.{Change}
use Rattle.features.specs.Changes.{after}
use Rattle.policy_documents.specs.Documents.{DocumentData}
use Rattle.decision.specs.Deciders.{DeciderData}
use Rattle.judging.specs.States.{PlainState}
use Rattle.judging.specs.declared.causes.Refusal.{Refusal}
use Rattle.audit_trail.specs.Records.{DeedData, RecordData, applied, governed}
use Rattle.audit_trail.specs.Legal.{after_deed, replay}
use Rattle.audit_trail.specs.JsonLines.{line_text, lines_from}
use Rattle.sqlite_value.specs.declared.value.Value.TheVariants.{Int}
use Rattle.sqlite_value.specs.Order.{Row, value_cmp}
use Rattle.sqlite_value.proofs.OrderLemmas.{value_cmp-Int}
use Rattle.sqlite_trees.specs.Tree.{put_row}
use Rattle.sqlite_trees.specs.View.{View, OnlyWrites}
use Rattle.volumes.specs.declared.tables.Tables.{Tables}
use Rattle.volumes.specs.Rows.{row_of_policy, row_of_line, rows_from, feature_rows}
use Rattle.volumes.specs.Edits.{Writes, AreKept, Turns, Governs}
use Rattle.volumes.specs.Volumes.{VolumeData, AreApart, HoldsState, Holds, HoldsAt, volume_after}
use Rattle.volumes.specs.Records.{TurnsState, Appends}

pub frames_on : (a b c : View) → OnlyWrites a b → OnlyWrites b c → OnlyWrites a c
frames_on a b c p q = q ∙ ap (λ (v : View). let w : View = record v { trees = c.trees; cursors = c.cursors } in w) p

pub nothing_turned : (old : View) (t : Tables) → TurnsState old old t (λ s. s)
nothing_turned old t = record { frame = refl; state = λ s kept held. (held, kept); others = λ other p q. refl }

pub list_turned : (old mid new : View) (t : Tables) (subject : Subject) (version : ℕ) (changes : List Change) → AreApart t
    → Turns old mid t.features (after version subject.office changes) → Governs mid new t.policy (λ _ decider. row_of_policy version decider)
    → TurnsState old new t (after_deed (applied subject version changes))
list_turned old mid new t subject version changes apart turn govern = record {
  frame = frames_on old mid new turn.frame govern.frame;
  state = λ s kept held.
      let turned = turn.features s.features kept held.features in (
        record {
          features = govern.others t.features apart.feature_policy ∙ turned.0;
          policy = govern.policy s.version s.decider (turn.others t.policy (λ e. apart.feature_policy (sym e)) ∙ held.policy);
        },
        turned.1,
      );
  others = λ other p q. govern.others other q ∙ turn.others other p;
}

pub document_turned : (old new : View) (t : Tables) (edition : ℕ) (decider : DeciderData) → AreApart t
    → Governs old new t.policy (λ version _. row_of_policy version (record { document = decider.document; edition = edition }))
    → TurnsState old new t (after_deed (governed edition decider))
document_turned old new t edition decider apart govern = record {
  frame = govern.frame;
  state = λ s kept held. (
    record {
      features = govern.others t.features apart.feature_policy ∙ held.features;
      policy = govern.policy s.version s.decider held.policy;
    },
    kept,
  );
  others = λ other p q. govern.others other q;
}

lower : (m n : ℕ) → m < n → value_cmp (Int (pos m)) (Int (pos n)) ≡ Less
lower m n h = value_cmp-Int (pos m) (pos n) ∙ grind (arith, ints, nat_tests)

-- the next line goes to the end
put_last : (first : ℕ) (lines : List (List ℕ)) (number : ℕ) (line : List ℕ) → number ≡ first + length lines
    → put_row (row_of_line number line) (rows_from first lines) ≡ rows_from first (lines ++ line ∷ [])
put_last first [] number line is = let e : number ≡ first = omega arith in ap (λ n. row_of_line n line ∷ []) e
put_last first (other ∷ lines) number line is =
    let less : first < number = omega arith in
    let more : number ≡ (first + 1) + length lines = omega arith in
    rw (lower first number less) (ap (λ rs. row_of_line first other ∷ rs) (put_last (first + 1) lines number line more))

pub record_appended : (old mid new : View) (t : Tables) (number : ℕ) (r : RecordData) → AreApart t
    → Writes old mid t.records (put_row (row_of_line number (line_text number r)) (old.trees t.records)) → TurnsState mid new t (after_deed r.deed)
    → Appends old new t number (r ∷ [])
record_appended old mid new t number r apart w turn = record {
  frame = frames_on old mid new w.frame turn.frame;
  volume = λ v held.
      let same = w.others t.features apart.feature_record in
      let there = w.others t.policy apart.policy_record in
      let state : HoldsState t mid.trees v.state = record { features = same ∙ held.0.state.features; policy = there ∙ held.0.state.policy } in
      let turned = turn.state v.state held.0.kept state in
      let here = turn.others t.records (λ e. apart.feature_record (sym e)) (λ e. apart.policy_record (sym e)) in
      record {
        state = turned.0;
        records = here ∙ w.here ∙ ap (put_row (row_of_line number (line_text number r))) held.0.records ∙ put_last v.first v.lines number (line_text number r) held.1
            ∙ ap (λ n. rows_from v.first (v.lines ++ line_text n r ∷ [])) held.1;
        kept = turned.1;
      };
  lives = turn.others t.lives (λ e. apart.feature_life (sym e)) (λ e. apart.policy_life (sym e)) ∙ w.others t.lives (λ e. apart.record_life (sym e));
}

-- ---- a group

-- some records of a group were put, and these are left, from this number on
pub record GoesOn (old now : View) (t : Tables) (first number : ℕ) (left all : List RecordData) : Type 0 where
  frame : OnlyWrites old now
  volume : (v : VolumeData) → HoldsAt t old.trees first v → (w : VolumeData) × HoldsAt t now.trees number w × (volume_after left w ≡ volume_after all v)
  lives : now.trees t.lives ≡ old.trees t.lives

pub group_begun : (old : View) (t : Tables) (first : ℕ) (all : List RecordData) → GoesOn old old t first first all all
group_begun old t first all = record { frame = refl; volume = λ v held. (v, held, refl); lives = refl }

one_more : (v : VolumeData) (r : RecordData) (rs : List RecordData) → volume_after rs (volume_after (r ∷ []) v) ≡ volume_after (r ∷ rs) v
one_more v r rs =
    let n = v.first + length v.lines in
    let line = line_text n r in
    let count : v.first + length (v.lines ++ line ∷ []) ≡ n + 1 = omega (arith, length-append v.lines (line ∷ [])) in
    ap (λ (lines : List (List ℕ)). let w : VolumeData = record { state = replay v.state (r ∷ rs); first = v.first; lines = lines } in w)
    (ap (λ m. (v.lines ++ line ∷ []) ++ lines_from m rs) count ∙ append_assoc v.lines (line ∷ []) (lines_from (n + 1) rs))

pub group_stepped : (old mid new : View) (t : Tables) (first number : ℕ) (r : RecordData) (left all : List RecordData)
    → GoesOn old mid t first number (r ∷ left) all → Appends mid new t number (r ∷ []) → GoesOn old new t first (number + 1) left all
group_stepped old mid new t first number r left all way more = record {
  frame = frames_on old mid new way.frame more.frame;
  volume = λ v held.
      let so = way.volume v held in
      let w = so.0 in
      let line = line_text (w.first + length w.lines) r in
      let count : number + 1 ≡ w.first + length (w.lines ++ line ∷ []) = (let e = so.1.1 in omega (arith, length-append w.lines (line ∷ []))) in
      (volume_after (r ∷ []) w, (more.volume w so.1, count), one_more w r left ∙ so.2);
  lives = more.lives ∙ way.lives;
}

pub group_ended : (old new : View) (t : Tables) (first number : ℕ) (all : List RecordData) → GoesOn old new t first number [] all → Appends old new t first all
group_ended old new t first number all way = record {
  frame = way.frame;
  volume = λ v held.
      let so = way.volume v held in
      let w = so.0 in
      let nothing : volume_after [] w ≡ w = ap (λ (lines : List (List ℕ)). let u : VolumeData = record { state = w.state; first = w.first; lines = lines } in u) (append-nil w.lines) in
      subst (Holds t new.trees) (sym nothing ∙ so.2) so.1.0;
  lives = way.lives;
}
