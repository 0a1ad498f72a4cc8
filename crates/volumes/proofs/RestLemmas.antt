-- A store between two calls of a volume.
use Rattle.std.proofs.Common.{◌≡◌, ◌≢◌, ℕ, ◌+◌, Bool, true, false, true≢false, IsTrue, List, [], ◌∷◌, ◌++◌, length, map, refl, sym, ap, subst, ◌∙◌, arith, length-append}
use Rattle.audit_trail.specs.Records.{RecordData}
use Rattle.audit_trail.specs.JsonLines.{lines_from}
use Rattle.sqlite_trees.specs.Tree.{Trees, put_row}
use Rattle.sqlite_value.specs.Order.{Row}
use Rattle.sqlite_trees.specs.View.{View, IsClean, OnlyWrites, Commits, IsRolledBack}
use Rattle.sqlite_trees.specs.declared.store.Shape.TheVariants as kind
use Rattle.volumes.specs.declared.tables.Tables.{Tables}
use Rattle.volumes.specs.Edits.{KeepsLast, Writes}
use Rattle.volumes.specs.Volumes.{VolumeData, AreTables, IsAtRest, Holds, HoldsAt, volume_after}
use Rattle.volumes.specs.Records.{Appends}

pub is_open_now : (v : View) → (v.is_open ≡ false → IsTrue v.is_broken) → v.is_broken ≡ false → IsTrue v.is_open
is_open_now v law sound = go v.is_open refl
  where
    go : (b : Bool) → v.is_open ≡ b → IsTrue b
    go true e = refl
    go false e = absurd (true≢false (sym (law e) ∙ sound))

pub kept_by_frame : (a b : View) → OnlyWrites a b → KeepsLast a b
kept_by_frame a b frame = record {
  shape = ap (λ (v : View). v.shape) frame;
  committed_shape = ap (λ (v : View). v.committed_shape) frame;
  was_open = λ h. sym (ap (λ (v : View). v.is_open) frame) ∙ h;
  committed = λ h. ap (λ (v : View). v.committed) frame;
}

tables_along : (old new : View) (t : Tables) → new.shape ≡ old.shape → new.committed_shape ≡ old.shape → AreTables old t → AreTables new t
tables_along old new t shape committed h = record {
  features = ap (λ s. s t.features) shape ∙ h.features;
  policy = ap (λ s. s t.policy) shape ∙ h.policy;
  records = ap (λ s. s t.records) shape ∙ h.records;
  lives = ap (λ s. s t.lives) shape ∙ h.lives;
  committed = committed ∙ sym shape;
}

pub tables_kept : (old new : View) (t : Tables) → KeepsLast old new → AreTables old t → AreTables new t
tables_kept old new t kept h = tables_along old new t kept.shape (kept.committed_shape ∙ h.committed) h

-- after a commit
pub rest_committed : (old mid new : View) (t : Tables) → IsAtRest old t → (IsClean new → IsClean old) → (IsClean new → OnlyWrites old mid) → (IsClean new → Commits mid new) → IsAtRest new t
rest_committed old mid new t rest back frame commits = record {
  apart = rest.apart;
  tables = λ clean.
      let is = (commits clean).is in
      let shaped : new.shape ≡ old.shape = ap (λ (v : View). v.shape) is ∙ ap (λ (v : View). v.shape) (frame clean) in
      let listed : new.committed_shape ≡ old.shape = ap (λ (v : View). v.committed_shape) is ∙ ap (λ (v : View). v.shape) (frame clean) in
      tables_along old new t shaped listed (rest.tables (back clean));
  settled = λ clean sound. let is = (commits clean).is in ap (λ (v : View). v.trees) is ∙ sym (ap (λ (v : View). v.committed) is);
}

-- after a rollback, by itself or of a commit that failed
pub rest_rolled : (old mid new : View) (t : Tables) → IsAtRest old t → (IsClean new → IsClean old) → (IsClean new → KeepsLast old mid) → IsRolledBack mid new
    → (new.is_open ≡ false → IsTrue new.is_broken) → IsAtRest new t
rest_rolled old mid new t rest back kept rolled law = record {
  apart = rest.apart;
  tables = λ clean.
      let k = kept clean in
      let before = rest.tables (back clean) in
      let tied : mid.shape ≡ mid.committed_shape = k.shape ∙ sym before.committed ∙ sym k.committed_shape in
      let shaped : new.shape ≡ old.shape = rolled.shape tied ∙ k.shape in
      let listed : new.committed_shape ≡ old.shape = rolled.committed_shape ∙ k.committed_shape ∙ before.committed in
      tables_along old new t shaped listed before;
  settled = λ clean sound.
      let is_open = is_open_now new law sound in
      (rolled.undone is_open).0 ∙ sym ((rolled.kept clean).committed is_open);
}

pub told_rolled : (old mid new : View) → (IsClean new → KeepsLast old mid) → IsRolledBack mid new → IsClean new → IsTrue new.is_open → new.committed ≡ old.committed
told_rolled old mid new kept rolled clean is_open =
    let k = rolled.kept clean in
    k.committed is_open ∙ (kept clean).committed (k.was_open is_open)

pub length-lines_from : (n : ℕ) (rs : List RecordData) → length (lines_from n rs) ≡ length rs
length-lines_from n [] = refl
length-lines_from n (r ∷ rs) = let rest = length-lines_from (n + 1) rs in omega (arith, rest)

-- what is on the disk after the commit of a group
pub held_then : (old mid : View) (t : Tables) (number : ℕ) (rs : List RecordData) (v : VolumeData) → IsAtRest old t → IsClean old → mid.is_broken ≡ false
    → Appends old mid t number rs → HoldsAt t old.committed number v → Holds t mid.trees (volume_after rs v)
held_then old mid t number rs v rest clean sound more held =
    let before : old.is_broken ≡ false = sym (ap (λ (w : View). w.is_broken) more.frame) ∙ sound in
    more.volume v (subst (λ (db : Trees). HoldsAt t db number v) (sym (rest.settled clean before)) held)

pub held_committed : (old mid new : View) (t : Tables) (number next : ℕ) (rs : List RecordData) (v : VolumeData) → IsAtRest old t → IsClean old
    → Appends old mid t number rs → Commits mid new → next ≡ number + length rs → HoldsAt t old.committed number v → HoldsAt t new.committed next (volume_after rs v)
held_committed old mid new t number next rs v rest clean more commits count held =
    let there = held_then old mid t number rs v rest clean commits.sound more held in
    let here : Holds t new.committed (volume_after rs v) = subst (λ (db : Trees). Holds t db (volume_after rs v)) (sym (ap (λ (w : View). w.committed) commits.is)) there in
    let at = held.1 in
    (here, omega (arith, count, at, length-append v.lines (lines_from (v.first + length v.lines) rs), length-lines_from (v.first + length v.lines) rs))

-- the lives on the disk after a commit that wrote none
pub lives_kept : (old mid new : View) (t : Tables) → IsAtRest old t → IsClean old → OnlyWrites old mid → mid.trees t.lives ≡ old.trees t.lives
    → Commits mid new → new.committed t.lives ≡ old.committed t.lives
lives_kept old mid new t rest clean frame same commits =
    let before : old.is_broken ≡ false = sym (ap (λ (w : View). w.is_broken) frame) ∙ commits.sound in
    ap (λ (db : Trees). db t.lives) (ap (λ (w : View). w.committed) commits.is) ∙ same ∙ ap (λ (db : Trees). db t.lives) (rest.settled clean before)

-- the lives on the disk after a commit that wrote one
pub life_noted : (old mid new : View) (t : Tables) (row : Row) → IsAtRest old t → IsClean old → Writes old mid t.lives (put_row row (old.trees t.lives))
    → Commits mid new → new.committed t.lives ≡ put_row row (old.committed t.lives)
life_noted old mid new t row rest clean wrote commits =
    let before : old.is_broken ≡ false = sym (ap (λ (w : View). w.is_broken) wrote.frame) ∙ commits.sound in
    ap (λ (db : Trees). db t.lives) (ap (λ (w : View). w.committed) commits.is) ∙ wrote.here
    ∙ ap (λ (db : Trees). put_row row (db t.lives)) (rest.settled clean before)

-- what is on the disk after a commit that wrote lives alone
pub held_beside : (old mid new : View) (t : Tables) (number : ℕ) (rows : List Row) (v : VolumeData) → IsAtRest old t → IsClean old → Writes old mid t.lives rows
    → Commits mid new → HoldsAt t old.committed number v → HoldsAt t new.committed number v
held_beside old mid new t number rows v rest clean wrote commits held =
    let before : old.is_broken ≡ false = sym (ap (λ (w : View). w.is_broken) wrote.frame) ∙ commits.sound in
    let same : (other : ℕ) → other ≢ t.lives → new.committed other ≡ old.committed other = λ other apart.
    ap (λ (db : Trees). db other) (ap (λ (w : View). w.committed) commits.is) ∙ wrote.others other apart ∙ ap (λ (db : Trees). db other) (rest.settled clean before) in
    let at = held.0 in (
      record {
        state = record {
          features = same t.features rest.apart.feature_life ∙ at.state.features;
          policy = same t.policy rest.apart.policy_life ∙ at.state.policy;
        };
        records = same t.records rest.apart.record_life ∙ at.records;
        kept = at.kept;
      },
      held.1,
    )
