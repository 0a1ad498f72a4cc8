-- A line that was answered, and the slot that was tended after it.
use Rattle.std.proofs.Common.{◌≡◌, ℕ, List, [], ◌∷◌, ◌++◌, Option, None, Some, Result, IfErr, ap, refl, sym, subst}
use Rattle.std.specs.Io.KnownBytes.{Appends}
use Rattle.plain_world.specs.Events.{Happens, Tend, Tended, reply_of}
use Rattle.plain_world.specs.declared.faults.Fault.{Fault}
use Rattle.tree_answers.specs.declared.answers.Tending.{Tending}
use Rattle.world.specs.Index.{IndexedWorld, slots_of}
use Rattle.world.specs.Refusing.{RefusesGrowth}
use Rattle.world.specs.Stepping.{TendsIndex}
use Rattle.world.specs.Turns.{behind}
use Rattle.scripts.specs.Indexed.{LineRuns, TendsNext, indexed, with_index}
use Rattle.scripts.specs.Scripts.{LineTellsIn, script}
use Rattle.scripts.specs.States.{SessionState}

-- nothing written is nothing appended
pub ends_by_nothing : (xs : List ℕ) → xs ≡ xs ++ []
ends_by_nothing [] = refl
ends_by_nothing (x ∷ xs) = ap (λ rest. x ∷ rest) (ends_by_nothing xs)

pub appends_nothing : (w : Option (List ℕ)) → Appends w w []
appends_nothing None = tt
appends_nothing (Some xs) = ends_by_nothing xs

pub line_runs : (line : List ℕ) (old mid new : IndexedWorld) (before after last : List SessionState) (slot turn next : ℕ) (said : List ℕ)
    → LineTellsIn with_index line (script old before) (script mid after) said → last ≡ after → turn ≡ slot → new.plain ≡ mid.plain → new.walks ≡ mid.walks
    → ((answer : Result Tending Fault) × Happens (Tend turn) mid.plain new.plain (reply_of Tended answer) × IfErr answer (RefusesGrowth mid.index) × TendsIndex mid.plain turn mid.index new.index answer)
    → next ≡ behind turn (slots_of new.index) → LineRuns line (indexed old before slot) (indexed new last next) said
line_runs line old mid new before after last slot turn next said told same is plain walks index passes = (
  mid,
  subst (λ xs. LineTellsIn with_index line (script old before) (script mid xs) said) (sym same) told,
  subst (λ n. TendsNext mid n new next) is (record {
    plain = plain;
    walks = walks;
    answer = index.0;
    happens = index.1;
    refused = index.2;
    tends = index.3;
    turn = passes;
  }),
)
