-- What a run of lines gathers.
use Rattle.std.proofs.Common.{◌≡◌, ℕ, List, [], ◌∷◌, ◌++◌, Option, None, Some, IsSome, Result, Ok, Err, sym, ap, subst, ◌∙◌, append-nil, append_assoc, IfOk, OnOk, inl, inr}
use Rattle.std.specs.List.{flat_map}
use Rattle.line_streams.specs.declared.streams.Next.{Next}
use Rattle.line_streams.specs.declared.streams.Next.TheVariants.{Line, End}
use Rattle.line_streams.specs.declared.streams.ServeFault.{ServeFault}
use Rattle.line_streams.specs.Streams.{GoesOn, LinesTell, Ran}
use Rattle.drawing.specs.declared.marks.Mark.{Mark}
use Rattle.drawing.specs.declared.reading.Stop.{Stop}
use Rattle.drawing.specs.Gathering.{Gathered, LineGathers, ReadsMarks}
use Rattle.drawing.specs.Marks.{AreNotTooMany, marks_on}

line_marks : (line : List ℕ) (old new : Gathered) (said : List ℕ) → GoesOn LineGathers line old new said → new.marks ≡ old.marks ++ marks_on line
line_marks line old new said told = told.1.0

line_within : (line : List ℕ) (old new : Gathered) (said : List ℕ) → GoesOn LineGathers line old new said → AreNotTooMany old.marks → AreNotTooMany new.marks
line_within line old new said told = told.1.2

lines_within : (lines : List (List ℕ)) (old new : Gathered) (said : List ℕ) → LinesTell (GoesOn LineGathers) old lines new said → AreNotTooMany old.marks → AreNotTooMany new.marks
lines_within [] old new said told within = subst (λ (s : Gathered). AreNotTooMany s.marks) (sym told.0) within
lines_within (line ∷ lines) old new said told within = lines_within lines told.0 new told.2 told.5 (line_within line old told.0 told.1 told.3 within)

lines_marks : (lines : List (List ℕ)) (old new : Gathered) (said : List ℕ) → LinesTell (GoesOn LineGathers) old lines new said → new.marks ≡ old.marks ++ flat_map marks_on lines
lines_marks [] old new said told = ap (λ (s : Gathered). s.marks) told.0 ∙ sym (append-nil old.marks)
lines_marks (line ∷ lines) old new said told =
    lines_marks lines told.0 new told.2 told.5 ∙ ap (λ (ms : List Mark). ms ++ flat_map marks_on lines) (line_marks line old told.0 told.1 told.3)
    ∙ append_assoc old.marks (marks_on line) (flat_map marks_on lines)

ended_at : (next : Next) (line said : List ℕ) (old new : Gathered) → next ≡ End → LineGathers line old new said next → IsSome new.stop
ended_at End line said old new is (quiet, stopped) = stopped
ended_at Line line said old new is told = cc

none_some : {T : Type 0} (o : Option T) → o ≡ None → IsSome o → ⊥
none_some None is some = cc
none_some (Some x) is some = cc

-- a run to the end, by which nothing is left out, has gathered what the lines of the whole input
-- show
pub run_gathers : {O : Type 0} (r : Result O ServeFault) (old new : Gathered) (input left a b : Option (List ℕ)) → Ran LineGathers r old new input left a b → OnOk r (new.stop ≡ None → ReadsMarks old.marks new.marks input left)
run_gathers (Err e) old new input left a b run = tt
run_gathers (Ok done) old new input left a b (inl run) =
    λ none. record { text = run.text; read = run.read; at_end = run.at_end; are = lines_marks _ old new run.answered.said run.answered.told; not_too_many = lines_within _ old new run.answered.said run.answered.told }
run_gathers (Ok done) old new input left a b (inr run) =
    λ none. absurd (none_some new.stop none (ended_at run.stopped.next run.stopped.last run.stopped.more run.stopped.mid new run.stopped.stops.0 run.stopped.told_last))

-- the marks of a run are returned, if none is left out
pub finished : {V E : Type 0} (items : V → List Mark) (r : Result V E) (old marks : List Mark) (stop : Option Stop) (input left : Option (List ℕ)) → (stop ≡ None → ReadsMarks old marks input left)
    → IfOk r (λ v. items v ≡ marks) → OnOk r (stop ≡ None) → IfOk r (λ v. ReadsMarks old (items v) input left)
finished items (Ok v) old marks stop input left reads same none = subst (λ (ms : List Mark). ReadsMarks old ms input left) (sym same) (reads none)
finished items (Err e) old marks stop input left reads same none = tt

pub on_ok : {T E : Type 0} (r : Result T E) (x : T) (P : Type 0) → r ≡ Ok x → OnOk r P → P
on_ok (Ok y) x P is holds = holds
on_ok (Err e) x P is holds = cc
