-- Writing the line about a fault.
use Rattle.std.proofs.Common.{◌≡◌, ℕ, List, ◌++◌, Option, Result, sym, subst, ap, ◌∙◌, append_assoc, codes}
use Rattle.std.specs.Io.KnownBytes.{Appends}
use Rattle.std.specs.Result.{IsErr}
use Rattle.byte_streams.specs.Written.{Took}
use Rattle.session_lines.proofs.WritingLemmas.{took_first, took_then}
use Rattle.program.specs.Ends.{fault_line, fault_name, fault_word}
use Rattle.program.specs.declared.faults.ProgramFault.{ProgramFault}

four_parts : (a b c d : List ℕ) → (a ++ b) ++ (c ++ d) ≡ a ++ ((b ++ c) ++ d)
four_parts a b c d = append_assoc a b (c ++ d) ∙ ap (λ (t : List ℕ). a ++ t) (sym (append_assoc b c d))

-- the line is written by two calls
pub line_told : {E : Type 0} (r : Result (Unit {0}) E) (a b c : Option (List ℕ)) (fault : ProgramFault) → Appends a b (codes "landmap: " ++ fault_word fault) → Took r b c (fault_name fault ++ codes "\n") → Took r a c (fault_line fault)
line_told r a b c fault first second =
    subst (λ (t : List ℕ). Took r a c t) (four_parts (codes "landmap: ") (fault_word fault) (fault_name fault) (codes "\n"))
    (took_then r a b c (codes "landmap: " ++ fault_word fault) (fault_name fault ++ codes "\n") first second)

-- the first of them failed
pub line_untold : {E : Type 0} (r : Result (Unit {0}) E) → IsErr r → (a b : Option (List ℕ)) (fault : ProgramFault) → ((front : List ℕ) × (left : List ℕ) × (codes "landmap: " ++ fault_word fault ≡ front ++ left) × Appends a b front) → Took r a b (fault_line fault)
line_untold r failed a b fault first =
    subst (λ (t : List ℕ). Took r a b t) (four_parts (codes "landmap: ") (fault_word fault) (fault_name fault) (codes "\n"))
    (took_first r failed a b (codes "landmap: " ++ fault_word fault) (fault_name fault ++ codes "\n") first)
