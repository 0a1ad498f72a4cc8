-- How a drawing ends.
use Rattle.std.proofs.Common.{◌≡◌, ℕ, List, [], ◌++◌, Option, Some, None, Result, Ok, Err, IsErrAnd, sym, ap, subst, ◌∙◌, append-nil, inl, lit≤}
use Rattle.std.specs.Io.KnownBytes.{Appends, Keeps}
use Rattle.plane.specs.Extents.{Extent}
use Rattle.drawing.specs.declared.faults.DrawFault.{DrawFault}
use Rattle.drawing.specs.declared.faults.DrawFault.TheVariants.{Write}
use Rattle.drawing.specs.declared.marks.Mark.{Mark}
use Rattle.drawing.specs.Drawings.{Draws, ReadBoth, drawn}
use Rattle.drawing.specs.Gathering.{ReadsMarks}
use Rattle.drawing.specs.Marks.{AreNotTooMany, marks_in}
use Rattle.drawing.specs.Pictures.{area_of, classes_of, document_text, svg_of}
use Rattle.byte_streams.specs.declared.failures.WriteFailed.{WriteFailed}

abbrev both_of : (none first all : List Mark) (s s2 r r2 : Option (List ℕ)) → (a : ReadsMarks none first s s2) → (b : ReadsMarks first all r r2) → ReadBoth s s2 r r2
both_of none first all s s2 r r2 a b = record { commands = a.text; answers = b.text; read_script = a.read; script_ends = a.at_end; read_replies = b.read; replies_end = b.at_end }

all_marks : (none first all : List Mark) (s s2 r r2 : Option (List ℕ)) → none ≡ [] → (a : ReadsMarks none first s s2) → (b : ReadsMarks first all r r2) → all ≡ marks_in a.text ++ marks_in b.text
all_marks none first all s s2 r r2 empty a b = b.are ∙ ap (λ (ms : List Mark). ms ++ marks_in b.text) (a.are ∙ ap (λ (ms : List Mark). ms ++ marks_in a.text) empty)

is_drawn : (none first all : List Mark) (s s2 r r2 : Option (List ℕ)) (area : Extent) (classes : List (List ℕ)) → none ≡ [] → (a : ReadsMarks none first s s2) → (b : ReadsMarks first all r r2) → area ≡ area_of all
    → classes ≡ classes_of all → document_text area classes all ≡ drawn a.text b.text
is_drawn none first all s s2 r r2 area classes empty a b is same =
    ap (λ (e : Extent). document_text e classes all) is ∙ ap (λ (cs : List (List ℕ)). document_text (area_of all) cs all) same ∙ ap svg_of (all_marks none first all s s2 r r2 empty a b)

kept_all : (a b c : Option (List ℕ)) (xs : List ℕ) → Appends a b xs → Keeps b c → Appends a c xs
kept_all None b c xs first second = tt
kept_all (Some a) None c xs first second = absurd first
kept_all (Some a) (Some b) None xs first second = absurd second
kept_all (Some a) (Some b) (Some c) xs first second = second ∙ first

module _ (none first all : List Mark) (s s2 r r2 w w2 : Option (List ℕ)) (area : Extent) (classes : List (List ℕ)) (empty : none ≡ []) (a : ReadsMarks none first s s2) (b : ReadsMarks first all r r2)
    (is : area ≡ area_of all) (same : classes ≡ classes_of all) where
  text_is : document_text area classes all ≡ drawn a.text b.text
  text_is = is_drawn none first all s s2 r r2 area classes empty a b is same

  -- the document was not written in full
  pub draws_front : {T : Type 0} (e : Result T DrawFault) (failed : WriteFailed) → IsErrAnd e (λ f. f ≡ Write failed)
      → ((front : List ℕ) × (left : List ℕ) × (document_text area classes all ≡ front ++ left) × Appends w w2 front) → Draws e s s2 r r2 w w2
  draws_front (Ok x) failed failing front = absurd failing
  draws_front {T = T} (Err f) failed failing front =
      subst (λ (g : DrawFault). Draws {T = T} (Err g) s s2 r r2 w w2) (sym failing)
      (inl (both_of none first all s s2 r r2 a b, front.0, front.1, sym text_is ∙ front.2, front.3))

  -- the document was written, and the flush failed
  pub draws_unflushed : {T : Type 0} (e : Result T DrawFault) (failed : WriteFailed) (w3 : Option (List ℕ)) → IsErrAnd e (λ f. f ≡ Write failed) → Appends w w3 (document_text area classes all) → Keeps w3 w2
      → Draws e s s2 r r2 w w2
  draws_unflushed e failed w3 failing written kept =
      draws_front e failed failing (document_text area classes all, [], sym (append-nil (document_text area classes all)), kept_all w w3 w2 (document_text area classes all) written kept)

  not_too_many : AreNotTooMany (marks_in a.text ++ marks_in b.text)
  not_too_many =
      subst AreNotTooMany (all_marks none first all s s2 r r2 empty a b) (b.not_too_many (a.not_too_many (subst AreNotTooMany (sym empty) (lit≤ tt))))

  -- the document was written and flushed
  pub draws_all : (w3 : Option (List ℕ)) → Appends w w3 (document_text area classes all) → Keeps w3 w2
      → (both : ReadBoth s s2 r r2) × AreNotTooMany (marks_in both.commands ++ marks_in both.answers) × Appends w w2 (drawn both.commands both.answers)
  draws_all w3 written kept =
      (both_of none first all s s2 r r2 a b, not_too_many, subst (λ (t : List ℕ). Appends w w2 t) text_is (kept_all w w3 w2 (document_text area classes all) written kept))
