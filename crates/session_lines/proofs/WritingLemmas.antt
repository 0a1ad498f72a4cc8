-- Writing replies.
use Rattle.std.proofs.Common.{◌≡◌, ℕ, ◌+◌, ◌<◌, ◌≤◌, List, [], ◌∷◌, ◌++◌, length, map, get_or, Option, Result, Ok, Err, refl, sym, ap, ◌∙◌, append_assoc, append-nil, lit≤, subst, take, drop, take-append-drop, codes, decimal}
use Rattle.std.specs.List.{flat_map}
use Rattle.std.proofs.lemmas.List.{length-map, take_more}
use Rattle.std.proofs.lemmas.Grind.{flat_map-append}
use Rattle.std.specs.Io.KnownBytes.{Appends}
use Rattle.plane.specs.declared.fault.ShapeFault.{ShapeFault}
use Rattle.plane.specs.declared.fault.ShapeFault.TheVariants.{OutOfRange as RangeFault, SameEnds, TooManyPoints, TooFew, NotClosed, Repeated, Flat, NotConvex, TooManyCorners}
use Rattle.wkt.specs.declared.fault.WktFault.{WktFault}
use Rattle.wkt.specs.declared.fault.WktFault.TheVariants.{UnknownWord, LeftOut, Syntax, Number as NumberFault, OutOfRange, Bad}
use Rattle.plane.specs.FaultCodes.{code_of as shape_code_of}
use Rattle.wkt.specs.FaultCodes.{code_of as wkt_code_of}
use Rattle.policy_text.specs.declared.faults.TextFault.{TextFault}
use Rattle.policy_text.specs.declared.faults.TextFault.TheVariants as unread
use Rattle.policy_text.specs.FaultCodes.{code_of as policy_code_of}
use Rattle.plain_world.specs.FaultCodes.{fault_code}
use Rattle.tree_answers.specs.Faults.{code_of as tree_code}
use Rattle.plain_world.specs.declared.faults.Fault.{Fault as WorldFault}
use Rattle.plain_world.specs.declared.faults.Fault.TheVariants as faults
use Rattle.tree_answers.specs.declared.fault.TreeFault.{TreeFault}
use Rattle.tree_answers.specs.declared.fault.TreeFault.TheVariants as tree
use Rattle.session_lines.specs.declared.faults.LineFault.{LineFault}
use Rattle.session_lines.specs.declared.faults.LineFault.TheVariants.{Shape}
use Rattle.session_lines.specs.Faults.{code_of}
use Rattle.session_lines.specs.Printed.{led, texts_text}
use Rattle.std.specs.Result.{IsErr}
use Rattle.byte_streams.specs.Written.{Took}
use Rattle.byte_streams.proofs.WrittenLemmas.{appends_then}

-- no code is longer than three bytes
shape_code_short : (fault : ShapeFault) → length (shape_code_of fault) ≤ 3
shape_code_short RangeFault = lit≤ tt
shape_code_short SameEnds = lit≤ tt
shape_code_short TooManyPoints = lit≤ tt
shape_code_short TooFew = lit≤ tt
shape_code_short NotClosed = lit≤ tt
shape_code_short Repeated = lit≤ tt
shape_code_short Flat = lit≤ tt
shape_code_short NotConvex = lit≤ tt
shape_code_short TooManyCorners = lit≤ tt

wkt_code_short : (fault : WktFault) → length (wkt_code_of fault) ≤ 3
wkt_code_short (UnknownWord at) = lit≤ tt
wkt_code_short (LeftOut at) = lit≤ tt
wkt_code_short (Syntax at) = lit≤ tt
wkt_code_short (NumberFault at) = lit≤ tt
wkt_code_short (OutOfRange at) = lit≤ tt
wkt_code_short (Bad fault) = shape_code_short fault

tree_code_short : (fault : TreeFault) → length (tree_code fault) ≤ 3
tree_code_short tree.NoSearch = lit≤ tt
tree_code_short tree.TooMany = lit≤ tt
tree_code_short (tree.Held search) = lit≤ tt
tree_code_short tree.Full = lit≤ tt
tree_code_short tree.TooHigh = lit≤ tt
tree_code_short tree.Spent = lit≤ tt
tree_code_short tree.Overrun = lit≤ tt
tree_code_short (tree.Memory refused) = lit≤ tt

pub world_code_short : (fault : WorldFault) → length (fault_code fault) ≤ 3
world_code_short (faults.Tree fault) = tree_code_short fault
world_code_short _ = lit≤ tt

pub policy_code_short : (fault : TextFault) → length (policy_code_of fault) ≤ 3
policy_code_short unread.NotJson = lit≤ tt
policy_code_short (unread.Form path) = lit≤ tt
policy_code_short (unread.UnknownKey path) = lit≤ tt
policy_code_short (unread.NameTwice path name) = lit≤ tt
policy_code_short (unread.NoZone path name) = lit≤ tt
policy_code_short (unread.BadZone path name fault) = lit≤ tt
policy_code_short (unread.TooDeep path) = lit≤ tt
policy_code_short (unread.TooMany path) = lit≤ tt
policy_code_short (unread.Memory refused) = lit≤ tt

pub code_short : (fault : LineFault) → length (code_of fault) ≤ 3
code_short (Shape fault) = wkt_code_short fault
code_short _ = lit≤ tt

-- five fields, each appended to those before it
pub fields_joined : (x₀ x₁ x₂ x₃ x₄ x₅ a b c d e space : List ℕ) → x₁ ≡ x₀ ++ (a ++ space) → x₂ ≡ x₁ ++ (b ++ space) → x₃ ≡ x₂ ++ (c ++ space) → x₄ ≡ x₃ ++ (d ++ space) → x₅ ≡ x₄ ++ e
    → x₅ ≡ x₀ ++ (a ++ space ++ b ++ space ++ c ++ space ++ d ++ space ++ e)
fields_joined x₀ x₁ x₂ x₃ x₄ x₅ a b c d e space h₁ h₂ h₃ h₄ h₅ = rw (h₅, h₄, h₃, h₂, h₁) (simp append_assoc)

-- ---- what a writer took

-- a write that was taken whole, and the next one
pub took_then : {E : Type 0} (r : Result (Unit {0}) E) (a b c : Option (List ℕ)) (xs ys : List ℕ) → Appends a b xs → Took r b c ys → Took r a c (xs ++ ys)
took_then (Ok u) a b c xs ys first second = appends_then a b c xs ys first second
took_then (Err e) a b c xs ys first second =
    (xs ++ second.0, second.1, ap (λ (zs : List ℕ). xs ++ zs) second.2 ∙ sym (append_assoc xs second.0 second.1), appends_then a b c xs second.0 first second.3)

-- a write that failed, so the next one was not made
pub failed_before : (a b : Option (List ℕ)) (xs ys : List ℕ) → ((front : List ℕ) × (left : List ℕ) × (xs ≡ front ++ left) × Appends a b front)
    → ((front : List ℕ) × (left : List ℕ) × (xs ++ ys ≡ front ++ left) × Appends a b front)
failed_before a b xs ys failed = (failed.0, failed.1 ++ ys, ap (λ (zs : List ℕ). zs ++ ys) failed.2 ∙ append_assoc failed.0 failed.1 ys, failed.3)

-- the same, where the result of the failed call is that of both
pub took_first : {E : Type 0} (r : Result (Unit {0}) E) → IsErr r → (a b : Option (List ℕ)) (xs ys : List ℕ) → ((front : List ℕ) × (left : List ℕ) × (xs ≡ front ++ left) × Appends a b front) → Took r a b (xs ++ ys)
took_first (Ok u) failed a b xs ys first = absurd cc
took_first (Err e) failed a b xs ys first = failed_before a b xs ys first

-- the lead of a line, and then its text with the line's end
pub line_written : {E : Type 0} (r : Result (Unit {0}) E) (a b c : Option (List ℕ)) (lead text end : List ℕ) → Appends a b lead → Took r b c (text ++ end) → Took r a c ((lead ++ text) ++ end)
line_written r a b c lead text end first second = subst (λ (t : List ℕ). Took r a c t) (sym (append_assoc lead text end)) (took_then r a b c lead (text ++ end) first second)

pub line_failed : {E : Type 0} (r : Result (Unit {0}) E) → IsErr r → (a b : Option (List ℕ)) (lead text end : List ℕ) → ((front : List ℕ) × (left : List ℕ) × (lead ≡ front ++ left) × Appends a b front) → Took r a b ((lead ++ text) ++ end)
line_failed r failed a b lead text end first = subst (λ (t : List ℕ). Took r a b t) (sym (append_assoc lead text end)) (took_first r failed a b lead (text ++ end) first)

-- the rows that a loop has written, and one that was not written in full
pub rows_broken : {E : Type 0} (r : Result (Unit {0}) E) → IsErr r → (front one behind all : List ℕ) (a b c : Option (List ℕ)) → all ≡ front ++ (one ++ behind) → Appends a b front
    → ((fore : List ℕ) × (left : List ℕ) × (one ≡ fore ++ left) × Appends b c fore) → Took r a c all
rows_broken (Ok u) failed front one behind all a b c parts first second = absurd cc
rows_broken (Err e) failed front one behind all a b c parts first second =
    let more = failed_before b c one behind second in
    (front ++ more.0, more.1, parts ∙ ap (λ (zs : List ℕ). front ++ zs) more.2 ∙ sym (append_assoc front more.0 more.1), appends_then a b c front more.0 first more.3)

-- ---- one item of a list after another

module _ {T : Type 0} (f : T → List ℕ) where
  so_far_at : (xs : List T) (i : ℕ) (x : T) → i < length xs → x ≡ get_or xs i x → flat_map f (take (i + 1) xs) ≡ flat_map f (take i xs) ++ f x
  so_far_at xs i x lt is =
      ap (flat_map f) (take_more xs i x lt ∙ ap (λ (y : T). take i xs ++ y ∷ []) (sym is)) ∙ flat_map-append f (take i xs) (x ∷ [])
      ∙ ap (λ (t : List ℕ). flat_map f (take i xs) ++ t) (append-nil (f x))

  parts_at : (xs : List T) (i : ℕ) (x : T) → i < length xs → x ≡ get_or xs i x → flat_map f xs ≡ flat_map f (take i xs) ++ (f x ++ flat_map f (drop (i + 1) xs))
  parts_at xs i x lt is =
      ap (flat_map f) (sym (take-append-drop (i + 1) xs)) ∙ flat_map-append f (take (i + 1) xs) (drop (i + 1) xs)
      ∙ ap (λ (t : List ℕ). t ++ flat_map f (drop (i + 1) xs)) (so_far_at xs i x lt is) ∙ append_assoc (flat_map f (take i xs)) (f x) (flat_map f (drop (i + 1) xs))

  pub items_more : (xs : List T) (i : ℕ) (x : T) (a b c : Option (List ℕ)) → i < length xs → x ≡ get_or xs i x → Appends a b (flat_map f (take i xs)) → Appends b c (f x) → Appends a c (flat_map f (take (i + 1) xs))
  items_more xs i x a b c lt is first second = subst (λ (t : List ℕ). Appends a c t) (sym (so_far_at xs i x lt is)) (appends_then a b c (flat_map f (take i xs)) (f x) first second)

  pub items_failed : {E : Type 0} (r : Result (Unit {0}) E) → IsErr r → (xs : List T) (i : ℕ) (x : T) (a b c : Option (List ℕ)) → i < length xs → x ≡ get_or xs i x → Appends a b (flat_map f (take i xs))
      → ((fore : List ℕ) × (left : List ℕ) × (f x ≡ fore ++ left) × Appends b c fore) → Took r a c (flat_map f xs)
  items_failed r failed xs i x a b c lt is first second =
      rows_broken r failed (flat_map f (take i xs)) (f x) (flat_map f (drop (i + 1) xs)) (flat_map f xs) a b c (parts_at xs i x lt is) first second

pub flat_map_of_map : {T U : Type 0} (f : U → List ℕ) (g : T → U) (xs : List T) → flat_map (λ (x : T). f (g x)) xs ≡ flat_map f (map g xs)
flat_map_of_map f g [] = refl
flat_map_of_map f g (x ∷ xs) = ap (λ (t : List ℕ). f (g x) ++ t) (flat_map_of_map f g xs)

-- the number of texts of a list, and then the texts
pub texts_joined : {T : Type 0} (g : T → List ℕ) (lead : List ℕ) (xs : List T) → led lead (codes "rolled " ++ decimal (length xs)) ++ flat_map (λ (x : T). led lead (g x)) xs ≡ texts_text lead (map g xs)
texts_joined g lead xs =
    ap (λ (n : ℕ). led lead (codes "rolled " ++ decimal n) ++ flat_map (λ x. led lead (g x)) xs) (sym (length-map xs g))
    ∙ ap (λ (t : List ℕ). led lead (codes "rolled " ++ decimal (length (map g xs))) ++ t) (flat_map_of_map (λ (t : List ℕ). led lead t) g xs)
