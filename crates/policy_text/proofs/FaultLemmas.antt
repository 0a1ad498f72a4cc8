-- Comparing faults: the derived test decides `≡`.
use Rattle.std.proofs.Common.{◌≡◌, ◌↔◌, ℕ, List, true, ◌&&◌, refl, ap, IsTrue}
use Rattle.std.proofs.lemmas.Bool.{false≢true}
use Rattle.std.specs.Cmp.{first_so, second_so, unsigned_Decides}
use Rattle.std.specs.Cmp.Lexicographic.{bytes_decides}
use Rattle.plane.specs.contracts.fault.ShapeFaultPartialEq.TheImpl as shaping
use Rattle.plane.specs.declared.fault.ShapeFault.{ShapeFault}
use Rattle.plane.specs.declared.fault.ShapeFault.TheVariants as shapes
use Rattle.wkt.specs.contracts.fault.WktFaultPartialEq.TheImpl as reading
use Rattle.wkt.specs.declared.fault.WktFault.{WktFault}
use Rattle.wkt.specs.declared.fault.WktFault.TheVariants as texts
use Rattle.plane.specs.Equality.{decides_by}
use Rattle.features.specs.Equality.{same_name}
use Rattle.policy_text.specs.Places.{same_path, same_path_decides}
use Rattle.policy_text.specs.contracts.faults.TextFaultPartialEq.TheImpl as comparing
use Rattle.policy_text.specs.declared.faults.TextFault.{TextFault}
use Rattle.policy_text.specs.declared.paths.PathPart.{PathPart}
use Rattle.policy_text.specs.declared.faults.TextFault.TheVariants as faults

shape_fault-itself : (a : ShapeFault) → shaping.eq-value.it a a ≡ true
shape_fault-itself shapes.OutOfRange = refl
shape_fault-itself shapes.SameEnds = refl
shape_fault-itself shapes.TooManyPoints = refl
shape_fault-itself shapes.TooFew = refl
shape_fault-itself shapes.NotClosed = refl
shape_fault-itself shapes.Repeated = refl
shape_fault-itself shapes.Flat = refl
shape_fault-itself shapes.NotConvex = refl
shape_fault-itself shapes.TooManyCorners = refl

shape_fault-told : (a b : ShapeFault) → shaping.eq-value.it a b ≡ true → a ≡ b
shape_fault-told shapes.OutOfRange shapes.OutOfRange e = refl
shape_fault-told shapes.SameEnds shapes.SameEnds e = refl
shape_fault-told shapes.TooManyPoints shapes.TooManyPoints e = refl
shape_fault-told shapes.TooFew shapes.TooFew e = refl
shape_fault-told shapes.NotClosed shapes.NotClosed e = refl
shape_fault-told shapes.Repeated shapes.Repeated e = refl
shape_fault-told shapes.Flat shapes.Flat e = refl
shape_fault-told shapes.NotConvex shapes.NotConvex e = refl
shape_fault-told shapes.TooManyCorners shapes.TooManyCorners e = refl
shape_fault-told a b e = absurd (false≢true e)

wkt_fault-itself : (a : WktFault) → reading.eq-value.it a a ≡ true
wkt_fault-itself (texts.UnknownWord at) = (unsigned_Decides at at).1 refl
wkt_fault-itself (texts.LeftOut at) = (unsigned_Decides at at).1 refl
wkt_fault-itself (texts.Syntax at) = (unsigned_Decides at at).1 refl
wkt_fault-itself (texts.Number at) = (unsigned_Decides at at).1 refl
wkt_fault-itself (texts.OutOfRange at) = (unsigned_Decides at at).1 refl
wkt_fault-itself (texts.Bad fault) = shape_fault-itself fault

wkt_fault-told : (a b : WktFault) → reading.eq-value.it a b ≡ true → a ≡ b
wkt_fault-told (texts.UnknownWord a) (texts.UnknownWord b) e = ap texts.UnknownWord ((unsigned_Decides a b).0 e)
wkt_fault-told (texts.LeftOut a) (texts.LeftOut b) e = ap texts.LeftOut ((unsigned_Decides a b).0 e)
wkt_fault-told (texts.Syntax a) (texts.Syntax b) e = ap texts.Syntax ((unsigned_Decides a b).0 e)
wkt_fault-told (texts.Number a) (texts.Number b) e = ap texts.Number ((unsigned_Decides a b).0 e)
wkt_fault-told (texts.OutOfRange a) (texts.OutOfRange b) e = ap texts.OutOfRange ((unsigned_Decides a b).0 e)
wkt_fault-told (texts.Bad a) (texts.Bad b) e = ap texts.Bad (shape_fault-told a b e)
wkt_fault-told a b e = absurd (false≢true e)

text_fault-itself : (a : TextFault) → comparing.eq-value.it a a ≡ true
text_fault-itself faults.NotJson = refl
text_fault-itself (faults.Memory m) = refl
text_fault-itself (faults.Form path) = (same_path_decides path path).1 refl
text_fault-itself (faults.UnknownKey path) = (same_path_decides path path).1 refl
text_fault-itself (faults.TooDeep path) = (same_path_decides path path).1 refl
text_fault-itself (faults.TooMany path) = (same_path_decides path path).1 refl
text_fault-itself (faults.NameTwice path name) = λ i. (same_path_decides path path).1 refl i && (bytes_decides name name).1 refl i
text_fault-itself (faults.NoZone path name) = λ i. (same_path_decides path path).1 refl i && (bytes_decides name name).1 refl i
text_fault-itself (faults.BadZone path name fault) = λ i. (same_path_decides path path).1 refl i && ((bytes_decides name name).1 refl i && wkt_fault-itself fault i)

-- the same path and the same name
named_told : (p q : List PathPart) (a b : List ℕ) → (same_path p q && same_name a b) ≡ true → (p ≡ q) × (a ≡ b)
named_told p q a b e =
    ((same_path_decides p q).0 (first_so (same_path p q) (same_name a b) e), (bytes_decides a b).0 (second_so (same_path p q) (same_name a b) e))

text_fault-told : (a b : TextFault) → comparing.eq-value.it a b ≡ true → a ≡ b
text_fault-told faults.NotJson faults.NotJson e = refl
text_fault-told (faults.Memory m) (faults.Memory n) e = refl
text_fault-told (faults.Form a) (faults.Form b) e = ap faults.Form ((same_path_decides a b).0 e)
text_fault-told (faults.UnknownKey a) (faults.UnknownKey b) e = ap faults.UnknownKey ((same_path_decides a b).0 e)
text_fault-told (faults.TooDeep a) (faults.TooDeep b) e = ap faults.TooDeep ((same_path_decides a b).0 e)
text_fault-told (faults.TooMany a) (faults.TooMany b) e = ap faults.TooMany ((same_path_decides a b).0 e)
text_fault-told (faults.NameTwice p a) (faults.NameTwice q b) e =
    let both = named_told p q a b e in λ i. faults.NameTwice (both.0 i) (both.1 i)
text_fault-told (faults.NoZone p a) (faults.NoZone q b) e =
    let both = named_told p q a b e in λ i. faults.NoZone (both.0 i) (both.1 i)
text_fault-told (faults.BadZone p m a) (faults.BadZone q n b) e =
    let path = (same_path_decides p q).0 (first_so (same_path p q) (same_name m n && reading.eq-value.it a b) e) in
    let rest = second_so (same_path p q) (same_name m n && reading.eq-value.it a b) e in
    let name = (bytes_decides m n).0 (first_so (same_name m n) (reading.eq-value.it a b) rest) in
    let fault = wkt_fault-told a b (second_so (same_name m n) (reading.eq-value.it a b) rest) in
    λ i. faults.BadZone (path i) (name i) (fault i)
text_fault-told a b e = absurd (false≢true e)

-- `==` on faults is exact
pub text_fault_exact : (a b : TextFault) → IsTrue (comparing.eq-value.it a b) ↔ (a ≡ b)
text_fault_exact = decides_by comparing.eq-value.it text_fault-itself text_fault-told
