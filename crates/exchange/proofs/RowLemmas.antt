-- The words of the row of a feature.
use Rattle.std.proofs.Common.{◌≡◌, ℕ, ◌+◌, ◌≤◌, ◌<◌, ◌^◌, ◌==◌, Bool, true, false, not, ◌&&◌, List, [], ◌∷◌, ◌++◌, take, drop, length, Option, None, Ok, Some, decimal, refl, sym, ap, ap₂, ◌∙◌, append_assoc, arith, one-add, nat_le}
use Rattle.std.specs.Prelude.{IsTrue, codes}
use Rattle.std.specs.Char.{is_ascii_digit}
use Rattle.std.specs.List.{list_all, prefix_len}
use Rattle.std.specs.Str.{all_ascii_digits}
use Rattle.std.specs.Str.Parse.{digits_value}
use Rattle.std.proofs.lemmas.Bool.{and_from, and_parts, le-leb, lt-ltb}
use Rattle.std.proofs.lemmas.Bool.Decides.{nat_tests}
use Rattle.std.proofs.lemmas.Fmt.{digits_decimal, digits_value-decimal, decimal_nonempty, length-decimal-le}
use Rattle.std.proofs.lemmas.List.{take_at, drop_at}
use Rattle.std.proofs.lemmas.Str.Parse.{IsNumeralModel, numerals_by_value, tells_all_ascii_digits}
use Rattle.features.specs.Names.{is_name, is_name_byte, name_of}
use Rattle.features.specs.declared.rows.Feature.{Feature}
use Rattle.plane.specs.declared.point.Point.{Point}
use Rattle.wkt.specs.Printing.{printed}
use Rattle.wkt.specs.Reading.{shape_of}
use Rattle.wkt.proofs.PrintedShapes.{printed_is_read}
use Rattle.exchange.specs.Replies.{IsWhole, reply_row}
use Rattle.line_words.specs.Words.{is_letter, next_word, number_of, parted, unspaced}

-- ---- options

pub none_some : {X R : Type 0} (x : X) → None ≡ Some x → R
none_some x e = absurd cc

pub one_some : {X : Type 0} (a b : X) → Some a ≡ Some b → a ≡ b
one_some a b e = cc

pub both_some : {X Y : Type 0} (a c : X) (b d : Y) → ◌≡◌ {A = Option (X × Y)} (Some (a, b)) (Some (c, d)) → (a ≡ c) × (b ≡ d)
both_some {X} {Y} a c b d e =
    let both : ◌≡◌ {A = X × Y} (a, b) (c, d) = one_some {X = X × Y} (a, b) (c, d) e in
    (ap (λ (p : X × Y). p.0) both, ap (λ (p : X × Y). p.1) both)

spaced : (a b c d e : List ℕ) → a ++ codes " " ++ b ++ codes " " ++ c ++ codes " " ++ d ++ codes " " ++ e ≡ a ++ 32 ∷ (b ++ 32 ∷ (c ++ 32 ∷ (d ++ 32 ∷ e)))
spaced a b c d e = simp append_assoc refl

-- ---- a word before a space

whole_prefix : (w rest : List ℕ) → list_all is_letter w ≡ true → prefix_len is_letter (w ++ 32 ∷ rest) ≡ length w
whole_prefix [] rest h = refl
whole_prefix (c ∷ cs) rest h =
    let parts = and_parts (is_letter c) (list_all is_letter cs) h in
    rw (parts.0, whole_prefix cs rest parts.1, one-add) refl

no_space : (b : Bool) → not b ≡ true → b ≡ false
no_space false h = refl
no_space true h = absurd cc

-- a word has no space in front
unspaced_word : (c : ℕ) (cs : List ℕ) → is_letter c ≡ true → unspaced (c ∷ cs) ≡ c ∷ cs
unspaced_word c cs h = rw (no_space (c == 32) h) refl

pub in_front : (w rest : List ℕ) → 0 < length w → list_all is_letter w ≡ true → unspaced (w ++ 32 ∷ rest) ≡ w ++ 32 ∷ rest
in_front [] rest some h = absurd (omega arith)
in_front (c ∷ cs) rest some h = unspaced_word c (cs ++ 32 ∷ rest) (and_parts (is_letter c) (list_all is_letter cs) h).0

pub behind_space : (w rest : List ℕ) → 0 < length w → list_all is_letter w ≡ true → unspaced (32 ∷ w ++ 32 ∷ rest) ≡ w ++ 32 ∷ rest
behind_space [] rest some h = absurd (omega arith)
behind_space (c ∷ cs) rest some h =
    let parts = and_parts (is_letter c) (list_all is_letter cs) h in
    rw (no_space (c == 32) parts.0) refl

-- the next word of a text that has it in front, behind spaces or not
pub word_read : (text w rest : List ℕ) → 0 < length w → list_all is_letter w ≡ true → unspaced text ≡ w ++ 32 ∷ rest → next_word text ≡ Some (w, 32 ∷ rest)
unfolding next_word
word_read text [] rest some h e = absurd (omega arith)
word_read text (c ∷ cs) rest some h e =
    let len = whole_prefix (c ∷ cs) rest h in
    ap parted e
    ∙ ap (λ (k : ℕ). Some (take k (c ∷ (cs ++ 32 ∷ rest)), drop k (c ∷ (cs ++ 32 ∷ rest)))) len
    ∙ ap₂ (λ (a b : List ℕ). Some (a, b)) (take_at (c ∷ cs) (32 ∷ rest) (length (c ∷ cs)) refl) (drop_at (c ∷ cs) (32 ∷ rest) (length (c ∷ cs)) refl)

-- ---- numbers

own : IsNumeralModel (λ ds. all_ascii_digits ds ≡ true) (digits_value 10)
own = numerals_by_value (λ ds. all_ascii_digits ds ≡ true) tells_all_ascii_digits

digit_letter : (b : ℕ) → is_ascii_digit b ≡ true → is_letter b ≡ true
digit_letter b h = grind (arith, nat_tests)

digit_letters : (ds : List ℕ) → all_ascii_digits ds ≡ true → list_all is_letter ds ≡ true
digit_letters [] h = refl
digit_letters (d ∷ ds) h = let parts = and_parts (is_ascii_digit d) (all_ascii_digits ds) h in and_from _ _ (digit_letter d parts.0) (digit_letters ds parts.1)

pub decimal_letters : (n : ℕ) → n < 2 ^ 64 → list_all is_letter (decimal n) ≡ true
decimal_letters n h = digit_letters (decimal n) (digits_decimal own n h)

pub number_again : (n : ℕ) → n < 2 ^ 64 → number_of (decimal n) ≡ Some n
unfolding number_of
number_again n h =
    let short : length (decimal n) ≤ 20 = length-decimal-le 20 n (omega arith) (omega arith) h in
    let value : digits_value 10 (decimal n) ≡ n = digits_value-decimal own n h in
    rw (le-leb 1 (length (decimal n)) (decimal_nonempty n h), le-leb (length (decimal n)) 20 short, digits_decimal own n h, value, lt-ltb n (2 ^ 64) h) refl

-- ---- names

name_letter : (b : ℕ) → is_name_byte b ≡ true → is_letter b ≡ true
name_letter b h = grind (arith, nat_tests)

name_letters_in : (w : List ℕ) → list_all is_name_byte w ≡ true → list_all is_letter w ≡ true
name_letters_in [] h = refl
name_letters_in (c ∷ cs) h = let parts = and_parts (is_name_byte c) (list_all is_name_byte cs) h in and_from _ _ (name_letter c parts.0) (name_letters_in cs parts.1)

name_some : (w : List ℕ) (a b c : Bool) → (a ≡ true → 0 < length w) → ((a && b) && c) ≡ true → (0 < length w) × (c ≡ true)
name_some w true true c some h = (some refl, h)
name_some w true false c some h = absurd cc
name_some w false b c some h = absurd cc

pub name_letters : (w : List ℕ) → IsTrue (is_name w) → (0 < length w) × (list_all is_letter w ≡ true)
name_letters w h =
    let both = name_some w (nat_le 1 (length w)) _ (list_all is_name_byte w) (λ e. grind (arith, nat_tests)) h in
    (both.0, name_letters_in w both.1)

pub name_again : (w : List ℕ) → IsTrue (is_name w) → name_of w ≡ Some w
name_again w h = rw h refl

-- ---- the parts of a row

abbrev pub behind_office : Feature → List ℕ
behind_office f = f.class ++ 32 ∷ printed f.shape

abbrev pub behind_version : Feature → List ℕ
behind_version f = f.office ++ 32 ∷ behind_office f

abbrev pub behind_id : Feature → List ℕ
behind_id f = decimal f.version ++ 32 ∷ behind_version f

pub at_id : (row : List ℕ) (f : Feature) → IsWhole f → row ≡ reply_row f → unspaced row ≡ decimal f.id ++ 32 ∷ behind_id f
at_id row f w e =
    let parts = e ∙ spaced (decimal f.id) (decimal f.version) f.office f.class (printed f.shape) in
    ap unspaced parts ∙ in_front (decimal f.id) (behind_id f) (decimal_nonempty f.id w.id) (decimal_letters f.id w.id)

pub at_version : (row : List ℕ) (f : Feature) → IsWhole f → row ≡ 32 ∷ behind_id f → unspaced row ≡ decimal f.version ++ 32 ∷ behind_version f
at_version row f w e = ap unspaced e ∙ behind_space (decimal f.version) (behind_version f) (decimal_nonempty f.version w.version) (decimal_letters f.version w.version)

name_read : (row name rest : List ℕ) → IsTrue (is_name name) → row ≡ 32 ∷ name ++ 32 ∷ rest → next_word row ≡ Some (name, 32 ∷ rest)
name_read row name rest h e =
    let word = name_letters name h in
    word_read row name rest word.0 word.1 (ap unspaced e ∙ behind_space name rest word.0 word.1)

pub at_office : (row : List ℕ) (f : Feature) → IsWhole f → row ≡ 32 ∷ behind_version f → next_word row ≡ Some (f.office, 32 ∷ behind_office f)
at_office row f w e = name_read row f.office (behind_office f) w.office e

pub at_class : (row : List ℕ) (f : Feature) → IsWhole f → row ≡ 32 ∷ behind_office f → next_word row ≡ Some (f.class, 32 ∷ printed f.shape)
at_class row f w e = name_read row f.class (printed f.shape) w.class e

pub shape_again : (text : List ℕ) (f : Feature) → IsWhole f → text ≡ printed f.shape → shape_of text ≡ Ok f.shape
shape_again text f w e = ap shape_of e ∙ printed_is_read f.shape w.shape

pub behind_one : (x y : ℕ) (xs ys : List ℕ) → x ∷ xs ≡ y ∷ ys → xs ≡ ys
behind_one x y xs ys e = cc

pub not_empty : {R : Type 0} (row : List ℕ) (x : ℕ) (rest : List ℕ) → row ≡ x ∷ rest → length row ≡ 0 → R
not_empty row x rest e none = let more : length row ≡ 1 + length rest = ap length e ∙ sym (one-add (length rest)) in absurd (omega (arith, more, none))

pub same_feature : (f : Feature) (id version : ℕ) (office class : List ℕ) (shape : List Point) → id ≡ f.id → version ≡ f.version → office ≡ f.office → class ≡ f.class → shape ≡ f.shape
    → Some record { id = id; version = version; office = office; class = class; shape = shape } ≡ Some f
same_feature f id version office class shape i v o k s = rw (i, v, o, k, s) refl
