-- What clap's getters read of rows that passed: an argument's first value, as a number or a flag.
use Rattle.std.proofs.Common.{◌≡◌, ◌<◌, ◌^◌, ℕ, Bool, true, false, ◌||◌, if◌then◌else◌, List, [], ◌∷◌, Option, None, Some, IfSome, is_some, option_map, Result, Ok, refl, ap, ◌∙◌, sym, subst, codes, true≢false, arith}
use Rattle.std.specs.Prelude.{find, option_and_then, pos, slice_get}
use Rattle.std.specs.Option.{option_map_or}
use Rattle.std.specs.Str.{bytes_eq}
use Rattle.std.specs.Str.Parse.{ExplainsUnsignedError, HasUnsignedDigitsIfOk, ParsesUnsigned, starts_with_minus}
use Rattle.std.proofs.lemmas.Int.{ints}
use Rattle.std.proofs.lemmas.Slice.Eq.{bytes_eq-Decides}
use Rattle.clap.proofs.CallerReads.{signed_reads}
use Rattle.clap.proofs.ValueTestLemmas.{accepts-Accepts}
use Rattle.clap.specs.Facts.{explicit_source, parser_of_value}
use Rattle.clap.specs.Faults.{values_fault}
use Rattle.clap.specs.Lexer.{without_minus}
use Rattle.clap.proofs.WalkLemmas.{one_text-rows}
use Rattle.clap.specs.Matches.{ReadsOne, one_text}
use Rattle.clap.specs.Takes.{is_given}
use Rattle.clap.specs.Values.{Accepts, IsSignedIn, read_as, reading_of, refused_kind}
use Rattle.clap.specs.ValueTests.{accepts}
use Rattle.clap.specs.Walk.{Row, Rule, Text, arg_by_id, first_of, one_of, reading_by, row_text, rows_of}
use Rattle.clap.specs.declared.builder.value_parser.Reading.{Reading}
use Rattle.clap.specs.declared.builder.value_parser.ValueParser.{ValueParser}
use Rattle.clap.specs.declared.builder.value_parser.ValueParser.TheVariants as parsers
use Rattle.clap.specs.declared.error.kind.ErrorKind.{ErrorKind}
use Rattle.clap.specs.declared.parser.matches.Found.{Found}
use Rattle.std.specs.declared.num.ParseIntError.{ParseIntError}
use Rattle.command_line.specs.Asking.{IsUpTo}
use Rattle.command_line.specs.CommandLine.{number_of}
use Rattle.command_line.proofs.RowLemmas.{ArePassed, HasValue, IsPassedBy, at_some, both_pass}

-- the row of an argument, if there is one, passed
abbrev pub Passes : Rule → List Row → Type 0
Passes a rows = IfSome (find (λ r. bytes_eq r.id a.id) rows) (IsPassedBy a)

pub passes : (rules : List Rule) (a : Rule) (rows : List Row) → arg_by_id rules a.id ≡ Some a → ArePassed rules rows → Passes a rows
passes rules a [] own f = tt
passes rules a (r ∷ rs) own f = by (passes rules a rs own f.1) (bytes_eq r.id a.id) refl
  where
    by : Passes a rs → (b : Bool) → bytes_eq r.id a.id ≡ b → IfSome (if b then Some r else find (λ r. bytes_eq r.id a.id) rs) (IsPassedBy a)
    by below true same = at_some (λ a. IsPassedBy a r) (arg_by_id rules r.id) a (ap (arg_by_id rules) ((bytes_eq-Decides r.id a.id).0 same) ∙ own) f.0
    by below false other = below

-- an argument that is given has a value
pub has_first : (a : Rule) (rows : List Row) → Passes a rows → is_given a.id rows ≡ true → is_some (first_of a.id rows) ≡ true
has_first a rows p e = by (find (λ r. bytes_eq r.id a.id) rows) p e
  where
    some_first : (values : List Text) → HasValue values → is_some (slice_get values 0) ≡ true
    some_first [] h = absurd h
    some_first (v ∷ vs) h = refl

    by : (o : Option Row) → IfSome o (IsPassedBy a) → option_map_or (λ (r : Row). explicit_source r.source) o false ≡ true → is_some (option_and_then (λ (r : Row). slice_get r.values 0) o) ≡ true
    by None p e = absurd (true≢false (sym e))
    by (Some r) p e = some_first r.values p.has

-- ---- a value that was accepted

first_accepted : (a : Rule) (v : Text) (vs : List Text) → values_fault a (v ∷ vs) ≡ [] → accepts a.ignore_case (parser_of_value a.parser) v ≡ true
first_accepted a v vs e = by (refused_kind (parser_of_value a.parser)) (accepts a.ignore_case (parser_of_value a.parser) v) (both_pass _ _ e).0
  where
    by : (kind : ErrorKind) (b : Bool) → (if b then [] else kind ∷ []) ≡ [] → b ≡ true
    by kind true e = refl
    by kind false e = absurd cc

-- ---- numbers

module _ {E : Type 0} (G : Text → Result ℕ E → Type 0) (k most : ℕ) (only : (u : Text) (x : Result ℕ E) → G u x → ParsesUnsigned k 10 u x) (fits : most < 2 ^ k) (result : Option ℕ) where
  abbrev pub IsNumber : Option Text → Type 0
  IsNumber first = (result ≡ option_map number_of first) × IfSome result (IsUpTo most)

  no_minus : (t : Text) → IsSignedIn (pos 1) (pos most) t → starts_with_minus t ≡ false
  no_minus t inside = by (starts_with_minus t) refl
    where
      by : (b : Bool) → starts_with_minus t ≡ b → starts_with_minus t ≡ false
      by true minus =
          let low = rw minus at inside.2 in
          absurd (omega (arith, ints))
      by false plus = plus

  unsigned : (t : Text) → starts_with_minus t ≡ false → without_minus t ≡ t
  unsigned [] e = refl
  unsigned (x ∷ xs) e = rw e refl

  number_read : (t : Text) → IsSignedIn (pos 1) (pos most) t → ReadsOne G (without_minus t) result → IsNumber (Some t)
  number_read t inside read =
      let got = signed_reads E G k 1 most t result read only fits inside in
      let exact : ReadsOne G t (Some got.0) = subst (λ r. ReadsOne G t r) got.1 (subst (λ u. ReadsOne G u result) (unsigned t (no_minus t inside)) read) in
      let value = (only t (Ok got.0) exact).1 in
      (got.1 ∙ ap Some value, subst (λ r. IfSome r (IsUpTo most)) (sym got.1) (got.2, got.3))

  module _ (a : Rule) (ranged : parser_of_value a.parser ≡ parsers.Signed (pos 1) (pos most)) where
    as_number : (r : Row) (values : List Text) → HasValue values → values_fault a values ≡ [] → r.reading ≡ reading_by a
        → ((t : Text) → option_map (read_as r.reading) (slice_get values 0) ≡ Some t → ReadsOne G t result) → IsNumber (slice_get values 0)
    as_number r [] has e reading value = absurd has
    as_number r (v ∷ vs) has e reading value =
        let accepted : Accepts a.ignore_case (parsers.Signed (pos 1) (pos most)) v = subst (λ (q : ValueParser). Accepts a.ignore_case q v) ranged (accepts-Accepts a.ignore_case (parser_of_value a.parser) v (first_accepted a v vs e)) in
        let unminused : read_as r.reading v ≡ without_minus v = ap (λ (how : Reading). read_as how v) (reading ∙ ap reading_of ranged) in
        number_read v accepted (value (without_minus v) (ap Some unminused))

    -- what `get_one` reads of the rows is the number of the first value
    pub number_given : (rows : List Row) → Passes a rows → (one_of a.id rows ≡ None → result ≡ None) → ((t : Text) → one_of a.id rows ≡ Some t → ReadsOne G t result) → IsNumber (first_of a.id rows)
    number_given rows p none value = by (find (λ r. bytes_eq r.id a.id) rows) p none value
      where
        by : (o : Option Row) → IfSome o (IsPassedBy a) → (option_and_then row_text o ≡ None → result ≡ None) → ((t : Text) → option_and_then row_text o ≡ Some t → ReadsOne G t result)
            → IsNumber (option_and_then (λ (r : Row). slice_get r.values 0) o)
        by None p none value = (none refl, subst (λ r. IfSome r (IsUpTo most)) (sym (none refl)) tt)
        by (Some r) p none value = as_number r r.values p.has p.accepted p.reading value

-- `from_str` at an unsigned type of k bits
abbrev pub GivesUnsigned : ℕ → Text → Result ℕ ParseIntError → Type 0
GivesUnsigned k text r = ParsesUnsigned k 10 text r × ExplainsUnsignedError 10 text r × HasUnsignedDigitsIfOk text r

-- the same for what a parse found
pub number_found : (k most : ℕ) → most < 2 ^ k → (a : Rule) → parser_of_value a.parser ≡ parsers.Signed (pos 1) (pos most) → (found : Found) → Passes a (rows_of found) → (result : Option ℕ)
    → (one_text found a.id ≡ None → result ≡ None) → ((t : Text) → one_text found a.id ≡ Some t → ReadsOne (GivesUnsigned k) t result)
    → (result ≡ option_map number_of (first_of a.id (rows_of found))) × IfSome result (IsUpTo most)
number_found k most fits a ranged found p result none value =
    number_given (GivesUnsigned k) k most (λ u x g. g.0) fits result a ranged (rows_of found) p (λ e. none (one_text-rows found a.id ∙ e)) (λ t e. value t (one_text-rows found a.id ∙ e))

-- ---- flags

module _ (a : Rule) (boolean : parser_of_value a.parser ≡ parsers.Bool) (result : Bool) where
  flag_read : (t : Text) → (bytes_eq t (codes "true") || bytes_eq t (codes "false")) ≡ true → (t ≡ codes "true" → result ≡ true) → (t ≡ codes "false" → result ≡ false) → result ≡ bytes_eq t (codes "true")
  flag_read t either is_so is_not = by (bytes_eq t (codes "true")) refl either
    where
      by : (b : Bool) → bytes_eq t (codes "true") ≡ b → (b || bytes_eq t (codes "false")) ≡ true → result ≡ b
      by true is e = is_so ((bytes_eq-Decides t (codes "true")).0 is)
      by false other e = is_not ((bytes_eq-Decides t (codes "false")).0 e)

  as_flag : (r : Row) (values : List Text) → HasValue values → values_fault a values ≡ [] → r.reading ≡ reading_by a
      → (option_map (read_as r.reading) (slice_get values 0) ≡ Some (codes "true") → result ≡ true) → (option_map (read_as r.reading) (slice_get values 0) ≡ Some (codes "false") → result ≡ false)
      → result ≡ option_map_or (λ text. bytes_eq text (codes "true")) (slice_get values 0) false
  as_flag r [] has e reading is_so is_not = absurd has
  as_flag r (v ∷ vs) has e reading is_so is_not =
      let accepted : accepts a.ignore_case parsers.Bool v ≡ true = subst (λ (q : ValueParser). accepts a.ignore_case q v ≡ true) boolean (first_accepted a v vs e) in
      let as_written : read_as r.reading v ≡ v = ap (λ (how : Reading). read_as how v) (reading ∙ ap reading_of boolean) in
      flag_read v accepted (λ is. is_so (ap Some (as_written ∙ is))) (λ is. is_not (ap Some (as_written ∙ is)))

  -- what `get_flag` reads of the rows is whether the first value is `true`
  pub flag_given : (rows : List Row) → Passes a rows → (one_of a.id rows ≡ None → result ≡ false) → (one_of a.id rows ≡ Some (codes "true") → result ≡ true) → (one_of a.id rows ≡ Some (codes "false") → result ≡ false)
      → result ≡ option_map_or (λ text. bytes_eq text (codes "true")) (first_of a.id rows) false
  flag_given rows p none is_so is_not = by (find (λ r. bytes_eq r.id a.id) rows) p none is_so is_not
    where
      by : (o : Option Row) → IfSome o (IsPassedBy a) → (option_and_then row_text o ≡ None → result ≡ false) → (option_and_then row_text o ≡ Some (codes "true") → result ≡ true) → (option_and_then row_text o ≡ Some (codes "false") → result ≡ false)
          → result ≡ option_map_or (λ text. bytes_eq text (codes "true")) (option_and_then (λ (r : Row). slice_get r.values 0) o) false
      by None p none is_so is_not = none refl
      by (Some r) p none is_so is_not = as_flag r r.values p.has p.accepted p.reading is_so is_not

pub flag_found : (a : Rule) → parser_of_value a.parser ≡ parsers.Bool → (found : Found) → Passes a (rows_of found) → (result : Bool)
    → (one_text found a.id ≡ None → result ≡ false) → (one_text found a.id ≡ Some (codes "true") → result ≡ true) → (one_text found a.id ≡ Some (codes "false") → result ≡ false)
    → result ≡ option_map_or (λ text. bytes_eq text (codes "true")) (first_of a.id (rows_of found)) false
flag_found a boolean found p result none is_so is_not =
    let same = one_text-rows found a.id in
    flag_given a boolean result (rows_of found) p (λ e. none (same ∙ e)) (λ e. is_so (same ∙ e)) (λ e. is_not (same ∙ e))
