-- Runs of lines, whatever answers the lines.
use Rattle.std.proofs.Common.{◌≡◌, ◌≢◌, ℕ, zero, suc, ◌+◌, ◌≤◌, ◌<◌, ◌⊎◌, true, List, [], ◌∷◌, ◌++◌, length, map, take, Option, None, Some, Result, Ok, Err, OnOk, refl, sym, ap, subst, ◌∙◌, append_assoc, append-nil, length-append, arith, inl, inr}
use Rattle.std.specs.Io.BufRead.{strip_last}
use Rattle.std.proofs.lemmas.Bool.{lt-ltb, cases_lt}
use Rattle.std.proofs.lemmas.List.{map-append, take_all}
use Rattle.std.specs.Io.KnownBytes.{Appends, Consumes, IsAtEnd, Keeps}
use Rattle.std.specs.Option.{IfSome}
use Rattle.std.specs.Result.{IfErr, IsErrAnd}
use Rattle.byte_streams.specs.declared.failures.ReadFailed.{ReadFailed}
use Rattle.byte_streams.specs.declared.failures.WriteFailed.{WriteFailed}
use Rattle.line_streams.proofs.LeavingLemmas.{left_by}
use Rattle.line_streams.proofs.LineLemmas.{begun_of-pieces, held_length, held_more, held_none, held_some, lines_of-line, lines_of-none, lines_of-pieces, no_pieces, one_piece, pieces_behind, pieces_then, still_line, stripped_long, whole_lines_of-pieces}
use Rattle.line_streams.specs.declared.streams.TheConstants.{HELD, LINE_LIMIT}
use Rattle.line_streams.specs.declared.streams.ServeFault.{ServeFault}
use Rattle.line_streams.specs.declared.streams.ServeFault.TheVariants.{Read, Write, TooManyTurns, Memory}
use Rattle.line_streams.specs.declared.streams.Next.{Next}
use Rattle.line_streams.specs.declared.streams.Next.TheVariants.{Line, End}
use Rattle.line_streams.specs.declared.streams.Stop.{Stop}
use Rattle.line_streams.specs.declared.streams.Stop.TheVariants.{Ended, Failed}
use Rattle.byte_streams.specs.declared.reading.Turns.{Turns}
use Rattle.line_streams.specs.Lines.{begun_of, is_too_long, ended, lines_of, whole_lines_of}
use Rattle.line_streams.specs.Streams.{OnMemory, LinesTell, GoesOn, NeverEnds, StreamEnds, StreamTells, Answered, Stopped, Ran, RanOn, RanWithin, RanSoFar, RanToEnd, RanToStop, RanWell, Rests, IsLine, held_of, held_with, with_begun, ArePieces, Passed, PassedToStop, Passes, StoppedAt, TookOne, TookLast, IsFlushed, Concludes}
use Rattle.byte_streams.proofs.WrittenLemmas.{appends_then}

-- ---- what is read

-- the text before the input is read already
consumes_begun : (begun : List ℕ) (a : Option (List ℕ)) → Consumes (with_begun begun a) a begun
consumes_begun begun None = tt
consumes_begun begun (Some xs) = refl

nothing_begun : (a : Option (List ℕ)) → with_begun [] a ≡ a
nothing_begun None = refl
nothing_begun (Some xs) = refl

consumes_then : (a b c : Option (List ℕ)) (xs ys : List ℕ) → Consumes a b xs → Consumes b c ys → Consumes a c (xs ++ ys)
consumes_then None b c xs ys first second = tt
consumes_then (Some a) None c xs ys first second = absurd first
consumes_then (Some a) (Some b) None xs ys first second = absurd second
consumes_then (Some a) (Some b) (Some c) xs ys first second = first ∙ ap (λ (zs : List ℕ). xs ++ zs) second ∙ sym (append_assoc xs ys c)

consumes_kept : (a b c : Option (List ℕ)) (xs : List ℕ) → Consumes a b xs → Keeps b c → Consumes a c xs
consumes_kept None b c xs read kept = tt
consumes_kept (Some a) None c xs read kept = absurd read
consumes_kept (Some a) (Some b) None xs read kept = absurd kept
consumes_kept (Some a) (Some b) (Some c) xs read kept = read ∙ ap (λ (zs : List ℕ). xs ++ zs) (sym kept)

keeps_none : (a : Option (List ℕ)) → Keeps a a
keeps_none None = tt
keeps_none (Some xs) = refl

-- ---- what is written

appends_none : (a : Option (List ℕ)) → Appends a a []
appends_none None = tt
appends_none (Some xs) = sym (append-nil xs)

appends_kept : (a b c : Option (List ℕ)) (xs : List ℕ) → Appends a b xs → Keeps b c → Appends a c xs
appends_kept None b c xs written kept = tt
appends_kept (Some a) None c xs written kept = absurd written
appends_kept (Some a) (Some b) None xs written kept = absurd kept
appends_kept (Some a) (Some b) (Some c) xs written kept = kept ∙ written

-- a read that gave at least one byte
pub some_taken : (n : ℕ) (xs : List ℕ) → n ≢ 0 → n ≡ length (take n xs) → 0 < length (take n xs)
some_taken zero xs other len = absurd (other refl)
some_taken (suc n) xs other len = subst (λ (m : ℕ). 0 < m) len (omega arith)

all_read : (a b c : Option (List ℕ)) (xs : List ℕ) → Consumes a b xs → Consumes b c [] → IsAtEnd c → IfSome a (λ t. t ≡ xs)
all_read None b c xs read last at_end = tt
all_read (Some a) None c xs read last at_end = absurd read
all_read (Some a) (Some b) None xs read last at_end = absurd last
all_read (Some a) (Some b) (Some c) xs read last at_end = read ∙ ap (λ (zs : List ℕ). xs ++ zs) (last ∙ at_end) ∙ append-nil xs

-- ---- lines that are answered

module _ {S : Type 0} (tell : List ℕ → S → S → List ℕ → Next → Type 0) where
  -- lines that are too long are answered alike
  abbrev pub LongAlike : Type 0
  LongAlike = (line other : List ℕ) (old new : S) (said : List ℕ) (next : Next) → is_too_long line ≡ true → is_too_long other ≡ true → tell line old new said next → tell other old new said next

  -- an answer of one line is an answer of the other
  abbrev TellsAlike : List ℕ → List ℕ → S → S → Type 0
  TellsAlike line other old new = (said : List ℕ) (next : Next) → tell line old new said next → tell other old new said next

  stripped_alike : LongAlike → (begun : List ℕ) (old new : S) → TellsAlike (strip_last 13 (held_of begun)) (strip_last 13 begun) old new
  stripped_alike alike begun old new said next told = elim (cases_lt (length begun) HELD) [
    | inl short ↦ subst (λ (line : List ℕ). tell (strip_last 13 line) old new said next) (take_all HELD begun (omega (arith, short))) told
    | inr long ↦ alike (strip_last 13 (held_of begun)) (strip_last 13 begun) old new said next (stripped_long (held_of begun) (held_length begun long)) (stripped_long begun long) told
  ]

  whole_alike : LongAlike → (begun : List ℕ) (old new : S) → TellsAlike (held_of begun) begun old new
  whole_alike alike begun old new said next told = elim (cases_lt (length begun) HELD) [
    | inl short ↦ subst (λ (line : List ℕ). tell line old new said next) (take_all HELD begun (omega (arith, short))) told
    | inr long ↦ alike (held_of begun) begun old new said next (lt-ltb LINE_LIMIT _ (omega (arith, held_length begun long))) (lt-ltb LINE_LIMIT _ (omega (arith, long))) told
  ]

  stopped_alike : (stop : Stop) (line other : List ℕ) (old new : S) (a b : Option (List ℕ)) → TellsAlike line other old new → StoppedAt tell stop line old new a b → StoppedAt tell stop other old new a b
  stopped_alike stop line other old new a b alike at = record {
    said = at.said;
    next = at.next;
    told = alike at.said at.next at.told;
    front = at.front;
    left = at.left;
    parts = at.parts;
    stops = at.stops;
    written = at.written;
  }

  tell_then : (old mid new : S) (lines others : List (List ℕ)) (said more : List ℕ) → LinesTell (GoesOn tell) old lines mid said → LinesTell (GoesOn tell) mid others new more → LinesTell (GoesOn tell) old (lines ++ others) new (said ++ more)
  tell_then old mid new [] others said more first second =
      rw (first.1) (subst (λ (s : S). LinesTell (GoesOn tell) s others new more) first.0 second)
  tell_then old mid new (line ∷ lines) others said more first second = (
    first.0,
    first.1,
    first.2 ++ more,
    first.3,
    ap (λ (t : List ℕ). t ++ more) first.4 ∙ append_assoc first.1 first.2 more,
    tell_then first.0 mid new lines others first.2 more first.5 second,
  )

  answered_none : (old : S) (a : Option (List ℕ)) → Answered tell old [] old a a
  answered_none old a = record { said = []; told = (refl, refl); written = appends_none a }

  pub answered_then : (old mid new : S) (lines others : List (List ℕ)) (a b c : Option (List ℕ)) → Answered tell old lines mid a b → Answered tell mid others new b c → Answered tell old (lines ++ others) new a c
  answered_then old mid new lines others a b c first second = record {
    said = first.said ++ second.said;
    told = tell_then old mid new lines others first.said second.said first.told second.told;
    written = appends_then a b c first.said second.said first.written second.written;
  }

  answered_kept : (old new : S) (lines : List (List ℕ)) (a b c : Option (List ℕ)) → Answered tell old lines new a b → Keeps b c → Answered tell old lines new a c
  answered_kept old new lines a b c all kept = record { said = all.said; told = all.told; written = appends_kept a b c all.said all.written kept }

  pub stopped_then : (stop : Stop) (old mid new : S) (lines others : List (List ℕ)) (a b c : Option (List ℕ)) → Answered tell old lines mid a b → Stopped tell stop mid others new b c → Stopped tell stop old (lines ++ others) new a c
  stopped_then stop old mid new lines others a b c first second = record {
    firsts = lines ++ second.firsts;
    last = second.last;
    are = ap (λ (xs : List (List ℕ)). lines ++ xs) second.are ∙ sym (append_assoc lines second.firsts (second.last ∷ []));
    mid = second.mid;
    said = first.said ++ second.said;
    told = tell_then old mid second.mid lines second.firsts first.said second.said first.told second.told;
    more = second.more;
    next = second.next;
    told_last = second.told_last;
    front = second.front;
    left = second.left;
    parts = second.parts;
    stops = second.stops;
    written = subst (λ (t : List ℕ). Appends a c t) (sym (append_assoc first.said second.said second.front)) (appends_then a b c first.said (second.said ++ second.front) first.written second.written);
  }

  stopped_kept : (stop : Stop) (old new : S) (lines : List (List ℕ)) (a b c : Option (List ℕ)) → Stopped tell stop old lines new a b → Keeps b c → Stopped tell stop old lines new a c
  stopped_kept stop old new lines a b c all kept = record {
    firsts = all.firsts;
    last = all.last;
    are = all.are;
    mid = all.mid;
    said = all.said;
    told = all.told;
    more = all.more;
    next = all.next;
    told_last = all.told_last;
    front = all.front;
    left = all.left;
    parts = all.parts;
    stops = all.stops;
    written = appends_kept a b c (all.said ++ all.front) all.written kept;
  }

  some_stopped : (stop : Stop) (old new : S) (lines : List (List ℕ)) (a b : Option (List ℕ)) → Stopped tell stop old lines new a b → 0 < length lines
  some_stopped stop old new lines a b all = rw (all.are) (omega (arith, length-append all.firsts (all.last ∷ [])))

  one_answered : (line : List ℕ) (old new : S) (said : List ℕ) (a b : Option (List ℕ)) → Appends a b said → GoesOn tell line old new said → Answered tell old (line ∷ []) new a b
  one_answered line old new said a b written told = record { said = said; told = (new, said, [], told, sym (append-nil said), (refl, refl)); written = written }

  one_stopped : (stop : Stop) (line : List ℕ) (old new : S) (a b : Option (List ℕ)) → StoppedAt tell stop line old new a b → Stopped tell stop old (line ∷ []) new a b
  one_stopped stop line old new a b at = record {
    firsts = [];
    last = line;
    are = refl;
    mid = old;
    said = [];
    told = (refl, refl);
    more = at.said;
    next = at.next;
    told_last = at.told;
    front = at.front;
    left = at.left;
    parts = at.parts;
    stops = at.stops;
    written = at.written;
  }

  -- ---- bytes that are taken

  -- before further bytes of a line that has begun
  pub begun_passed : (begun held : List ℕ) (old : S) (a : Option (List ℕ)) → IsLine begun → held ≡ held_of begun → Passed tell begun old old held a a
  begun_passed begun held old a whole holds = record { pieces = []; begun = begun; are = no_pieces begun; open_line = whole; holds = holds; answered = answered_none old a }

  pub byte_held : (begun held : List ℕ) (byte : ℕ) (old : S) (a : Option (List ℕ)) → IsLine begun → held ≡ held_of begun → byte ≢ 10 → Passed tell (begun ++ byte ∷ []) old old (held_with byte held) a a
  byte_held begun held byte old a whole holds other = record {
    pieces = [];
    begun = begun ++ byte ∷ [];
    are = no_pieces (begun ++ byte ∷ []);
    open_line = still_line begun byte whole other;
    holds = rw holds (held_more begun byte);
    answered = answered_none old a;
  }

  -- a line feed was taken
  pub feed_passed : LongAlike → (begun held after line : List ℕ) (byte : ℕ) (old new : S) (a b : Option (List ℕ)) → IsLine begun → held ≡ held_of begun → line ≡ strip_last 13 held → byte ≡ 10 → after ≡ []
      → ((said : List ℕ) × Appends a b said × GoesOn tell line old new said) → Passed tell (begun ++ byte ∷ []) old new after a b
  feed_passed alike begun held after line byte old new a b whole holds is_line fed_now none told = rw (fed_now, none) (record {
    pieces = begun ∷ [];
    begun = [];
    are = one_piece begun whole;
    open_line = λ k d within. absurd (omega (arith, within));
    holds = refl;
    answered = one_answered (strip_last 13 begun) old new told.0 a b told.1 (stripped_alike alike begun old new told.0 Line (rw (is_line, holds) at told.2));
  })

  pub feed_stopped : (r : Result (Unit {0}) Stop) (stop : Stop) → IsErrAnd r (λ e. e ≡ stop) → LongAlike → (begun held after line : List ℕ) (byte : ℕ) (old new : S) (a b : Option (List ℕ)) → IsLine begun → held ≡ held_of begun → line ≡ strip_last 13 held → byte ≡ 10
      → StoppedAt tell stop line old new a b → Passes tell r (begun ++ byte ∷ []) old new after a b
  feed_stopped r stop is alike begun held after line byte old new a b whole holds is_line fed_now at =
      left_by r stop (λ (r : Result (Unit {0}) Stop). Passes tell r (begun ++ byte ∷ []) old new after a b) is (rw fed_now (record {
        pieces = begun ∷ [];
        behind = [];
        are = one_piece begun whole;
        stopped = one_stopped stop (strip_last 13 begun) old new a b (stopped_alike stop _ _ old new a b (stripped_alike alike begun old new) (rw (is_line, holds) at at));
      }))

  passed_then : (text bytes held held_then : List ℕ) (old mid new : S) (a b c : Option (List ℕ)) → (first : Passed tell text old mid held a b) → Passed tell (first.begun ++ bytes) mid new held_then b c
      → Passed tell (text ++ bytes) old new held_then a c
  passed_then text bytes held held_then old mid new a b c first second = record {
    pieces = first.pieces ++ second.pieces;
    begun = second.begun;
    are = pieces_then text bytes first.begun second.begun first.pieces second.pieces first.are second.are;
    open_line = second.open_line;
    holds = second.holds;
    answered = rw (map-append (strip_last 13) first.pieces second.pieces) (answered_then old mid new _ _ a b c first.answered second.answered);
  }

  stopped_behind : (stop : Stop) (text bytes rest held : List ℕ) (old mid new : S) (a b c : Option (List ℕ)) → (first : Passed tell text old mid held a b) → PassedToStop tell stop (first.begun ++ bytes) mid new b c
      → PassedToStop tell stop (text ++ (bytes ++ rest)) old new a c
  stopped_behind stop text bytes rest held old mid new a b c first second = record {
    pieces = first.pieces ++ second.pieces;
    behind = second.behind ++ rest;
    are = pieces_behind (text ++ bytes) second.behind rest text bytes (first.pieces ++ second.pieces) (pieces_then text bytes first.begun second.behind first.pieces second.pieces first.are second.are) refl;
    stopped = rw (map-append (strip_last 13) first.pieces second.pieces) (stopped_then stop old mid new _ _ a b c first.answered second.stopped);
  }

  -- further bytes were taken
  pub passed_more : (begun front bytes all held held_then : List ℕ) (old mid new : S) (a b c : Option (List ℕ)) → all ≡ front ++ bytes → (first : Passed tell (begun ++ front) old mid held a b)
      → Passed tell (first.begun ++ bytes) mid new held_then b c → Passed tell (begun ++ all) old new held_then a c
  passed_more begun front bytes all held held_then old mid new a b c parts first second =
      subst (λ (t : List ℕ). Passed tell t old new held_then a c) (append_assoc begun front bytes ∙ ap (λ (t : List ℕ). begun ++ t) (sym parts)) (passed_then (begun ++ front) bytes held held_then old mid new a b c first second)

  pub stopped_more : (r : Result (Unit {0}) Stop) (stop : Stop) → IsErrAnd r (λ e. e ≡ stop) → (begun front bytes rest all held held_then : List ℕ) (old mid new : S) (a b c : Option (List ℕ)) → all ≡ front ++ (bytes ++ rest)
      → (first : Passed tell (begun ++ front) old mid held a b) → PassedToStop tell stop (first.begun ++ bytes) mid new b c → Passes tell r (begun ++ all) old new held_then a c
  stopped_more r stop is begun front bytes rest all held held_then old mid new a b c parts first second =
      left_by r stop (λ (r : Result (Unit {0}) Stop). Passes tell r (begun ++ all) old new held_then a c) is
      (subst (λ (t : List ℕ). PassedToStop tell stop t old new a c) (append_assoc begun front (bytes ++ rest) ∙ ap (λ (t : List ℕ). begun ++ t) (sym parts)) (stopped_behind stop (begun ++ front) bytes rest held old mid new a b c first second))

  -- ---- the end of a run

  -- the last line, which has no line feed
  pub last_took : (r : Result (Unit {0}) Stop) → LongAlike → (begun held line : List ℕ) (old new : S) (a b : Option (List ℕ)) → IsLine begun → held ≡ held_of begun → 0 < length held → line ≡ held
      → TookOne tell r line old new a b → TookLast tell r (lines_of begun) old new a b
  last_took (Ok u) alike begun held line old new a b whole holds some is_line told =
      rw (lines_of-line begun whole (held_some begun held holds some)) (one_answered begun old new told.0 a b told.1 (whole_alike alike begun old new told.0 Line (rw (is_line, holds) at told.2)))
  last_took (Err stop) alike begun held line old new a b whole holds some is_line told =
      rw (lines_of-line begun whole (held_some begun held holds some)) (one_stopped stop begun old new a b (stopped_alike stop _ _ old new a b (whole_alike alike begun old new) (rw (is_line, holds) at told)))

  pub no_last : (begun held : List ℕ) (old : S) (a : Option (List ℕ)) → held ≡ held_of begun → held ≡ [] → Answered tell old (lines_of begun) old a a
  no_last begun held old a holds none = rw (held_none begun held holds none, lines_of-none) (answered_none old a)

  -- The state before a read: what was read of the input, and what it led to.
  pub record Standing (old new : S) (held : List ℕ) (turns : ℕ) (start left a b : Option (List ℕ)) : Type 0 where
    pub text : List ℕ
    pub read : Consumes start left text
    pub enough : turns ≤ length text
    pub passed : Passed tell text old new held a b

  -- before the first read, where a line has begun
  pub stands_first : (begun held : List ℕ) (old : S) (start a : Option (List ℕ)) → IsLine begun → held ≡ held_of begun → Standing old old held 0 (with_begun begun start) start a a
  stands_first begun held old start a whole holds = record { text = begun; read = consumes_begun begun start; enough = omega arith; passed = begun_passed begun held old a whole holds }

  pub stands_on : (old mid new : S) (held held_then bytes : List ℕ) (turns : ℕ) (start left next a b c : Option (List ℕ)) → (first : Standing old mid held turns start left a b) → Consumes left next bytes → 0 < length bytes
      → Passed tell (first.passed.begun ++ bytes) mid new held_then b c → Standing old new held_then (turns + 1) start next a c
  stands_on old mid new held held_then bytes turns start left next a b c first taken some second = record {
    text = first.text ++ bytes;
    read = consumes_then start left next first.text bytes first.read taken;
    enough = omega (arith, first.enough, some, length-append first.text bytes);
    passed = passed_then first.text bytes held held_then old mid new a b c first.passed second;
  }

  -- the same after a flush
  pub stands_kept : (old new : S) (held : List ℕ) (turns : ℕ) (start left a b c : Option (List ℕ)) → Standing old new held turns start left a b → Keeps b c → Standing old new held turns start left a c
  stands_kept old new held turns start left a b c stands kept = record {
    text = stands.text;
    read = stands.read;
    enough = stands.enough;
    passed = record {
      pieces = stands.passed.pieces;
      begun = stands.passed.begun;
      are = stands.passed.are;
      open_line = stands.passed.open_line;
      holds = stands.passed.holds;
      answered = answered_kept old new _ a b c stands.passed.answered kept;
    };
  }

  lines_so_far : (old new : S) (held : List ℕ) (turns : ℕ) (start left a b : Option (List ℕ)) → (stands : Standing old new held turns start left a b) → whole_lines_of stands.text ≡ map (strip_last 13) stands.passed.pieces
  lines_so_far old new held turns start left a b stands =
      ap whole_lines_of stands.passed.are.are ∙ whole_lines_of-pieces stands.passed.pieces stands.passed.begun stands.passed.are.whole stands.passed.open_line

  pub ran_so_far : (old new : S) (held : List ℕ) (turns : ℕ) (start left next a b : Option (List ℕ)) → Standing old new held turns start left a b → Keeps left next → RanSoFar tell old new start next a b
  ran_so_far old new held turns start left next a b stands kept = record {
    text = stands.text;
    read = consumes_kept start left next stands.text stands.read kept;
    answered = rw (lines_so_far old new held turns start left a b stands) stands.passed.answered;
  }

  pub rests : (old new : S) (held : List ℕ) (turns : ℕ) (start left next a b : Option (List ℕ)) → Standing old new held turns start left a b → Keeps left next → Rests tell old new held start next a b
  unfolding ran_so_far
  rests old new held turns start left next a b stands kept = record {
    run = ran_so_far old new held turns start left next a b stands kept;
    holds = stands.passed.holds
        ∙ ap held_of (sym (ap begun_of stands.passed.are.are ∙ begun_of-pieces stands.passed.pieces stands.passed.begun stands.passed.are.whole stands.passed.open_line));
  }

  -- a read failed, and the run returns that fault
  pub read_failed : {T : Type 0} (reads : ℕ) (r : Result T ServeFault) (failed : ReadFailed) (old new : S) (held : List ℕ) (turns : ℕ) (start left next a b c : Option (List ℕ)) → IsErrAnd r (λ fault. fault ≡ Read failed)
      → Standing old new held turns start left a b → Keeps b c → Keeps left next → RanOn reads tell r old new held start next a c
  read_failed {T} reads r failed old new held turns start left next a b c is stands flushed kept =
      left_by r (Read failed) (λ (r : Result T ServeFault). RanOn reads tell r old new held start next a c) is
      (rests old new held turns start left next a c (stands_kept old new held turns start left a b c stands flushed) kept)

  -- a flush before a read failed
  pub flush_failed : {T : Type 0} (reads : ℕ) (r : Result T ServeFault) (failed : WriteFailed) (old new : S) (held : List ℕ) (turns : ℕ) (start left a b c : Option (List ℕ)) → IsErrAnd r (λ fault. fault ≡ Write failed)
      → Standing old new held turns start left a b → Keeps b c → RanOn reads tell r old new held start left a c
  flush_failed {T} reads r failed old new held turns start left a b c is stands kept =
      left_by r (Write failed) (λ (r : Result T ServeFault). RanOn reads tell r old new held start left a c) is
      (inr (inl (ran_so_far old new held turns start left left a c (stands_kept old new held turns start left a b c stands kept) (keeps_none left))))

  pub gave_up : (reads : ℕ) (turns : Turns) (old new : S) (held : List ℕ) (count : ℕ) (start left a b c : Option (List ℕ)) → Standing old new held count start left a b → Keeps b c → turns.made ≡ count → count ≤ reads → reads ≤ count
      → (rests : Rests tell old new held start left a c) × (reads ≤ length rests.run.text) × (turns.made ≡ reads)
  unfolding ran_so_far rests stands_kept
  gave_up reads turns old new held count start left a b c stands kept made within all_turns = (
    rests old new held count start left left a c (stands_kept old new held count start left a b c stands kept) (keeps_none left),
    omega (arith, stands.enough, all_turns),
    omega (arith, made, within, all_turns),
  )

  -- ---- a run's last line

  -- all lines were answered, or the last of them stopped the run
  abbrev pub Ends : Result (Unit {0}) Stop → S → S → Option (List ℕ) → Option (List ℕ) → Option (List ℕ) → Option (List ℕ) → Type 0
  Ends (Ok u) old new input left before after = RanToEnd tell old new input left before after
  Ends (Err stop) old new input left before after = RanToStop tell stop old new input left before after

  whole_lines : (text begun : List ℕ) (pieces : List (List ℕ)) → ArePieces text pieces begun → lines_of text ≡ map (strip_last 13) pieces ++ lines_of begun
  whole_lines text begun pieces are = ap lines_of are.are ∙ lines_of-pieces pieces begun are.whole

  more_lines : (lines more : List (List ℕ)) → 0 < length more → length lines < length (lines ++ more)
  more_lines lines more some = omega (arith, some, length-append lines more)

  -- the input is at its end
  pub ends_at_end : (end : Result (Unit {0}) Stop) (old mid new : S) (held : List ℕ) (turns : ℕ) (start left next a b c : Option (List ℕ)) → (stands : Standing old mid held turns start left a b) → Consumes left next [] → IsAtEnd next
      → TookLast tell end (lines_of stands.passed.begun) mid new b c → Ends end old new start next a c
  ends_at_end (Ok u) old mid new held turns start left next a b c stands taken at_end last = record {
    text = stands.text;
    read = subst (λ (t : List ℕ). Consumes start next t) (append-nil stands.text) (consumes_then start left next stands.text [] stands.read taken);
    at_end = at_end;
    answered = rw (whole_lines stands.text stands.passed.begun stands.passed.pieces stands.passed.are) (answered_then old mid new _ _ a b c stands.passed.answered last);
  }
  ends_at_end (Err stop) old mid new held turns start left next a b c stands taken at_end last = record {
    lines = map (strip_last 13) stands.passed.pieces ++ lines_of stands.passed.begun;
    others = [];
    are_first = along start (all_read start left next stands.text stands.read taken at_end);
    stopped = stopped_then stop old mid new _ _ a b c stands.passed.answered last;
    earlier = stands.text;
    latest = [];
    read = consumes_then start left next stands.text [] stands.read taken;
    at_once = rw (lines_so_far old mid held turns start left a b stands) (more_lines _ _ (some_stopped stop mid new _ b c last));
  }
    where
      along : (s : Option (List ℕ)) → IfSome s (λ t. t ≡ stands.text) → IfSome s (λ t. lines_of t ≡ (map (strip_last 13) stands.passed.pieces ++ lines_of stands.passed.begun) ++ [])
      along None w = tt
      along (Some t) w = rw (w, append-nil (map (strip_last 13) stands.passed.pieces ++ lines_of stands.passed.begun)) (whole_lines stands.text stands.passed.begun stands.passed.pieces stands.passed.are)

  -- a line that the last read ended stopped the run
  pub ends_at_line : (stop : Stop) (old mid new : S) (held bytes : List ℕ) (turns : ℕ) (start left next a b c : Option (List ℕ)) → (stands : Standing old mid held turns start left a b) → Consumes left next bytes
      → PassedToStop tell stop (stands.passed.begun ++ bytes) mid new b c → RanToStop tell stop old new start next a c
  ends_at_line stop old mid new held bytes turns start left next a b c stands taken stopped = record {
    lines = lines;
    others = lines_of (stopped.behind ++ unread next);
    are_first = along start next read;
    stopped = rw (map-append (strip_last 13) stands.passed.pieces stopped.pieces) (stopped_then stop old mid new _ _ a b c stands.passed.answered stopped.stopped);
    earlier = stands.text;
    latest = bytes;
    read = read;
    at_once = rw (lines_so_far old mid held turns start left a b stands, map-append (strip_last 13) stands.passed.pieces stopped.pieces) (more_lines _ _ (some_stopped stop mid new _ b c stopped.stopped));
  }
    where
      lines : List (List ℕ)
      lines = map (strip_last 13) (stands.passed.pieces ++ stopped.pieces)

      unread : Option (List ℕ) → List ℕ
      unread None = []
      unread (Some rest) = rest

      read : Consumes start next (stands.text ++ bytes)
      read = consumes_then start left next stands.text bytes stands.read taken

      are : (rest : List ℕ) → ArePieces (stands.text ++ (bytes ++ rest)) (stands.passed.pieces ++ stopped.pieces) (stopped.behind ++ rest)
      are rest = pieces_behind (stands.text ++ bytes) stopped.behind rest stands.text bytes _ (pieces_then stands.text bytes stands.passed.begun stopped.behind stands.passed.pieces stopped.pieces stands.passed.are stopped.are) refl

      along : (s n : Option (List ℕ)) → Consumes s n (stands.text ++ bytes) → IfSome s (λ text. lines_of text ≡ lines ++ lines_of (stopped.behind ++ unread n))
      along None n read = tt
      along (Some text) None read = absurd read
      along (Some text) (Some rest) read =
          ap lines_of (read ∙ append_assoc stands.text bytes rest) ∙ whole_lines (stands.text ++ (bytes ++ rest)) (stopped.behind ++ rest) (stands.passed.pieces ++ stopped.pieces) (are rest)

  end_kept : (old new : S) (input left a b c : Option (List ℕ)) → RanToEnd tell old new input left a b → Keeps b c → RanToEnd tell old new input left a c
  end_kept old new input left a b c run kept = record { text = run.text; read = run.read; at_end = run.at_end; answered = answered_kept old new _ a b c run.answered kept }

  stop_kept : (stop : Stop) (old new : S) (input left a b c : Option (List ℕ)) → RanToStop tell stop old new input left a b → Keeps b c → RanToStop tell stop old new input left a c
  stop_kept stop old new input left a b c run kept = record {
    lines = run.lines;
    others = run.others;
    are_first = run.are_first;
    stopped = stopped_kept stop old new run.lines a b c run.stopped kept;
    earlier = run.earlier;
    latest = run.latest;
    read = run.read;
    at_once = run.at_once;
  }

  well_kept : (old new : S) (input left a b c : Option (List ℕ)) → RanWell tell old new input left a b → Keeps b c → RanWell tell old new input left a c
  well_kept old new input left a b c (inl run) kept = inl (end_kept old new input left a b c run kept)
  well_kept old new input left a b c (inr run) kept = inr (stop_kept Ended old new input left a b c run kept)

  by_flush : {T : Type 0} (reads : ℕ) (r : Result T ServeFault) (old new : S) (held : List ℕ) (input left a b c : Option (List ℕ)) → RanWell tell old new input left a b → IsFlushed r b c → RanOn reads tell r old new held input left a c
  by_flush reads (Ok done) old new held input left a b c run kept = well_kept old new input left a b c run kept
  by_flush reads (Err (Write failed)) old new held input left a b c run kept = inr (inr (well_kept old new input left a b c run kept))
  by_flush reads (Err (Read failed)) old new held input left a b c run kept = absurd kept
  by_flush reads (Err (TooManyTurns turns)) old new held input left a b c run kept = absurd kept
  by_flush reads (Err (Memory refused)) old new held input left a b c run kept = absurd kept

  -- the run ends after its last line
  pub concluded : {T : Type 0} (reads : ℕ) (end : Result (Unit {0}) Stop) (r : Result T ServeFault) (old new : S) (held : List ℕ) (input left a b c : Option (List ℕ)) → Ends end old new input left a b → Concludes end r b c → RanOn reads tell r old new held input left a c
  concluded reads (Ok u) r old new held input left a b c run done = by_flush reads r old new held input left a b c (inl run) done
  concluded reads (Err Ended) r old new held input left a b c run done = by_flush reads r old new held input left a b c (inr run) done
  concluded {T} reads (Err (Failed failed)) r old new held input left a b c run done =
      subst (λ (r : Result T ServeFault). RanOn reads tell r old new held input left a c) (sym done.0) (inl (stop_kept (Failed failed) old new input left a b c run done.1))

  -- ---- a run that may be gone on with is a run

  pub ran_within : {T : Type 0} (reads : ℕ) (r : Result T ServeFault) (old new : S) (held : List ℕ) (input left a b : Option (List ℕ)) → RanOn reads tell r old new held input left a b → RanWithin reads tell r old new input left a b
  ran_within reads (Ok done) old new held input left a b run = run
  ran_within reads (Err (Read failed)) old new held input left a b rests = rests.run
  ran_within reads (Err (Write failed)) old new held input left a b run = run
  ran_within reads (Err (TooManyTurns turns)) old new held input left a b run = (run.0.run, run.1, run.2)
  ran_within reads (Err (Memory refused)) old new held input left a b run = absurd run

  -- one that began with no line is a run from the first line on
  pub ran_first : {T : Type 0} (reads : ℕ) (r : Result T ServeFault) (old new : S) (held : List ℕ) (input left a b : Option (List ℕ)) → RanOn reads tell r old new held (with_begun [] input) left a b → RanWithin reads tell r old new input left a b
  ran_first reads r old new held input left a b run =
      subst (λ (i : Option (List ℕ)). RanWithin reads tell r old new i left a b) (nothing_begun input) (ran_within reads r old new held (with_begun [] input) left a b run)

  -- which is never out of memory
  pub never_memory : {T : Type 0} (reads : ℕ) (r : Result T ServeFault) (P : Type 0) (old new : S) (held : List ℕ) (input left a b : Option (List ℕ)) → RanOn reads tell r old new held input left a b → IfErr r (λ fault. OnMemory fault P)
  never_memory reads (Ok done) P old new held input left a b run = tt
  never_memory reads (Err (Read failed)) P old new held input left a b run = tt
  never_memory reads (Err (Write failed)) P old new held input left a b run = tt
  never_memory reads (Err (TooManyTurns turns)) P old new held input left a b run = tt
  never_memory reads (Err (Memory refused)) P old new held input left a b run = absurd run

  -- ---- the answers of a stream

  stream_ends : (old new : S) (lines : List (List ℕ)) (others : List (List ℕ)) (a b : Option (List ℕ)) → (all : Stopped tell Ended old lines new a b) → StreamEnds tell old (lines ++ others) new (all.said ++ all.front)
  stream_ends old new lines others a b all = record {
    firsts = all.firsts;
    last = all.last;
    others = others;
    are = ap (λ (xs : List (List ℕ)). xs ++ others) all.are ∙ append_assoc all.firsts (all.last ∷ []) others;
    mid = all.mid;
    said = all.said;
    told = all.told;
    more = all.more;
    told_last = rw (← all.stops.0) all.told_last;
    is = ap (λ (xs : List ℕ). all.said ++ xs) (sym (append-nil all.front) ∙ ap (λ (xs : List ℕ). all.front ++ xs) (sym all.stops.1) ∙ sym all.parts);
  }

  -- a run that ended well has written the answers to all its known input
  pub stream_told : {T : Type 0} (r : Result T ServeFault) (old new : S) (input left a b : Option (List ℕ)) → Ran tell r old new input left a b
      → OnOk r (IfSome input (λ text. (said : List ℕ) × Appends a b said × StreamTells tell old (lines_of text) new said))
  stream_told (Err e) old new input left a b run = tt
  stream_told (Ok done) old new None left a b run = tt
  stream_told (Ok done) old new (Some text) None a b (inl run) = absurd run.read
  stream_told (Ok done) old new (Some text) (Some rest) a b (inl run) =
      let whole : text ≡ run.text = run.read ∙ ap (λ (xs : List ℕ). run.text ++ xs) run.at_end ∙ append-nil run.text in
      (run.answered.said, run.answered.written, inl (rw whole run.answered.told))
  stream_told (Ok done) old new (Some text) left a b (inr run) =
      (run.stopped.said ++ run.stopped.front, run.stopped.written, inr (rw (run.are_first) (stream_ends old new run.lines run.others a b run.stopped)))

-- ---- lines none of which ends the stream

-- answers of lines by one relation, if they are answers by another one too
told_so : {S : Type 0} (tell shown : List ℕ → S → S → List ℕ → Type 0) → ((line : List ℕ) (old new : S) (said : List ℕ) → tell line old new said → shown line old new said)
    → (old new : S) (lines : List (List ℕ)) (said : List ℕ) → LinesTell tell old lines new said → LinesTell shown old lines new said
told_so tell shown each old new [] said told = told
told_so tell shown each old new (line ∷ lines) said told = (told.0, told.1, told.2, each line old told.0 told.1 told.3, told.4, told_so tell shown each told.0 new lines told.2 told.5)

abbrev goes_on : Next → Type 0
goes_on Line = Unit {0}
goes_on End = ⊥

-- a run that ended well has written the answers to all lines of its known input
pub lines_told : {S T : Type 0} (tell : List ℕ → S → S → List ℕ → Type 0) (r : Result T ServeFault) (old new : S) (input left a b : Option (List ℕ)) → Ran (NeverEnds tell) r old new input left a b
    → OnOk r (IfSome input (λ text. (said : List ℕ) × Appends a b said × LinesTell tell old (lines_of text) new said))
lines_told tell (Err e) old new input left a b run = tt
lines_told tell (Ok done) old new None left a b run = tt
lines_told {T = T} tell (Ok done) old new (Some text) left a b run = go (stream_told (NeverEnds tell) ended old new (Some text) left a b run)
  where
    ended : Result T ServeFault
    ended = Ok done

    go : ((said : List ℕ) × Appends a b said × StreamTells (NeverEnds tell) old (lines_of text) new said) → (said : List ℕ) × Appends a b said × LinesTell tell old (lines_of text) new said
    go (said, written, inl told) = (said, written, told_so (GoesOn (NeverEnds tell)) tell (λ line x y s h. h.0) old new (lines_of text) said told)
    go (said, written, inr ends) = absurd (subst goes_on (sym ends.told_last.1) tt)

-- ---- states that are seen as other states

-- `shown` answers lines, and so does `tell` on the states as seen
module _ {S T : Type 0} (see : S → T) (shown : List ℕ → S → S → List ℕ → Next → Type 0) (tell : List ℕ → T → T → List ℕ → Next → Type 0)
    (each : (line : List ℕ) (old new : S) (said : List ℕ) (next : Next) → shown line old new said next → tell line (see old) (see new) said next) where
  told_as : (old new : S) (lines : List (List ℕ)) (said : List ℕ) → LinesTell (GoesOn shown) old lines new said → LinesTell (GoesOn tell) (see old) lines (see new) said
  told_as old new [] said told = (ap see told.0, told.1)
  told_as old new (line ∷ lines) said told = (see told.0, told.1, told.2, each line old told.0 told.1 Line told.3, told.4, told_as told.0 new lines told.2 told.5)

  answered_as : (old new : S) (lines : List (List ℕ)) (a b : Option (List ℕ)) → Answered shown old lines new a b → Answered tell (see old) lines (see new) a b
  answered_as old new lines a b all = record { said = all.said; told = told_as old new lines all.said all.told; written = all.written }

  stopped_as : (stop : Stop) (old new : S) (lines : List (List ℕ)) (a b : Option (List ℕ)) → Stopped shown stop old lines new a b → Stopped tell stop (see old) lines (see new) a b
  stopped_as stop old new lines a b all = record {
    firsts = all.firsts;
    last = all.last;
    are = all.are;
    mid = see all.mid;
    said = all.said;
    told = told_as old all.mid all.firsts all.said all.told;
    more = all.more;
    next = all.next;
    told_last = each all.last all.mid new all.more all.next all.told_last;
    front = all.front;
    left = all.left;
    parts = all.parts;
    stops = all.stops;
    written = all.written;
  }

  so_far_as : (old new : S) (input left a b : Option (List ℕ)) → RanSoFar shown old new input left a b → RanSoFar tell (see old) (see new) input left a b
  so_far_as old new input left a b run = record { text = run.text; read = run.read; answered = answered_as old new _ a b run.answered }

  stop_as : (stop : Stop) (old new : S) (input left a b : Option (List ℕ)) → RanToStop shown stop old new input left a b → RanToStop tell stop (see old) (see new) input left a b
  stop_as stop old new input left a b run = record {
    lines = run.lines;
    others = run.others;
    are_first = run.are_first;
    stopped = stopped_as stop old new run.lines a b run.stopped;
    earlier = run.earlier;
    latest = run.latest;
    read = run.read;
    at_once = run.at_once;
  }

  well_as : (old new : S) (input left a b : Option (List ℕ)) → RanWell shown old new input left a b → RanWell tell (see old) (see new) input left a b
  well_as old new input left a b (inl run) = inl (record { text = run.text; read = run.read; at_end = run.at_end; answered = answered_as old new _ a b run.answered })
  well_as old new input left a b (inr run) = inr (stop_as Ended old new input left a b run)

  write_as : (failed : WriteFailed) (old new : S) (input left a b : Option (List ℕ)) → RanToStop shown (Failed failed) old new input left a b ⊎ (RanSoFar shown old new input left a b ⊎ RanWell shown old new input left a b)
      → RanToStop tell (Failed failed) (see old) (see new) input left a b ⊎ (RanSoFar tell (see old) (see new) input left a b ⊎ RanWell tell (see old) (see new) input left a b)
  write_as failed old new input left a b (inl run) = inl (stop_as (Failed failed) old new input left a b run)
  write_as failed old new input left a b (inr (inl run)) = inr (inl (so_far_as old new input left a b run))
  write_as failed old new input left a b (inr (inr run)) = inr (inr (well_as old new input left a b run))

  pub ran_as : {O : Type 0} (r : Result O ServeFault) (old new : S) (input left a b : Option (List ℕ)) → Ran shown r old new input left a b → Ran tell r (see old) (see new) input left a b
  unfolding so_far_as
  ran_as (Ok done) old new input left a b run = well_as old new input left a b run
  ran_as (Err (Read failed)) old new input left a b run = so_far_as old new input left a b run
  ran_as (Err (TooManyTurns turns)) old new input left a b run = (so_far_as old new input left a b run.0, run.1, run.2)
  ran_as (Err (Write failed)) old new input left a b run = write_as failed old new input left a b run
  ran_as (Err (Memory refused)) old new input left a b run = (ap see run.0, run.1, run.2)

  rests_as : (old new : S) (held : List ℕ) (input left a b : Option (List ℕ)) → Rests shown old new held input left a b → Rests tell (see old) (see new) held input left a b
  unfolding so_far_as
  rests_as old new held input left a b rests = record { run = so_far_as old new input left a b rests.run; holds = rests.holds }

  pub ran_on_as : {O : Type 0} (reads : ℕ) (r : Result O ServeFault) (old new : S) (held : List ℕ) (input left a b : Option (List ℕ)) → RanOn reads shown r old new held input left a b → RanOn reads tell r (see old) (see new) held input left a b
  unfolding so_far_as rests_as
  ran_on_as reads (Ok done) old new held input left a b run = well_as old new input left a b run
  ran_on_as reads (Err (Read failed)) old new held input left a b run = rests_as old new held input left a b run
  ran_on_as reads (Err (TooManyTurns turns)) old new held input left a b run = (rests_as old new held input left a b run.0, run.1, run.2)
  ran_on_as reads (Err (Write failed)) old new held input left a b run = write_as failed old new input left a b run
  ran_on_as reads (Err (Memory refused)) old new held input left a b run = absurd run

-- the same, if lines are answered according to the states as seen
pub ran_along : {S T O : Type 0} (see : S → T) (tell : List ℕ → T → T → List ℕ → Next → Type 0) (r : Result O ServeFault) (old new : S) (input left a b : Option (List ℕ))
    → Ran (λ line x y said next. tell line (see x) (see y) said next) r old new input left a b → Ran tell r (see old) (see new) input left a b
ran_along see tell r old new input left a b run =
    ran_as see (λ line x y said next. tell line (see x) (see y) said next) tell (λ line x y said next h. h) r old new input left a b run

pub ran_on_along : {S T O : Type 0} (see : S → T) (tell : List ℕ → T → T → List ℕ → Next → Type 0) (reads : ℕ) (r : Result O ServeFault) (old new : S) (held : List ℕ) (input left a b : Option (List ℕ))
    → RanOn reads (λ line x y said next. tell line (see x) (see y) said next) r old new held input left a b → RanOn reads tell r (see old) (see new) held input left a b
ran_on_along see tell reads r old new held input left a b run =
    ran_on_as see (λ line x y said next. tell line (see x) (see y) said next) tell (λ line x y said next h. h) reads r old new held input left a b run

-- ---- what every line preserves

-- what every line preserves, a run preserves, however it ends
module _ {S : Type 0} (tell : List ℕ → S → S → List ℕ → Next → Type 0) (Kept : S → S → Type 0) (same : (s : S) → Kept s s)
    (chain : (a b c : S) → Kept a b → Kept b c → Kept a c) (each : (text : List ℕ) (old new : S) (said : List ℕ) (next : Next) → tell text old new said next → Kept old new) where
  lines_keep : (lines : List (List ℕ)) (old new : S) (said : List ℕ) → LinesTell (GoesOn tell) old lines new said → Kept old new
  lines_keep [] old new said told = subst (λ (s : S). Kept old s) (sym told.0) (same old)
  lines_keep (text ∷ lines) old new said told = chain old told.0 new (each text old told.0 told.1 Line told.3) (lines_keep lines told.0 new told.2 told.5)

  so_far_keeps : (old new : S) (input left a b : Option (List ℕ)) → RanSoFar tell old new input left a b → Kept old new
  so_far_keeps old new input left a b run = lines_keep _ old new run.answered.said run.answered.told

  stop_keeps : (stop : Stop) (old new : S) (input left a b : Option (List ℕ)) → RanToStop tell stop old new input left a b → Kept old new
  stop_keeps stop old new input left a b run =
      chain old run.stopped.mid new (lines_keep run.stopped.firsts old run.stopped.mid run.stopped.said run.stopped.told)
      (each run.stopped.last run.stopped.mid new run.stopped.more run.stopped.next run.stopped.told_last)

  well_keeps : (old new : S) (input left a b : Option (List ℕ)) → RanWell tell old new input left a b → Kept old new
  well_keeps old new input left a b (inl run) = lines_keep _ old new run.answered.said run.answered.told
  well_keeps old new input left a b (inr run) = stop_keeps Ended old new input left a b run

  write_keeps : (failed : WriteFailed) (old new : S) (input left a b : Option (List ℕ)) → RanToStop tell (Failed failed) old new input left a b ⊎ (RanSoFar tell old new input left a b ⊎ RanWell tell old new input left a b) → Kept old new
  write_keeps failed old new input left a b (inl run) = stop_keeps (Failed failed) old new input left a b run
  write_keeps failed old new input left a b (inr (inl run)) = so_far_keeps old new input left a b run
  write_keeps failed old new input left a b (inr (inr run)) = well_keeps old new input left a b run

  pub run_keeps : {T : Type 0} (r : Result T ServeFault) (old new : S) (input left a b : Option (List ℕ)) → Ran tell r old new input left a b → Kept old new
  run_keeps (Ok done) old new input left a b run = well_keeps old new input left a b run
  run_keeps (Err (Read failed)) old new input left a b run = so_far_keeps old new input left a b run
  run_keeps (Err (TooManyTurns turns)) old new input left a b run = so_far_keeps old new input left a b run.0
  run_keeps (Err (Write failed)) old new input left a b run = write_keeps failed old new input left a b run
  run_keeps (Err (Memory refused)) old new input left a b run = subst (λ (s : S). Kept old s) (sym run.0) (same old)
