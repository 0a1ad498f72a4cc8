-- Passing a reply on.
use Rattle.std.proofs.Common.{◌≡◌, ◌≢◌, ◌↔◌, ℕ, ◌+◌, ◌<◌, IsTrue, List, [], ◌∷◌, ◌++◌, length, get_or, drop, codes, Option, Ok, append-nil, append_assoc, length-append, inl, inr, refl, sym, ap, subst, ◌∙◌, arith}
use Rattle.std.proofs.lemmas.Grind.{flat_map-append}
use Rattle.std.proofs.lemmas.List.{nil_from_length}
use Rattle.std.proofs.lemmas.List.Elements.{All-cons, All-nil, All-push, All-tail}
use Rattle.std.specs.Io.KnownBytes.{Appends, Keeps}
use Rattle.std.specs.List.{All, flat_map}
use Rattle.byte_streams.proofs.WrittenLemmas.{appends_then}
use Rattle.line_streams.specs.Streams.{IsLine, fed}
use Rattle.client.proofs.ByteLemmas.{appends_kept, appends_none, moves_then}
use Rattle.client.specs.Replies.{IsReply, LacksRows, farewell, rows_behind}
use Rattle.client.specs.Steps.{BreaksOff, IsHead, PassesLine, PassesNone}
use Rattle.client.specs.Turns.{Moves}
use Rattle.client.specs.declared.faults.Gone.TheVariants.{Ended, Unread, Unsent}
use Rattle.client.specs.declared.faults.TalkFault.{TalkFault}
use Rattle.client.specs.declared.faults.TalkFault.TheVariants as faults
use Rattle.client.specs.declared.talks.Head.{Head}

-- the first line of a reply was passed on, and some of the others
pub record InReply (head : Head) (count : ℕ) (told told_then : List ℕ) (peer peer_then written written_then : Option (List ℕ)) : Type 0 where
  pub line : List ℕ
  pub rows : List (List ℕ)
  pub is_line : IsLine line
  pub is_head : IsHead head line
  pub are_lines : All IsLine rows
  pub counted : length rows ≡ count
  pub moves : Moves told told_then peer peer_then (fed line ++ flat_map fed rows)
  pub writes : Appends written written_then (fed line ++ flat_map fed rows)

pub first_passed : (head : Head) (told told_then : List ℕ) (peer peer_then written written_then : Option (List ℕ)) → PassesLine (Ok head) told told_then peer peer_then written written_then
    → InReply head 0 told told_then peer peer_then written written_then
first_passed head told told_then peer peer_then written written_then passes = record {
  line = passes.0;
  rows = [];
  is_line = passes.1;
  is_head = passes.2;
  are_lines = All-nil IsLine;
  counted = refl;
  moves = subst (Moves told told_then peer peer_then) (sym (append-nil (fed passes.0))) passes.3;
  writes = subst (Appends written written_then) (sym (append-nil (fed passes.0))) passes.4;
}

more_rows : (line row : List ℕ) (rows : List (List ℕ)) → (fed line ++ flat_map fed rows) ++ fed row ≡ fed line ++ flat_map fed (rows ++ row ∷ [])
more_rows line row rows =
    append_assoc (fed line) (flat_map fed rows) (fed row)
    ∙ ap (λ (t : List ℕ). fed line ++ t) (ap (λ (t : List ℕ). flat_map fed rows ++ t) (sym (append-nil (fed row))) ∙ sym (flat_map-append fed rows (row ∷ [])))

-- one more line was passed on
pub row_passed : (head found : Head) (count : ℕ) (one two three : List ℕ) (a b c x y z : Option (List ℕ)) → InReply head count one two a b x y → PassesLine (Ok found) two three b c y z
    → InReply head (count + 1) one three a c x z
row_passed head found count one two three a b c x y z so_far passes = record {
  line = so_far.line;
  rows = so_far.rows ++ passes.0 ∷ [];
  is_line = so_far.is_line;
  is_head = so_far.is_head;
  are_lines = All-push IsLine so_far.rows passes.0 so_far.are_lines passes.1;
  counted = omega (arith, length-append so_far.rows (passes.0 ∷ []), so_far.counted);
  moves = subst (Moves one three a c) (more_rows so_far.line passes.0 so_far.rows) (moves_then one two three a b c _ _ so_far.moves passes.3);
  writes = subst (Appends x z) (more_rows so_far.line passes.0 so_far.rows) (appends_then x y z _ _ so_far.writes passes.4);
}

kept : (before after : Option (List ℕ)) → after ≡ before → Appends before after []
kept before after same = subst (λ (t : Option (List ℕ)). Appends before t []) (sym same) (appends_none before)

-- nothing of a reply was passed on
pub none_passed : (fault : TalkFault) (told told_then : List ℕ) (peer peer_then written written_then : Option (List ℕ)) → PassesNone fault told told_then peer peer_then written written_then
    → BreaksOff fault told told_then peer peer_then written written_then
none_passed (faults.Output failed) told told_then peer peer_then written written_then none = ([], none.1, none.2, none.0, none.3, none.4)
none_passed (faults.Gone Ended) told told_then peer peer_then written written_then none = (([], none.0.0.0, kept written written_then none.0.1, inl none.0.0.1), none.1)
none_passed (faults.Gone (Unread failed)) told told_then peer peer_then written written_then none = ([], none.0.0, kept written written_then none.1, inl none.0.1)
none_passed (faults.Memory refused) told told_then peer peer_then written written_then none = ([], none.0.0, kept written written_then none.1, inl none.0.1)
none_passed (faults.Gone (Unsent failed)) told told_then peer peer_then written written_then none = absurd none
none_passed (faults.Input failed) told told_then peer peer_then written written_then none = absurd none
none_passed faults.TooManyLines told told_then peer peer_then written written_then none = absurd none

-- a reply lacks a line
lacks : (head : Head) (count : ℕ) (one two three : List ℕ) (a b c x y z : Option (List ℕ)) → count < head.rows → (so_far : InReply head count one two a b x y) → Moves two three b c [] → IsLine three
    → Moves one three a c (fed so_far.line ++ flat_map fed so_far.rows) × LacksRows ((fed so_far.line ++ flat_map fed so_far.rows) ++ three)
lacks head count one two three a b c x y z more so_far moves open_line = (
  subst (Moves one three a c) (append-nil (fed so_far.line ++ flat_map fed so_far.rows)) (moves_then one two three a b c _ [] so_far.moves moves),
  record {
    head = so_far.line;
    rows = so_far.rows;
    last = three;
    is_line = so_far.is_line;
    are_lines = so_far.are_lines;
    is_open = open_line;
    lacking = omega (arith, so_far.counted, more, so_far.is_head.0);
    is = append_assoc (fed so_far.line) (flat_map fed so_far.rows) three;
  },
)

-- a reply broke off after its first line
pub rows_broken : (fault : TalkFault) (head : Head) (count : ℕ) (one two three : List ℕ) (a b c x y z : Option (List ℕ)) → count < head.rows → InReply head count one two a b x y → PassesNone fault two three b c y z
    → BreaksOff fault one three a c x z
rows_broken (faults.Output failed) head count one two three a b c x y z more so_far none =
    let passed : List ℕ = fed so_far.line ++ flat_map fed so_far.rows in (
      passed,
      passed ++ none.1,
      none.2,
      subst (Moves one three a c) (append-nil passed) (moves_then one two three a b c passed [] so_far.moves none.0),
      ap (λ (t : List ℕ). passed ++ t) none.3 ∙ sym (append_assoc passed none.1 none.2),
      appends_then x y z passed none.1 so_far.writes none.4,
    )
rows_broken (faults.Gone Ended) head count one two three a b c x y z more so_far none =
    let lacking = lacks head count one two three a b c x y z more so_far none.0.0.0 none.0.0.1 in
    ((fed so_far.line ++ flat_map fed so_far.rows, lacking.0, subst (λ (t : Option (List ℕ)). Appends x t (fed so_far.line ++ flat_map fed so_far.rows)) (sym none.0.1) so_far.writes, inr lacking.1), none.1)
rows_broken (faults.Gone (Unread failed)) head count one two three a b c x y z more so_far none =
    let lacking = lacks head count one two three a b c x y z more so_far none.0.0 none.0.1 in
    (fed so_far.line ++ flat_map fed so_far.rows, lacking.0, subst (λ (t : Option (List ℕ)). Appends x t (fed so_far.line ++ flat_map fed so_far.rows)) (sym none.1) so_far.writes, inr lacking.1)
rows_broken (faults.Memory refused) head count one two three a b c x y z more so_far none =
    let lacking = lacks head count one two three a b c x y z more so_far none.0.0 none.0.1 in
    (fed so_far.line ++ flat_map fed so_far.rows, lacking.0, subst (λ (t : Option (List ℕ)). Appends x t (fed so_far.line ++ flat_map fed so_far.rows)) (sym none.1) so_far.writes, inr lacking.1)
rows_broken (faults.Gone (Unsent failed)) head count one two three a b c x y z more so_far none = absurd none
rows_broken (faults.Input failed) head count one two three a b c x y z more so_far none = absurd none
rows_broken faults.TooManyLines head count one two three a b c x y z more so_far none = absurd none

-- the first lines of equal bytes are equal
first_line : (a b x y : List ℕ) → IsLine a → IsLine b → fed a ++ x ≡ fed b ++ y → a ≡ b
first_line [] [] x y whole other same = refl
first_line [] (c ∷ cs) x y whole other same = absurd (other 0 c (omega arith) (sym (ap (λ (t : List ℕ). get_or t 0 0) same)))
first_line (c ∷ cs) [] x y whole other same = absurd (whole 0 c (omega arith) (ap (λ (t : List ℕ). get_or t 0 0) same))
first_line (c ∷ cs) (d ∷ ds) x y whole other same =
    ap (λ (h : ℕ). h ∷ cs) (ap (λ (t : List ℕ). get_or t 0 0) same)
    ∙ ap (λ (t : List ℕ). d ∷ t) (first_line cs ds x y (All-tail (λ b. b ≢ 10) c cs whole) (All-tail (λ b. b ≢ 10) d ds other) (ap (drop 1) same))

bye_is_line : IsLine (codes "bye")
bye_is_line = All-cons (λ b. b ≢ 10) 98 (121 ∷ 101 ∷ []) (omega arith) (All-cons (λ b. b ≢ 10) 121 (101 ∷ []) (omega arith) (All-cons (λ b. b ≢ 10) 101 [] (omega arith) (All-nil (λ b. b ≢ 10))))

-- a reply ends the session exactly if its first line is `bye`
says_farewell : (line : List ℕ) (rows : List (List ℕ)) → IsLine line → length rows ≡ rows_behind line → (line ≡ codes "bye") ↔ (fed line ++ flat_map fed rows ≡ farewell)
says_farewell line rows whole counted = (to, from)
  where
    none : line ≡ codes "bye" → rows ≡ []
    none is = nil_from_length rows (counted ∙ ap rows_behind is)

    to : line ≡ codes "bye" → fed line ++ flat_map fed rows ≡ farewell
    to is = ap (λ (t : List ℕ). fed t ++ flat_map fed rows) is ∙ ap (λ (t : List (List ℕ)). fed (codes "bye") ++ flat_map fed t) (none is)

    from : fed line ++ flat_map fed rows ≡ farewell → line ≡ codes "bye"
    from is = first_line line (codes "bye") (flat_map fed rows) [] whole bye_is_line is

-- a whole reply was passed on
pub reply_passed : (head : Head) (count : ℕ) (one two : List ℕ) (a b x y z : Option (List ℕ)) → InReply head count one two a b x y → count ≡ head.rows → Keeps y z
    → (reply : List ℕ) × IsReply reply × (IsTrue head.farewell ↔ (reply ≡ farewell)) × Moves one two a b reply × Appends x z reply
reply_passed head count one two a b x y z so_far all keeps =
    let counted : length so_far.rows ≡ rows_behind so_far.line = so_far.counted ∙ all ∙ so_far.is_head.0 in
    let says = says_farewell so_far.line so_far.rows so_far.is_line counted in (
      fed so_far.line ++ flat_map fed so_far.rows,
      record { head = so_far.line; rows = so_far.rows; is_line = so_far.is_line; are_lines = so_far.are_lines; counted = counted; is = refl },
      (λ e. says.0 (so_far.is_head.1.0 e), λ e. so_far.is_head.1.1 (says.1 e)),
      so_far.moves,
      appends_kept x y z _ so_far.writes keeps,
    )
