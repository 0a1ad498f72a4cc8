-- Turns one after another, and what is written at the end.
use Rattle.std.proofs.Common.{◌≡◌, ◌≢◌, ◌⊎◌, ℕ, ◌+◌, ◌-◌, ◌^◌, ◌≤◌, List, [], ◌∷◌, ◌++◌, length, Option, append-nil, append_assoc, inl, inr, length-append, refl, sym, ap, subst, ◌∙◌, arith}
use Rattle.std.proofs.lemmas.Grind.{flat_map-append}
use Rattle.std.proofs.lemmas.List.Elements.{All-append, All-nil}
use Rattle.std.specs.Io.KnownBytes.{Appends}
use Rattle.std.specs.List.{concat, flat_map}
use Rattle.byte_streams.proofs.WrittenLemmas.{appends_then}
use Rattle.byte_streams.specs.declared.failures.WriteFailed.{WriteFailed}
use Rattle.line_streams.specs.Streams.{IsLine, fed}
use Rattle.client.proofs.ByteLemmas.{appends_none, moves_none, moves_then}
use Rattle.client.specs.Ends.{EndsBy, EndsWell, IsAnswered, IsCutOff, IsLeft, IsWritten, SentAll, SentInPart, SentSome, Talk, Waits, WroteAll}
use Rattle.client.specs.Replies.{GoesOn, IsReply, IsUnfinished, farewell}
use Rattle.client.specs.Turns.{Asks, Moves, Sight, Spoken, sight}
use Rattle.client.specs.declared.faults.Gone.TheVariants.{Ended, Unread, Unsent}
use Rattle.client.specs.declared.faults.TalkFault.{TalkFault}
use Rattle.client.specs.declared.faults.TalkFault.TheVariants as faults
use Rattle.client.specs.declared.talks.End.{End}
use Rattle.client.specs.declared.talks.End.TheVariants.{AtEnd, Farewell}

concat-append : (xs ys : List (List ℕ)) → concat (xs ++ ys) ≡ concat xs ++ concat ys
concat-append [] ys = refl
concat-append (x ∷ xs) ys = ap (λ (t : List ℕ). x ++ t) (concat-append xs ys) ∙ sym (append_assoc x (concat xs) (concat ys))

-- ---- turns one after another

nothing_spoken : (s : Sight) → Spoken s s
nothing_spoken s = record {
  lines = [];
  replies = [];
  asks = moves_none s.asked s.input;
  hears = moves_none s.told s.peer;
  sends = appends_none s.sent;
  writes = appends_none s.written;
  are_lines = All-nil IsLine;
  are_replies = All-nil IsReply;
  answered = refl;
  go_on = All-nil GoesOn;
}

spoken_then : (one two three : Sight) → Spoken one two → Spoken two three → Spoken one three
spoken_then one two three first second = record {
  lines = first.lines ++ second.lines;
  replies = first.replies ++ second.replies;
  asks = subst (Moves one.asked three.asked one.input three.input) (sym (flat_map-append fed first.lines second.lines)) (moves_then one.asked two.asked three.asked one.input two.input three.input _ _ first.asks second.asks);
  hears = subst (Moves one.told three.told one.peer three.peer) (sym (concat-append first.replies second.replies)) (moves_then one.told two.told three.told one.peer two.peer three.peer _ _ first.hears second.hears);
  sends = subst (Appends one.sent three.sent) (sym (flat_map-append fed first.lines second.lines)) (appends_then one.sent two.sent three.sent _ _ first.sends second.sends);
  writes = subst (Appends one.written three.written) (sym (concat-append first.replies second.replies)) (appends_then one.written two.written three.written _ _ first.writes second.writes);
  are_lines = All-append IsLine first.lines second.lines first.are_lines second.are_lines;
  are_replies = All-append IsReply first.replies second.replies first.are_replies second.are_replies;
  answered = omega (arith, length-append first.replies second.replies, length-append first.lines second.lines, first.answered, second.answered);
  go_on = All-append GoesOn first.replies second.replies first.go_on second.go_on;
}

-- the same, with the number of lines
pub first_spoken : (s : Sight) → (spoken : Spoken s s) × (length spoken.lines ≡ 0)
unfolding nothing_spoken
first_spoken s = (nothing_spoken s, refl)

pub next_spoken : (count : ℕ) (one two three : Sight) → ((spoken : Spoken one two) × (length spoken.lines ≡ count)) → ((spoken : Spoken two three) × (length spoken.lines ≡ 1))
    → (spoken : Spoken one three) × (length spoken.lines ≡ count + 1)
unfolding spoken_then
next_spoken count one two three first second =
    (spoken_then one two three first.0 second.0, omega (arith, length-append first.0.lines second.0.lines, first.1, second.1))

module _ (one two three : Sight) (first : Spoken one two) where
  asks_then : (lines : List (List ℕ)) → Asks lines two three → Asks (first.lines ++ lines) one three
  asks_then lines (inl takes) =
      inl (subst (Moves one.asked three.asked one.input three.input) (sym (flat_map-append fed first.lines lines)) (moves_then one.asked two.asked three.asked one.input two.input three.input _ _ first.asks takes))
  asks_then lines (inr takes) = inr (record {
    firsts = first.lines ++ takes.firsts;
    last = takes.last;
    are = ap (λ (t : List (List ℕ)). first.lines ++ t) takes.are ∙ sym (append_assoc first.lines takes.firsts (takes.last ∷ []));
    some = takes.some;
    moves = subst (Moves one.asked [] one.input three.input)
        (sym (append_assoc (flat_map fed first.lines) (flat_map fed takes.firsts) takes.last) ∙ ap (λ (t : List ℕ). t ++ takes.last) (sym (flat_map-append fed first.lines takes.firsts)))
        (moves_then one.asked two.asked [] one.input two.input three.input _ _ first.asks takes.moves);
    at_end = takes.at_end;
    none_held = takes.none_held;
  })

  replies_then : (replies : List (List ℕ)) (behind : List ℕ) → concat first.replies ++ (concat replies ++ behind) ≡ concat (first.replies ++ replies) ++ behind
  replies_then replies behind = sym (append_assoc (concat first.replies) (concat replies) behind) ∙ ap (λ (t : List ℕ). t ++ behind) (sym (concat-append first.replies replies))

  talk_then : Talk two three → Talk one three
  talk_then talk = record {
    lines = first.lines ++ talk.lines;
    replies = first.replies ++ talk.replies;
    behind = talk.behind;
    sent = flat_map fed first.lines ++ talk.sent;
    written = concat first.replies ++ talk.written;
    asks = asks_then talk.lines talk.asks;
    hears = subst (Moves one.told three.told one.peer three.peer) (replies_then talk.replies talk.behind)
        (moves_then one.told two.told three.told one.peer two.peer three.peer _ _ first.hears talk.hears);
    sends = appends_then one.sent two.sent three.sent _ _ first.sends talk.sends;
    writes = appends_then one.written two.written three.written _ _ first.writes talk.writes;
    are_lines = All-append IsLine first.lines talk.lines first.are_lines talk.are_lines;
    are_replies = All-append IsReply first.replies talk.replies first.are_replies talk.are_replies;
  }

  module _ (talk : Talk two three) where
    sent_then : SentAll talk → SentAll (talk_then talk)
    unfolding talk_then
    sent_then all = ap (λ (t : List ℕ). flat_map fed first.lines ++ t) all ∙ sym (flat_map-append fed first.lines talk.lines)

    part_then : SentInPart talk.lines talk.sent → SentInPart (first.lines ++ talk.lines) (flat_map fed first.lines ++ talk.sent)
    part_then part = record {
      firsts = first.lines ++ part.firsts;
      last = part.last;
      front = part.front;
      left = part.left;
      are = ap (λ (t : List (List ℕ)). first.lines ++ t) part.are ∙ sym (append_assoc first.lines part.firsts (part.last ∷ []));
      parts = part.parts;
      is = ap (λ (t : List ℕ). flat_map fed first.lines ++ t) part.is ∙ sym (append_assoc (flat_map fed first.lines) (flat_map fed part.firsts) part.front)
          ∙ ap (λ (t : List ℕ). t ++ part.front) (sym (flat_map-append fed first.lines part.firsts));
    }

    some_then : SentSome talk → SentSome (talk_then talk)
    unfolding talk_then
    some_then (inl all) = inl (sent_then all)
    some_then (inr part) = inr (part_then part)

    wrote_then : WroteAll talk → WroteAll (talk_then talk)
    unfolding talk_then
    wrote_then all = ap (λ (t : List ℕ). concat first.replies ++ t) all ∙ replies_then talk.replies talk.behind

    answered_then : IsAnswered talk → IsAnswered (talk_then talk)
    unfolding talk_then
    answered_then answered = (
      omega (arith, length-append first.replies talk.replies, length-append first.lines talk.lines, first.answered, answered.0),
      All-append GoesOn first.replies talk.replies first.go_on answered.1,
    )

    waits_then : Waits talk → Waits (talk_then talk)
    unfolding talk_then
    waits_then waits = (
      omega (arith, length-append first.replies talk.replies, length-append first.lines talk.lines, first.answered, waits.0),
      All-append GoesOn first.replies talk.replies first.go_on waits.1,
    )

    cut_then : IsCutOff talk → IsCutOff (talk_then talk)
    unfolding talk_then
    cut_then cut = (waits_then cut.0, cut.1)

    counts_then : (length talk.replies ≡ length talk.lines) ⊎ (length talk.lines ≡ length talk.replies + 1)
        → (length (first.replies ++ talk.replies) ≡ length (first.lines ++ talk.lines)) ⊎ (length (first.lines ++ talk.lines) ≡ length (first.replies ++ talk.replies) + 1)
    counts_then (inl same) = inl (omega (arith, length-append first.replies talk.replies, length-append first.lines talk.lines, first.answered, same))
    counts_then (inr more) = inr (omega (arith, length-append first.replies talk.replies, length-append first.lines talk.lines, first.answered, more))

    left_then : IsLeft talk.lines talk.replies → IsLeft (first.lines ++ talk.lines) (first.replies ++ talk.replies)
    left_then left = record {
      firsts = first.replies ++ left.firsts;
      are = ap (λ (t : List (List ℕ)). first.replies ++ t) left.are ∙ sym (append_assoc first.replies left.firsts (farewell ∷ []));
      go_on = All-append GoesOn first.replies left.firsts first.go_on left.go_on;
      answered = omega (arith, length-append first.replies talk.replies, length-append first.lines talk.lines, first.answered, left.answered);
    }

  pub ends_well_then : (end : End) → EndsWell end two three → EndsWell end one three
  unfolding talk_then
  ends_well_then AtEnd (talk, sent, wrote, answered, none, at_end) = (talk_then talk, sent_then talk sent, wrote_then talk wrote, answered_then talk answered, none, at_end)
  ends_well_then Farewell (talk, sent, wrote, left) = (talk_then talk, sent_then talk sent, wrote_then talk wrote, left_then talk left)

  memory_then : (talk : Talk two three) → (IsAnswered talk × IsLine three.asked) ⊎ IsCutOff talk → (IsAnswered (talk_then talk) × IsLine three.asked) ⊎ IsCutOff (talk_then talk)
  unfolding talk_then
  memory_then talk (inl (answered, open_line)) = inl (answered_then talk answered, open_line)
  memory_then talk (inr cut) = inr (cut_then talk cut)

  pub ends_by_then : (fault : TalkFault) → EndsBy fault two three → EndsBy fault one three
  unfolding talk_then
  ends_by_then (faults.Input failed) (talk, sent, wrote, answered, open_line) = (talk_then talk, sent_then talk sent, wrote_then talk wrote, answered_then talk answered, open_line)
  ends_by_then (faults.Gone Ended) (talk, sent, wrote, cut, at_end) = (talk_then talk, sent_then talk sent, wrote_then talk wrote, cut_then talk cut, at_end)
  ends_by_then (faults.Gone (Unread failed)) (talk, sent, wrote, cut) = (talk_then talk, sent_then talk sent, wrote_then talk wrote, cut_then talk cut)
  ends_by_then (faults.Gone (Unsent failed)) (talk, part, wrote, waits) = (talk_then talk, part_then talk part, wrote_then talk wrote, waits_then talk waits)
  ends_by_then (faults.Memory refused) (talk, sent, wrote, how) = (talk_then talk, sent_then talk sent, wrote_then talk wrote, memory_then talk how)
  ends_by_then (faults.Output failed) (talk, sent, left, parts, counts) = (
    talk_then talk,
    some_then talk sent,
    left,
    sym (replies_then talk.replies (talk.behind ++ three.told)) ∙ ap (λ (t : List ℕ). concat first.replies ++ t) parts ∙ sym (append_assoc (concat first.replies) talk.written left),
    counts_then talk counts,
  )
  ends_by_then faults.TooManyLines (talk, sent, wrote, answered, many) = (talk_then talk, sent_then talk sent, wrote_then talk wrote, answered_then talk answered, omega (arith, many, length-append first.lines talk.lines))

  -- 2^64 - 1 lines, the most that are counted, were sent
  pub too_many : 2 ^ 64 - 1 ≤ length first.lines → EndsBy faults.TooManyLines one two
  too_many many = (
    record {
      lines = first.lines;
      replies = first.replies;
      behind = [];
      sent = flat_map fed first.lines;
      written = concat first.replies ++ [];
      asks = inl first.asks;
      hears = subst (Moves one.told two.told one.peer two.peer) (sym (append-nil (concat first.replies))) first.hears;
      sends = first.sends;
      writes = subst (Appends one.written two.written) (sym (append-nil (concat first.replies))) first.writes;
      are_lines = first.are_lines;
      are_replies = first.are_replies;
    },
    refl,
    refl,
    (first.answered, first.go_on),
    many,
  )

-- ---- what is written at the end

module _ (asked told ahead left : List ℕ) (i j p q s t w v z : Option (List ℕ)) (writes : Appends v z left) where
  last_written : (replies : List (List ℕ)) (behind : List ℕ) → Moves told left p q (concat replies ++ behind) → Moves told [] p q (concat replies ++ (behind ++ left))
  last_written replies behind moves =
      (moves.0, moves.1, moves.2 ∙ append_assoc (concat replies) behind left ∙ sym (append-nil (concat replies ++ (behind ++ left))))

  asks_on : (lines : List (List ℕ)) → Asks lines (sight asked told i p s w) (sight ahead left j q t v) → Asks lines (sight asked told i p s w) (sight ahead [] j q t z)
  asks_on lines (inl takes) = inl takes
  asks_on lines (inr takes) = inr (record { firsts = takes.firsts; last = takes.last; are = takes.are; some = takes.some; moves = takes.moves; at_end = takes.at_end; none_held = takes.none_held })

  talk_on : Talk (sight asked told i p s w) (sight ahead left j q t v) → Talk (sight asked told i p s w) (sight ahead [] j q t z)
  talk_on talk = record {
    lines = talk.lines;
    replies = talk.replies;
    behind = talk.behind ++ left;
    sent = talk.sent;
    written = talk.written ++ left;
    asks = asks_on talk.lines talk.asks;
    hears = last_written talk.replies talk.behind talk.hears;
    sends = talk.sends;
    writes = appends_then w v z talk.written left talk.writes writes;
    are_lines = talk.are_lines;
    are_replies = talk.are_replies;
  }

  module _ (talk : Talk (sight asked told i p s w) (sight ahead left j q t v)) where
    wrote_on : WroteAll talk → WroteAll (talk_on talk)
    unfolding talk_on
    wrote_on all = ap (λ (b : List ℕ). b ++ left) all ∙ append_assoc (concat talk.replies) talk.behind left

    cut_on : IsCutOff talk → IsCutOff (talk_on talk)
    unfolding talk_on
    cut_on cut = (cut.0, subst IsUnfinished (sym (append-nil (talk.behind ++ left))) cut.1)

    how_on : (IsAnswered talk × IsLine ahead) ⊎ IsCutOff talk → (IsAnswered (talk_on talk) × IsLine ahead) ⊎ IsCutOff (talk_on talk)
    unfolding talk_on
    how_on (inl (answered, open_line)) = inl (answered, open_line)
    how_on (inr cut) = inr (cut_on cut)

  pub ends_well_on : (end : End) → EndsWell end (sight asked told i p s w) (sight ahead left j q t v) → EndsWell end (sight asked told i p s w) (sight ahead [] j q t z)
  unfolding talk_on
  ends_well_on AtEnd (talk, sent, wrote, answered, none, at_end) = (talk_on talk, sent, wrote_on talk wrote, answered, none, at_end)
  ends_well_on Farewell (talk, sent, wrote, is_left) = (talk_on talk, sent, wrote_on talk wrote, is_left)

  pub ends_by_on : (fault : TalkFault) → ((failed : WriteFailed) → fault ≢ faults.Output failed) → EndsBy fault (sight asked told i p s w) (sight ahead left j q t v) → EndsBy fault (sight asked told i p s w) (sight ahead [] j q t z)
  unfolding talk_on
  ends_by_on (faults.Input failed) other (talk, sent, wrote, answered, open_line) = (talk_on talk, sent, wrote_on talk wrote, answered, open_line)
  ends_by_on (faults.Gone Ended) other (talk, sent, wrote, cut, at_end) = (talk_on talk, sent, wrote_on talk wrote, cut_on talk cut, at_end)
  ends_by_on (faults.Gone (Unread failed)) other (talk, sent, wrote, cut) = (talk_on talk, sent, wrote_on talk wrote, cut_on talk cut)
  ends_by_on (faults.Gone (Unsent failed)) other (talk, part, wrote, waits) = (talk_on talk, part, wrote_on talk wrote, waits)
  ends_by_on (faults.Memory refused) other (talk, sent, wrote, how) = (talk_on talk, sent, wrote_on talk wrote, how_on talk how)
  ends_by_on (faults.Output failed) other ends = absurd (other failed refl)
  ends_by_on faults.TooManyLines other (talk, sent, wrote, answered, many) = (talk_on talk, sent, wrote_on talk wrote, answered, many)

-- the last write failed
module _ (asked told ahead left front kept : List ℕ) (i j p q s t w v z : Option (List ℕ)) (failed : WriteFailed) (parts : left ≡ front ++ kept) (writes : Appends v z front) where
  asks_so : (lines : List (List ℕ)) → Asks lines (sight asked told i p s w) (sight ahead left j q t v) → Asks lines (sight asked told i p s w) (sight ahead left j q t z)
  asks_so lines (inl takes) = inl takes
  asks_so lines (inr takes) = inr (record { firsts = takes.firsts; last = takes.last; are = takes.are; some = takes.some; moves = takes.moves; at_end = takes.at_end; none_held = takes.none_held })

  unwritten : (talk : Talk (sight asked told i p s w) (sight ahead left j q t v)) → SentSome talk → WroteAll talk → (length talk.replies ≡ length talk.lines) ⊎ (length talk.lines ≡ length talk.replies + 1)
      → EndsBy (faults.Output failed) (sight asked told i p s w) (sight ahead left j q t z)
  unwritten talk sent wrote counts = (
    record {
      lines = talk.lines;
      replies = talk.replies;
      behind = talk.behind;
      sent = talk.sent;
      written = talk.written ++ front;
      asks = asks_so talk.lines talk.asks;
      hears = talk.hears;
      sends = talk.sends;
      writes = appends_then w v z talk.written front talk.writes writes;
      are_lines = talk.are_lines;
      are_replies = talk.are_replies;
    },
    sent,
    kept,
    sym (append_assoc (concat talk.replies) talk.behind left) ∙ ap (λ (b : List ℕ). b ++ left) (sym wrote) ∙ ap (λ (b : List ℕ). talk.written ++ b) parts ∙ sym (append_assoc talk.written front kept),
    counts,
  )

  pub well_unwritten : (end : End) → EndsWell end (sight asked told i p s w) (sight ahead left j q t v) → EndsBy (faults.Output failed) (sight asked told i p s w) (sight ahead left j q t z)
  well_unwritten AtEnd (talk, sent, wrote, answered, none, at_end) = unwritten talk (inl sent) wrote (inl answered.0)
  well_unwritten Farewell (talk, sent, wrote, is_left) = unwritten talk (inl sent) wrote (inl is_left.answered)

  pub fault_unwritten : (fault : TalkFault) → ((failed : WriteFailed) → fault ≢ faults.Output failed) → EndsBy fault (sight asked told i p s w) (sight ahead left j q t v)
      → EndsBy (faults.Output failed) (sight asked told i p s w) (sight ahead left j q t z)
  fault_unwritten (faults.Input f) other (talk, sent, wrote, answered, open_line) = unwritten talk (inl sent) wrote (inl answered.0)
  fault_unwritten (faults.Gone Ended) other (talk, sent, wrote, cut, at_end) = unwritten talk (inl sent) wrote (inr cut.0.0)
  fault_unwritten (faults.Gone (Unread f)) other (talk, sent, wrote, cut) = unwritten talk (inl sent) wrote (inr cut.0.0)
  fault_unwritten (faults.Gone (Unsent f)) other (talk, part, wrote, waits) = unwritten talk (inr part) wrote (inr waits.0)
  fault_unwritten (faults.Memory refused) other (talk, sent, wrote, inl how) = unwritten talk (inl sent) wrote (inl how.0.0)
  fault_unwritten (faults.Memory refused) other (talk, sent, wrote, inr cut) = unwritten talk (inl sent) wrote (inr cut.0.0)
  fault_unwritten (faults.Output f) other ends = absurd (other f refl)
  fault_unwritten faults.TooManyLines other (talk, sent, wrote, answered, many) = unwritten talk (inl sent) wrote (inl answered.0)

-- ---- a talk begins with nothing held

pub well_from_none : (end : End) (asked told : List ℕ) (i p s w : Option (List ℕ)) (after : Sight) → asked ≡ [] → told ≡ [] → EndsWell end (sight asked told i p s w) after → EndsWell end (sight [] [] i p s w) after
well_from_none end asked told i p s w after none_asked none_told ends =
    subst (λ (h : List ℕ). EndsWell end (sight [] h i p s w) after) none_told (subst (λ (a : List ℕ). EndsWell end (sight a told i p s w) after) none_asked ends)

pub fault_from_none : (fault : TalkFault) (asked told : List ℕ) (i p s w : Option (List ℕ)) (after : Sight) → asked ≡ [] → told ≡ [] → EndsBy fault (sight asked told i p s w) after → EndsBy fault (sight [] [] i p s w) after
fault_from_none fault asked told i p s w after none_asked none_told ends =
    subst (λ (h : List ℕ). EndsBy fault (sight [] h i p s w) after) none_told (subst (λ (a : List ℕ). EndsBy fault (sight a told i p s w) after) none_asked ends)

-- after a fault other than the output's, all is written
pub written_by : (fault : TalkFault) → IsWritten fault []
written_by (faults.Input failed) = refl
written_by (faults.Output failed) = tt
written_by (faults.Gone how) = refl
written_by (faults.Memory refused) = refl
written_by faults.TooManyLines = refl
