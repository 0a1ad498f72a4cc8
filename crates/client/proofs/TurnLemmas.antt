-- The effect of one turn on a talk.
use Rattle.std.proofs.Common.{◌≡◌, ◌⊎◌, ℕ, List, [], ◌∷◌, ◌++◌, length, Option, Ok, Err, append-nil, inl, inr, refl, sym, ap, subst, ◌∙◌}
use Rattle.std.proofs.lemmas.List.Elements.{All-cons, All-nil}
use Rattle.std.specs.Io.KnownBytes.{Appends, IsAtEnd}
use Rattle.std.specs.List.{All, concat, flat_map}
use Rattle.line_streams.specs.Streams.{IsLine, fed}
use Rattle.client.proofs.ByteLemmas.{appends_none, moves_none}
use Rattle.client.specs.Ends.{EndsBy, EndsWell, Talk}
use Rattle.client.specs.Replies.{GoesOn, IsReply, farewell}
use Rattle.client.specs.Steps.{BreaksOff, SendsLine, TakesOpen}
use Rattle.client.specs.Turns.{Asks, Moves, Spoken, sight}
use Rattle.client.specs.declared.faults.Gone.TheVariants.{Ended, Unread, Unsent}
use Rattle.client.specs.declared.faults.TalkFault.{TalkFault}
use Rattle.client.specs.declared.faults.TalkFault.TheVariants as faults
use Rattle.client.specs.declared.talks.End.TheVariants.{AtEnd, Farewell}
use Rattle.client.specs.declared.talks.Sent.TheVariants.{Nothing}

one_more : (bytes : List ℕ) → bytes ≡ bytes ++ []
one_more bytes = sym (append-nil bytes)

pub asks_line : (line a b h k : List ℕ) (i j p q s t w v : Option (List ℕ)) → Moves a b i j (fed line) → Asks (line ∷ []) (sight a h i p s w) (sight b k j q t v)
asks_line line a b h k i j p q s t w v moves = inl (subst (Moves a b i j) (one_more (fed line)) moves)

pub asks_last : (line a b h k : List ℕ) (i j p q s t w v : Option (List ℕ)) → TakesOpen line a b i j → Asks (line ∷ []) (sight a h i p s w) (sight b k j q t v)
asks_last line a b h k i j p q s t w v takes =
    inr (record { firsts = []; last = line; are = refl; some = takes.0; moves = takes.1; at_end = takes.2; none_held = takes.3 })

same_bytes : (before after : Option (List ℕ)) → after ≡ before → Appends before after []
same_bytes before after same = subst (λ (t : Option (List ℕ)). Appends before t []) (sym same) (appends_none before)

-- nothing was sent
silent : (a b h : List ℕ) (i j p s t w : Option (List ℕ)) → Moves a b i j [] → t ≡ s → Talk (sight a h i p s w) (sight b h j p t w)
silent a b h i j p s t w moves same = record {
  lines = [];
  replies = [];
  behind = [];
  sent = [];
  written = [];
  asks = inl moves;
  hears = moves_none h p;
  sends = same_bytes s t same;
  writes = appends_none w;
  are_lines = All-nil IsLine;
  are_replies = All-nil IsReply;
}

-- there was no line to send
pub nothing_sent : (a b h : List ℕ) (i j p s t w : Option (List ℕ)) → SendsLine (Ok Nothing) a b i j s t → EndsWell AtEnd (sight a h i p s w) (sight b h j p t w)
unfolding silent
nothing_sent a b h i j p s t w sends = (silent a b h i j p s t w sends.0 sends.3, refl, refl, (refl, All-nil GoesOn), sends.1, sends.2)

-- a line was not sent whole
pub not_sent : (fault : TalkFault) (a b h : List ℕ) (i j p s t w : Option (List ℕ)) → SendsLine (Err fault) a b i j s t → EndsBy fault (sight a h i p s w) (sight b h j p t w)
unfolding silent
not_sent (faults.Input failed) a b h i j p s t w sends = (silent a b h i j p s t w sends.0.0 sends.1, refl, refl, (refl, All-nil GoesOn), sends.0.1)
not_sent (faults.Memory refused) a b h i j p s t w sends = (silent a b h i j p s t w sends.0.0 sends.1, refl, refl, inl ((refl, All-nil GoesOn), sends.0.1))
not_sent (faults.Gone (Unsent failed)) a b h i j p s t w sends = (
  record {
    lines = sends.line ∷ [];
    replies = [];
    behind = [];
    sent = sends.front;
    written = [];
    asks = taken sends.takes;
    hears = moves_none h p;
    sends = sends.sends;
    writes = appends_none w;
    are_lines = All-cons IsLine sends.line [] sends.is_line (All-nil IsLine);
    are_replies = All-nil IsReply;
  },
  record { firsts = []; last = sends.line; front = sends.front; left = sends.left; are = refl; parts = sends.parts; is = refl },
  refl,
  (refl, All-nil GoesOn),
)
  where
    taken : Moves a b i j (fed sends.line) ⊎ TakesOpen sends.line a b i j → Asks (sends.line ∷ []) (sight a h i p s w) (sight b h j p t w)
    taken (inl moves) = asks_line sends.line a b h h i j p p s t w w moves
    taken (inr takes) = asks_last sends.line a b h h i j p p s t w w takes
not_sent (faults.Output failed) a b h i j p s t w sends = absurd sends
not_sent (faults.Gone Ended) a b h i j p s t w sends = absurd sends
not_sent (faults.Gone (Unread failed)) a b h i j p s t w sends = absurd sends
not_sent faults.TooManyLines a b h i j p s t w sends = absurd sends

module _ (line a b h k : List ℕ) (i j p q s t w v : Option (List ℕ)) (is_line : IsLine line) (asks : Asks (line ∷ []) (sight a h i p s w) (sight b k j q t v)) (sends : Appends s t (fed line)) where
  one_sent : Appends s t (flat_map fed (line ∷ []))
  one_sent = subst (Appends s t) (one_more (fed line)) sends

  one_line : All IsLine (line ∷ [])
  one_line = All-cons IsLine line [] is_line (All-nil IsLine)

  -- a line was sent, and a part of its reply written
  begun : (passed written : List ℕ) → Moves h k p q passed → Appends w v written → Talk (sight a h i p s w) (sight b k j q t v)
  begun passed written hears writes = record {
    lines = line ∷ [];
    replies = [];
    behind = passed;
    sent = flat_map fed (line ∷ []);
    written = written;
    asks = asks;
    hears = hears;
    sends = one_sent;
    writes = writes;
    are_lines = one_line;
    are_replies = All-nil IsReply;
  }

  pub not_answered : (fault : TalkFault) → BreaksOff fault h k p q w v → EndsBy fault (sight a h i p s w) (sight b k j q t v)
  unfolding begun
  not_answered (faults.Output failed) broke = (begun broke.0 broke.1 broke.3 broke.5, inl refl, broke.2, broke.4, inr refl)
  not_answered (faults.Gone Ended) broke = (begun broke.0.0 broke.0.0 broke.0.1 broke.0.2, refl, refl, ((refl, All-nil GoesOn), broke.0.3), broke.1)
  not_answered (faults.Gone (Unread failed)) broke = (begun broke.0 broke.0 broke.1 broke.2, refl, refl, ((refl, All-nil GoesOn), broke.3))
  not_answered (faults.Memory refused) broke = (begun broke.0 broke.0 broke.1 broke.2, refl, refl, inr ((refl, All-nil GoesOn), broke.3))
  not_answered (faults.Gone (Unsent failed)) broke = absurd broke
  not_answered (faults.Input failed) broke = absurd broke
  not_answered faults.TooManyLines broke = absurd broke

  module _ (reply : List ℕ) (is_reply : IsReply reply) (hears : Moves h k p q reply) (writes : Appends w v reply) where
    one_reply : All IsReply (reply ∷ [])
    one_reply = All-cons IsReply reply [] is_reply (All-nil IsReply)

    answer : Talk (sight a h i p s w) (sight b k j q t v)
    answer = record {
      lines = line ∷ [];
      replies = reply ∷ [];
      behind = [];
      sent = flat_map fed (line ∷ []);
      written = concat (reply ∷ []) ++ [];
      asks = asks;
      hears = subst (Moves h k p q) (one_more reply ∙ one_more (reply ++ [])) hears;
      sends = one_sent;
      writes = subst (Appends w v) (one_more reply ∙ one_more (reply ++ [])) writes;
      are_lines = one_line;
      are_replies = one_reply;
    }

    pub farewell_said : reply ≡ farewell → EndsWell Farewell (sight a h i p s w) (sight b k j q t v)
    unfolding answer
    farewell_said is = (answer, refl, refl, record { firsts = []; are = ap (λ (r : List ℕ). r ∷ []) is; go_on = All-nil GoesOn; answered = refl })

    pub last_answered : GoesOn reply → b ≡ [] → IsAtEnd j → EndsWell AtEnd (sight a h i p s w) (sight b k j q t v)
    unfolding answer
    last_answered goes_on none at_end = (answer, refl, refl, (refl, All-cons GoesOn reply [] goes_on (All-nil GoesOn)), none, at_end)

-- a line was sent, and its reply written
pub line_answered : (line a b h k : List ℕ) (i j p q s t w v : Option (List ℕ)) → IsLine line → Moves a b i j (fed line) → Appends s t (fed line) → (reply : List ℕ) → IsReply reply → GoesOn reply → Moves h k p q reply
    → Appends w v reply → (spoken : Spoken (sight a h i p s w) (sight b k j q t v)) × (length spoken.lines ≡ 1)
line_answered line a b h k i j p q s t w v is_line asks sends reply is_reply goes_on hears writes = (
  record {
    lines = line ∷ [];
    replies = reply ∷ [];
    asks = subst (Moves a b i j) (one_more (fed line)) asks;
    hears = subst (Moves h k p q) (one_more reply) hears;
    sends = subst (Appends s t) (one_more (fed line)) sends;
    writes = subst (Appends w v) (one_more reply) writes;
    are_lines = All-cons IsLine line [] is_line (All-nil IsLine);
    are_replies = All-cons IsReply reply [] is_reply (All-nil IsReply);
    answered = refl;
    go_on = All-cons GoesOn reply [] goes_on (All-nil GoesOn);
  },
  refl,
)
