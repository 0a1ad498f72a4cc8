-- What lines and replies have changed in the input, the server and the output.
use Rattle.std.specs.Prelude.{◌≡◌, ◌≢◌, ◌⊎◌, ℕ, List, [], ◌∷◌, ◌++◌, length, Option, All}
use Rattle.std.specs.Io.KnownBytes.{Appends, Consumes, IsAtEnd}
use Rattle.std.specs.List.{concat, flat_map}
use Rattle.line_streams.specs.Streams.{IsLine, fed}
use Rattle.client.specs.Replies.{GoesOn, IsReply}

-- What a talk sees: the bytes read from the input and the server that are not used yet; and, if
-- they are known, the bytes that the input and the server have left, and those that were sent and
-- written.
pub record Sight : Type 0 where
  pub asked : List ℕ
  pub told : List ℕ
  pub input : Option (List ℕ)
  pub peer : Option (List ℕ)
  pub sent : Option (List ℕ)
  pub written : Option (List ℕ)

abbrev pub sight : List ℕ → List ℕ → Option (List ℕ) → Option (List ℕ) → Option (List ℕ)
    → Option (List ℕ) → Sight
sight asked told input peer sent written =
    record {
      asked = asked;
      told = told;
      input = input;
      peer = peer;
      sent = sent;
      written = written;
    }

-- bytes were used: the first ones of those held and of those read after them
abbrev pub Moves : List ℕ → List ℕ → Option (List ℕ) → Option (List ℕ) → List ℕ → Type 0
Moves held held_then left left_then passed =
    (more : List ℕ) × Consumes left left_then more × (held ++ more ≡ passed ++ held_then)

-- these lines were taken from the input, each with its line feed
abbrev pub TakesLines : List (List ℕ) → Sight → Sight → Type 0
TakesLines lines before after =
    Moves before.asked after.asked before.input after.input (flat_map fed lines)

-- these lines were taken from the input, which ended without a line feed after the last of them
pub record TakesLast (lines : List (List ℕ)) (before after : Sight) : Type 0 where
  pub firsts : List (List ℕ)
  pub last : List ℕ
  pub are : lines ≡ firsts ++ last ∷ []
  pub some : last ≢ []
  pub moves : Moves before.asked [] before.input after.input (flat_map fed firsts ++ last)
  pub at_end : IsAtEnd after.input
  pub none_held : after.asked ≡ []

abbrev pub Asks : List (List ℕ) → Sight → Sight → Type 0
Asks lines before after = TakesLines lines before after ⊎ TakesLast lines before after

-- Lines were sent, and the reply to each was written. No reply ends the session.
pub record Spoken (before after : Sight) : Type 0 where
  pub lines : List (List ℕ)
  pub replies : List (List ℕ)
  pub asks : TakesLines lines before after
  pub hears : Moves before.told after.told before.peer after.peer (concat replies)
  pub sends : Appends before.sent after.sent (flat_map fed lines)
  pub writes : Appends before.written after.written (concat replies)
  pub are_lines : All IsLine lines
  pub are_replies : All IsReply replies
  pub answered : length replies ≡ length lines
  pub go_on : All GoesOn replies
