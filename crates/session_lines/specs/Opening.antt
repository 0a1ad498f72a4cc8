-- HELLO where there are keys: a secret stands behind the name.
use Rattle.std.specs.Prelude.{ℕ, Bool, List, [], ◌∷◌, ◌-◌, length, take, is_some, Option, Result, Ok, Err, MatchResult, if◌then◌else◌}
use Rattle.credentials.specs.Asking.{has_key}
use Rattle.credentials.specs.declared.keys.Key.{Key}
use Rattle.features.specs.Names.{name_of}
use Rattle.features.specs.declared.actors.Subject.{Subject}
use Rattle.session_lines.specs.declared.commands.Verb.{Verb}
use Rattle.session_lines.specs.declared.commands.Verb.TheVariants as verbs
use Rattle.session_lines.specs.declared.faults.LineFault.{LineFault}
use Rattle.session_lines.specs.declared.faults.LineFault.TheVariants.{Name, NoSubject}
use Rattle.session_lines.specs.declared.replies.Reply.TheVariants.{Error}
use Rattle.session_lines.specs.Commands.{◌>>=◌, end_at, or_fault, verb_for, word_at}
use Rattle.session_lines.specs.Desks.{Answers, Desk, OnlySays}
use Rattle.session_lines.specs.Replies.{SaidData}
use Rattle.session_lines.specs.Services.{Call}

-- the line up to the name, where `rest` stands behind it; H1 where no key of the name has the secret
abbrev pub let_in : List Key → List ℕ → List ℕ → List ℕ → List ℕ → Result (List ℕ) LineFault
let_in keys name secret text rest =
    if has_key keys name secret then Ok (take (length text - length rest) text) else Err NoSubject

-- a name, a secret, and nothing more
unfoldable pub greeting_at : List Key → List ℕ → List ℕ → Result (List ℕ) LineFault
greeting_at keys text words = do
  word ← word_at words
  name ← or_fault Name (name_of word.0)
  secret ← word_at word.1
  _ ← end_at secret.1
  let_in keys name secret.0 text word.1

abbrev pub opened_verb : List Key → List ℕ → Verb × List ℕ → Result (List ℕ) LineFault
opened_verb keys text (verbs.Hello, words) = greeting_at keys text words
opened_verb keys text verb = Ok text

abbrev pub opened_by : List Key → Bool → List ℕ → Result (List ℕ) LineFault
opened_by keys begun text = verb_for begun text >>= opened_verb keys text

-- the line that is answered: where there are keys, that of HELLO without its secret
abbrev pub opened : List Key → Bool → List ℕ → Result (List ℕ) LineFault
opened [] begun text = Ok text
opened (key ∷ keys) begun text = opened_by (key ∷ keys) begun text

-- what a session's line makes of the session and a service that may have keys, and what is said
abbrev pub AnswersOpened : {S : Type 0} → (S → List Key) → (S → Option Subject) → (Call → S → S
    → SaidData → Type 0) → List ℕ → Desk S → Desk S → SaidData → Type 0
AnswersOpened keys_of subject_of serves text old new said =
    MatchResult (opened (keys_of old.service) (is_some (subject_of old.service)) text)
    (λ line. Answers subject_of serves line old new said)
    (λ fault. OnlySays (Error fault) old new said)
