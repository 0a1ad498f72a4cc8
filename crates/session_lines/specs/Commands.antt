-- The command of a session's line, or the line's fault.
use Rattle.std.specs.Prelude.{◌≡◌, ℕ, Bool, List, codes, Option, None, Some, Result, Ok, Err, if◌then◌else◌}
use Rattle.std.specs.Str.{bytes_eq}
use Rattle.plane.specs.declared.point.Point.{Point}
use Rattle.wkt.specs.declared.fault.WktFault.{WktFault}
use Rattle.wkt.specs.Reading.{shape_of}
use Rattle.features.specs.Names.{name_of}
use Rattle.features.specs.declared.rows.Change.TheVariants as changes
use Rattle.session_lines.specs.declared.commands.Command.{Command}
use Rattle.session_lines.specs.declared.commands.Command.TheVariants as commands
use Rattle.session_lines.specs.declared.commands.Verb.{Verb}
use Rattle.session_lines.specs.declared.commands.Verb.TheVariants as verbs
use Rattle.session_lines.specs.declared.faults.LineFault.{LineFault}
use Rattle.session_lines.specs.declared.faults.LineFault.TheVariants.{Command as CommandFault, Number, Name, BeforeHello, HelloAgain, Shape}
use Rattle.line_words.specs.Words.{next_word, number_of}
use Rattle.session_lines.specs.Actions.{action_of}

infixl 10 ◌>>=◌
abbrev pub ◌>>=◌ : {A B : Type 0} → Result A LineFault → (A → Result B LineFault)
    → Result B LineFault
(Ok x) >>= f = f x
(Err e) >>= f = Err e

-- a returned value, seen by `view`, is what the reading gives
abbrev pub Gives : {X Y : Type 0} → (X → Y) → Result X LineFault → Result Y LineFault → Type 0
Gives view (Ok x) reading = reading ≡ Ok (view x)
Gives view (Err e) reading = reading ≡ Err e

-- the value of an option, or this fault
abbrev pub or_fault : {X : Type 0} → LineFault → Option X → Result X LineFault
or_fault fault None = Err fault
or_fault fault (Some x) = Ok x

-- the command that a word names
abbrev pub verb_of : List ℕ → Option Verb
verb_of word =
    if bytes_eq word (codes "HELLO") then Some verbs.Hello
    else if bytes_eq word (codes "SEARCH") then Some verbs.Search
    else if bytes_eq word (codes "ADD") then Some verbs.Add
    else if bytes_eq word (codes "RESHAPE") then Some verbs.Reshape
    else if bytes_eq word (codes "DELETE") then Some verbs.Delete
    else if bytes_eq word (codes "COMMIT") then Some verbs.Commit
    else if bytes_eq word (codes "ABORT") then Some verbs.Abort
    else if bytes_eq word (codes "POLICY") then Some verbs.Policy
    else if bytes_eq word (codes "EXPLAIN") then Some verbs.Explain
    else if bytes_eq word (codes "ROLL") then Some verbs.Roll
    else if bytes_eq word (codes "BYE") then Some verbs.Bye
    else None

-- the next word; E2 where there is none
abbrev pub word_at : List ℕ → Result (List ℕ × List ℕ) LineFault
word_at text = or_fault CommandFault (next_word text)

-- the command that the first word names, and the rest of the line
unfoldable pub verb_at : List ℕ → Result (Verb × List ℕ) LineFault
verb_at text = do
  word ← word_at text
  verb ← or_fault CommandFault (verb_of word.0)
  Ok (verb, word.1)

-- HELLO comes once, and every other command but BYE comes after it
abbrev pub allowed : Bool → Verb → Result (Unit {0}) LineFault
allowed begun verbs.Bye = Ok tt
allowed begun verbs.Hello = if begun then Err HelloAgain else Ok tt
allowed begun verbs.Search = if begun then Ok tt else Err BeforeHello
allowed begun verbs.Add = if begun then Ok tt else Err BeforeHello
allowed begun verbs.Reshape = if begun then Ok tt else Err BeforeHello
allowed begun verbs.Delete = if begun then Ok tt else Err BeforeHello
allowed begun verbs.Commit = if begun then Ok tt else Err BeforeHello
allowed begun verbs.Abort = if begun then Ok tt else Err BeforeHello
allowed begun verbs.Policy = if begun then Ok tt else Err BeforeHello
allowed begun verbs.Explain = if begun then Ok tt else Err BeforeHello
allowed begun verbs.Roll = if begun then Ok tt else Err BeforeHello

-- the command of a line, if it may come now, and the rest of the line
unfoldable pub verb_for : Bool → List ℕ → Result (Verb × List ℕ) LineFault
verb_for begun text = do
  verb ← verb_at text
  _ ← allowed begun verb.0
  Ok (verb.0, verb.1)

-- a shape, or the fault of its text
abbrev pub shape_or_fault : Result (List Point) WktFault → Result (List Point) LineFault
shape_or_fault (Ok corners) = Ok corners
shape_or_fault (Err fault) = Err (Shape fault)

-- a shape's text is the rest of the line, with its spaces
unfoldable pub shape_at : List ℕ → Result (List Point) LineFault
shape_at text = shape_or_fault (shape_of text)

abbrev pub nothing_left : Option (List ℕ × List ℕ) → Result (Unit {0}) LineFault
nothing_left None = Ok tt
nothing_left (Some word) = Err CommandFault

-- nothing but spaces is left
unfoldable pub end_at : List ℕ → Result (Unit {0}) LineFault
end_at text = nothing_left (next_word text)

-- a command that has no words
unfoldable pub alone_at : Command → List ℕ → Result Command LineFault
alone_at command text = end_at text >>= λ _. Ok command

unfoldable pub hello_at : List ℕ → Result Command LineFault
hello_at text = do
  word ← word_at text
  name ← or_fault Name (name_of word.0)
  _ ← end_at word.1
  Ok (commands.Hello name)

unfoldable pub add_at : List ℕ → Result Command LineFault
add_at text = do
  first ← word_at text
  id ← or_fault Number (number_of first.0)
  second ← word_at first.1
  class ← or_fault Name (name_of second.0)
  shape ← shape_at second.1
  Ok (commands.Stage (changes.Add id class shape))

unfoldable pub reshape_at : List ℕ → Result Command LineFault
reshape_at text = do
  first ← word_at text
  id ← or_fault Number (number_of first.0)
  second ← word_at first.1
  version ← or_fault Number (number_of second.0)
  shape ← shape_at second.1
  Ok (commands.Stage (changes.Reshape id version shape))

unfoldable pub delete_at : List ℕ → Result Command LineFault
delete_at text = do
  first ← word_at text
  id ← or_fault Number (number_of first.0)
  second ← word_at first.1
  version ← or_fault Number (number_of second.0)
  _ ← end_at second.1
  Ok (commands.Stage (changes.Delete id version))

unfoldable pub explain_at : List ℕ → Result Command LineFault
explain_at text = do
  first ← word_at text
  action ← or_fault Name (action_of first.0)
  second ← word_at first.1
  owner ← or_fault Name (name_of second.0)
  third ← word_at second.1
  class ← or_fault Name (name_of third.0)
  shape ← shape_at third.1
  Ok (commands.Explain (record { action = action; owner = owner; class = class; shape = shape }))

-- a command with its words, read from left to right; the text after POLICY has no words
unfoldable pub arguments_at : Verb → List ℕ → Result Command LineFault
arguments_at verbs.Hello text = hello_at text
arguments_at verbs.Search text = shape_at text >>= λ shape. Ok (commands.Search shape)
arguments_at verbs.Add text = add_at text
arguments_at verbs.Reshape text = reshape_at text
arguments_at verbs.Delete text = delete_at text
arguments_at verbs.Commit text = alone_at commands.Commit text
arguments_at verbs.Abort text = alone_at commands.Abort text
arguments_at verbs.Policy text = Err CommandFault
arguments_at verbs.Explain text = explain_at text
arguments_at verbs.Roll text = alone_at commands.Roll text
arguments_at verbs.Bye text = alone_at commands.Bye text
