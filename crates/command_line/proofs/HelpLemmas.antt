-- If a walk over the words has no fault, it does not enter `help`, since a word that asks for it is
-- rejected.
use Rattle.std.proofs.Common.{◌≡◌, ℕ, Bool, true, false, not, ◌&&◌, if◌then◌else◌, List, [], ◌∷◌, Option, None, Some, IfSome, is_some, refl, true≢false, codes}
use Rattle.std.specs.Prelude.{fold}
use Rattle.std.specs.Str.{bytes_eq}
use Rattle.clap.specs.Faults.{other_fault, step_fault, turn_fault, walk_fault, word_fault}
use Rattle.clap.specs.Kinds.{or_else}
use Rattle.clap.specs.Lexer.{long_of, short_of}
use Rattle.clap.specs.Simple.{Shape}
use Rattle.clap.specs.Walk.{Held, Names, Outcome, Rule, Step, Text, Waiting, Walk, after_flag, after_step, arg_by_index, done, idle, long_or_other, next, option, plain, plain_word, positional, refused, short_or_plain, subcommand, subcommand_met, subcommand_or_other, to_positional, trailing, value, waits, walked, walked_from, word_met}
use Rattle.clap.specs.declared.error.kind.ErrorKind.TheVariants.{DisplayHelp, InvalidSubcommand}
use Rattle.command_line.proofs.RowLemmas.{both_pass}

abbrev pub IsNoHelp : Text → Type 0
IsNoHelp name = bytes_eq name (codes "help") ≡ false

abbrev pub EntersNoHelp : Option (Text × List Text) → Type 0
EntersNoHelp stop = IfSome stop (λ p. IsNoHelp p.0)

abbrev StepsNoHelp : Step → Type 0
StepsNoHelp (subcommand name) = IsNoHelp name
StepsNoHelp (next waiting) = Unit {0}
StepsNoHelp (trailing position) = Unit {0}
StepsNoHelp value = Unit {0}

module _ (s : Shape) (answers : s.disable_help_subcommand ≡ false) where
  plain_no_help : (waiting : Waiting) (word : Text) (h : Held) → StepsNoHelp (plain_word s.rules waiting word h).1
  plain_no_help idle word h = tt
  plain_no_help positional word h = tt
  plain_no_help (option id) word h = tt

  flag_no_help : (waiting : Waiting) (word : Text) (h : Held) (outcome : Outcome) → StepsNoHelp (after_flag s.rules waiting word h outcome).1
  flag_no_help waiting word h done = tt
  flag_no_help waiting word h (waits id) = tt
  flag_no_help waiting word h plain = plain_no_help waiting word h
  flag_no_help waiting word h refused = plain_no_help waiting word h

  short_no_help : (waiting : Waiting) (word : Text) (o : Option Text) (h : Held) → StepsNoHelp (short_or_plain s.rules waiting word o h).1
  short_no_help waiting word None h = plain_no_help waiting word h
  short_no_help waiting word (Some flags) h = flag_no_help waiting word _ _

  long_no_help : (waiting : Waiting) (word : Text) (o : Option (Text × Option Text)) (h : Held) → StepsNoHelp (long_or_other s.rules waiting word o h).1
  long_no_help waiting word None h = short_no_help waiting word (short_of word) h
  long_no_help waiting word (Some p) h = flag_no_help waiting word _ _

  asks_no_help : (asks off : Bool) → off ≡ false → (if asks && not off then DisplayHelp ∷ InvalidSubcommand ∷ [] else []) ≡ [] → asks ≡ false
  asks_no_help false off on e = refl
  asks_no_help true false on e = absurd cc
  asks_no_help true true on e = absurd (true≢false on)

  other_no_help : (o : Option Text) (waiting : Waiting) (position : ℕ) (word : Text) (h : Held) → other_fault s o word h ≡ [] → StepsNoHelp (subcommand_or_other s.rules o waiting position word h).1
  other_no_help (Some name) waiting position word h e = asks_no_help (bytes_eq name (codes "help")) s.disable_help_subcommand answers e
  other_no_help None waiting position word h e = by (bytes_eq word (45 ∷ 45 ∷ []))
    where
      by : (b : Bool) → StepsNoHelp (if b then (h, trailing position) else long_or_other s.rules waiting word (long_of word) h).1
      by true = tt
      by false = long_no_help waiting word (long_of word) h

  met_no_help : (names : Names) (is_trailing : Bool) (waiting : Waiting) (position : ℕ) (word : Text) (h : Held) → word_fault s names is_trailing waiting word h ≡ []
      → StepsNoHelp (word_met s.rules names is_trailing waiting position word h).1
  met_no_help names true waiting position word h e = tt
  met_no_help names false waiting position word h e = other_no_help (subcommand_met names waiting word) waiting position word h e

  step_no_help : (word : Text) (w : Walk) (h : Held) (step : Step) → StepsNoHelp step → EntersNoHelp w.stopped → EntersNoHelp (after_step s.rules word w h step).stopped
  step_no_help word w h (next waiting) is n = n
  step_no_help word w h (trailing position) is n = n
  step_no_help word w h (subcommand name) is n = is
  step_no_help word w h value is n = by (arg_by_index s.rules w.position)
    where
      by : (o : Option Rule) → EntersNoHelp (to_positional s.rules o word w h).stopped
      by None = n
      by (Some a) = tt

  turn_no_help : (names : Names) (w : Walk) (word : Text) → turn_fault s names w word ≡ [] → EntersNoHelp w.stopped → EntersNoHelp (walked s.rules names w word).stopped
  unfolding walked
  turn_no_help names w word e n = by w.stopped e n
    where
      met : Held × Step
      met = word_met s.rules names w.is_trailing w.waiting w.position word w.held

      by : (o : Option (Text × List Text)) → (if is_some o then [] else or_else (word_fault s names w.is_trailing w.waiting word w.held) (step_fault s w.position met.0 met.1)) ≡ []
          → EntersNoHelp o → EntersNoHelp (walked_from s.rules names o w word).stopped
      by (Some p) e m = m
      by None e m =
          let p = both_pass (word_fault s names w.is_trailing w.waiting word w.held) (step_fault s w.position met.0 met.1) e in
          step_no_help word w met.0 met.1 (met_no_help names w.is_trailing w.waiting w.position word w.held p.0) n

  pub walk_no_help : (names : Names) (w : Walk) (words : List Text) → walk_fault s names w words ≡ [] → EntersNoHelp w.stopped → EntersNoHelp (fold (walked s.rules names) w words).stopped
  unfolding walk_fault
  walk_no_help names w [] e n = n
  walk_no_help names w (word ∷ rest) e n =
      let p = both_pass (turn_fault s names w word) (walk_fault s names (walked s.rules names w word) rest) e in
      walk_no_help names (walked s.rules names w word) rest p.1 (turn_no_help names w word p.0 n)
