-- What clap has accepted: if a level of the command line has no fault, the values of each of its
-- rows passed the parser of their argument.
use Rattle.std.proofs.Common.{◌≡◌, ◌⊎◌, inl, inr, ℕ, zero, suc, Bool, true, false, ◌&&◌, if◌then◌else◌, List, [], ◌∷◌, ◌++◌, length, drop, Option, None, Some, IfSome, is_some, refl, ap, ap₂, ◌∙◌, sym, subst}
use Rattle.std.specs.Prelude.{encode_utf8, find, fold, slice_get}
use Rattle.std.specs.Option.{option_map_or}
use Rattle.std.specs.Str.{bytes_eq, chars}
use Rattle.std.proofs.lemmas.Slice.Eq.{bytes_eq-Decides}
use Rattle.clap.specs.Facts.{unwrap_or_range}
use Rattle.clap.specs.Faults.{action_fault, bundle_fault, bundle_step_fault, check_fault, flag_word_fault, flags_fault, level_fault, long_fault, option_fault, other_fault, positional_fault, react_fault, settle_fault, short_fault, step_fault, stray_fault, turn_fault, use_fault, values_fault, walk_fault, word_fault}
use Rattle.clap.specs.Kinds.{Kinds, or_else, range_kinds, value_kinds, values_kinds}
use Rattle.clap.specs.Lexer.{long_of, short_of}
use Rattle.clap.specs.Simple.{Shape}
use Rattle.clap.specs.Walk.{Held, Names, Outcome, Row, Rule, Step, Text, Waiting, Walk, action_of, after_flag, after_step, arg_by_id, arg_by_index, arg_by_long, arg_by_short, at_row, attached_value, bundle_met, bundle_step, default_rows, done, finished, flag_met, has_row, idle, is_pending, long_met, long_or_other, more_values, most_values, next, nothing_held, option, option_met, option_word, plain, plain_word, positional, pushed, reacted, reading_by, refused, settled, settled_rows, short_met, short_or_plain, subcommand, subcommand_met, subcommand_or_other, takes_several, takes_values, to_positional, trailing, used, used_as, used_by_id, value, values_or_missing, waits, walk, walk_from, walked, walked_from, with_default, with_values, without, word_met}
use Rattle.clap.specs.declared.error.kind.ErrorKind.TheVariants.{TooManyValues}
use Rattle.clap.specs.declared.builder.action.ArgAction.{ArgAction}
use Rattle.clap.specs.declared.builder.action.ArgAction.TheVariants.{Set, SetTrue, Help}
use Rattle.clap.specs.declared.builder.value_parser.ValueParser.{ValueParser}
use Rattle.clap.specs.declared.parser.matches.ValueSource.{ValueSource}
use Rattle.clap.specs.declared.parser.matches.ValueSource.TheVariants.{CommandLine, DefaultValue}

-- neither of two steps fails
pub both_pass : (a b : Kinds) → or_else a b ≡ [] → (a ≡ []) × (b ≡ [])
both_pass [] b e = (refl, e)
both_pass (k ∷ ks) b e = absurd cc

-- ---- values that passed

abbrev pub HasValue : List Text → Type 0
HasValue [] = ⊥
HasValue (v ∷ vs) = Unit {0}

more_value : (xs ys : List Text) → HasValue xs → HasValue (xs ++ ys)
more_value [] ys h = absurd h
more_value (x ∷ xs) ys h = tt

both_accepted : (any_case : Bool) (parser : ValueParser) (xs ys : List Text) → values_kinds any_case parser xs ≡ [] → values_kinds any_case parser ys ≡ [] → values_kinds any_case parser (xs ++ ys) ≡ []
both_accepted any_case parser [] ys e f = f
both_accepted any_case parser (x ∷ xs) ys e f =
    let p = both_pass (value_kinds any_case parser x) (values_kinds any_case parser xs) e in
    ap₂ or_else p.0 (both_accepted any_case parser xs ys p.1 f)

-- a row of this argument that passed its parser, and is read as that parser says
pub record IsPassedBy (a : Rule) (r : Row) : Type 0 where
  pub has : HasValue r.values
  pub accepted : values_fault a r.values ≡ []
  pub reading : r.reading ≡ reading_by a

pub of_some : (P : Rule → Type 0) (o : Option Rule) (a : Rule) → o ≡ Some a → P a → IfSome o P
of_some P o a is h = subst (λ (o : Option Rule). IfSome o P) (sym is) h

pub at_some : (P : Rule → Type 0) (o : Option Rule) (a : Rule) → o ≡ Some a → IfSome o P → P a
at_some P o a is h = subst (λ (o : Option Rule). IfSome o P) is h

-- a use replaces an earlier one, and has its own values
abbrev Replaces : ArgAction → Type 0
Replaces Set = Unit {0}
Replaces SetTrue = Unit {0}
Replaces _ = ⊥

-- an argument of one value, a flag, or a flag that asks for help
abbrev IsPlainRule : Rule → Type 0
IsPlainRule a = (Replaces (action_of a) × (((unwrap_or_range a.range).start_inclusive ≡ 1) ⊎ HasValue a.missing)) ⊎ (action_of a ≡ Help)

-- a plain argument, found by its id, whose default values pass
pub record IsKnown (rules : List Rule) (a : Rule) : Type 0 where
  pub plain : IsPlainRule a
  pub own : arg_by_id rules a.id ≡ Some a
  pub defaults : values_fault a a.defaults ≡ []

module _ (rules : List Rule) where
  -- the row passed, if its id is that of one of the arguments
  abbrev pub IsPassed : Row → Type 0
  IsPassed r = IfSome (arg_by_id rules r.id) (λ a. IsPassedBy a r)

  abbrev pub ArePassed : List Row → Type 0
  ArePassed [] = Unit {0}
  ArePassed (r ∷ rs) = IsPassed r × ArePassed rs

  abbrev pub AreKnown : List Rule → Type 0
  AreKnown [] = Unit {0}
  AreKnown (a ∷ rest) = IsKnown rules a × AreKnown rest

  found_known : (test : Rule → Bool) (c : List Rule) → AreKnown c → IfSome (find test c) (IsKnown rules)
  found_known test [] all = tt
  found_known test (a ∷ rest) all = by (found_known test rest all.1) (test a)
    where
      by : IfSome (find test rest) (IsKnown rules) → (b : Bool) → IfSome (if b then Some a else find test rest) (IsKnown rules)
      by below true = all.0
      by below false = below

  joined : (xs ys : List Row) → ArePassed xs → ArePassed ys → ArePassed (xs ++ ys)
  joined [] ys f g = g
  joined (x ∷ xs) ys f g = (f.0, joined xs ys f.1 g)

  at_row_passed : (id : Text) (change : Row → List Row) (missing rows : List Row) → ((r : Row) → r.id ≡ id → IsPassed r → ArePassed (change r)) → ArePassed missing → ArePassed rows → ArePassed (at_row id change missing rows)
  at_row_passed id change missing [] changed m f = m
  at_row_passed id change missing (r ∷ rs) changed m f = by (at_row_passed id change missing rs changed m f.1) (bytes_eq r.id id) refl
    where
      by : ArePassed (at_row id change missing rs) → (b : Bool) → bytes_eq r.id id ≡ b → ArePassed (if b then change r ++ rs else r ∷ at_row id change missing rs)
      by below true same = joined (change r) rs (changed r ((bytes_eq-Decides r.id id).0 same) f.0) f.1
      by below false other = (f.0, below)

  with_values_passed : (a : Rule) (s : ValueSource) (values : List Text) (rows : List Row) → IsKnown rules a → HasValue values → values_fault a values ≡ [] → ArePassed rows → ArePassed (with_values a.id (reading_by a) s values rows)
  with_values_passed a s values rows known has accepted f =
      at_row_passed a.id (more_values s values) _ rows changed (of_some (λ a. IsPassedBy a _) _ a known.own (record { has = has; accepted = accepted; reading = refl }), tt) f
    where
      changed : (r : Row) → r.id ≡ a.id → IsPassed r → ArePassed (more_values s values r)
      changed r same h =
          let own : arg_by_id rules r.id ≡ Some a = ap (λ (id : Text). arg_by_id rules id) same ∙ known.own in
          let was = at_some (λ a. IsPassedBy a r) _ a own h in (
            of_some (λ a. IsPassedBy a _) _ a own (record {
              has = more_value r.values values was.has;
              accepted = both_accepted a.ignore_case _ r.values values was.accepted accepted;
              reading = was.reading;
            }),
            tt,
          )

  without_passed : (id : Text) (rows : List Row) → ArePassed rows → ArePassed (without id rows)
  without_passed id rows f = at_row_passed id (λ _. []) [] rows (λ r same h. tt) tt f

  -- ---- one use of an argument

  none_too_few : (least most : ℕ) → least ≡ 1 → range_kinds least most 0 ≡ [] → ⊥
  none_too_few least most one e = let bad : range_kinds 1 most 0 ≡ [] = subst (λ n. range_kinds n most 0 ≡ []) one e in cc

  replaced_passed : (a : Rule) (values : List Text) (rows : List Row) → IsKnown rules a → HasValue values → values_fault a values ≡ [] → ArePassed rows → ArePassed (with_values a.id (reading_by a) CommandLine values (without a.id rows))
  replaced_passed a values rows known has accepted f = with_values_passed a CommandLine values (without a.id rows) known has accepted (without_passed a.id rows f)

  replacing_passed : (action : ArgAction) (again : Bool) (a : Rule) (values : List Text) (rows : List Row) → Replaces action → IsKnown rules a → HasValue values → action_fault action again a values rows ≡ [] → ArePassed rows → ArePassed (used_as action a.id (reading_by a) values rows)
  replacing_passed Set again a values rows replaces known has e f = replaced_passed a values rows known has (both_pass _ _ e).1 f
  replacing_passed SetTrue again a values rows replaces known has e f = replaced_passed a values rows known has (both_pass _ _ e).1 f
  replacing_passed _ again a values rows replaces known has e f = absurd replaces

  or_missing : (a : Rule) (values : List Text) → HasValue a.missing → HasValue (values_or_missing a values)
  or_missing a [] h = h
  or_missing a (v ∷ vs) h = tt

  pub used_passed : (again : Bool) (a : Rule) (values : List Text) (rows : List Row) → IsKnown rules a → use_fault again a values rows ≡ [] → ArePassed rows → ArePassed (used a values rows)
  used_passed again a values rows known e f = by values known.plain (both_pass _ _ e)
    where
      by : (values : List Text) → IsPlainRule a → (range_kinds (unwrap_or_range a.range).start_inclusive (most_values a) (length values) ≡ []) × (action_fault (action_of a) again a (values_or_missing a values) rows ≡ []) → ArePassed (used a values rows)
      by [] (inl (replaces, inl one)) p = absurd (none_too_few (unwrap_or_range a.range).start_inclusive (most_values a) one p.0)
      by (v ∷ vs) (inl (replaces, inl one)) p = replacing_passed (action_of a) again a (v ∷ vs) rows replaces known tt p.1 f
      by values (inl (replaces, inr has)) p = replacing_passed (action_of a) again a (values_or_missing a values) rows replaces known (or_missing a values has) p.1 f
      by values (inr help) p = subst (λ x. ArePassed (used_as x a.id (reading_by a) (values_or_missing a values) rows)) (sym help) f

  default_passed : (rows : List Row) (a : Rule) → IsKnown rules a → ArePassed rows → ArePassed (with_default rows a)
  default_passed rows a known f = by (has_row a.id rows)
    where
      given : (values : List Text) → values_fault a values ≡ [] → ArePassed (default_rows a.id (reading_by a) values rows)
      given [] e = f
      given (v ∷ vs) e = with_values_passed a DefaultValue (v ∷ vs) rows known tt e f

      by : (b : Bool) → ArePassed (if b then rows else default_rows a.id (reading_by a) a.defaults rows)
      by true = f
      by false = given a.defaults known.defaults

  defaults_passed : (rows : List Row) (c : List Rule) → AreKnown c → ArePassed rows → ArePassed (fold with_default rows c)
  defaults_passed rows [] all f = f
  defaults_passed rows (a ∷ rest) all f = defaults_passed (with_default rows a) rest all.1 (default_passed rows a all.0 f)

-- ---- a walk over the words

module _ (s : Shape) (all : AreKnown s.rules s.rules) where
  abbrev again : Bool
  again = s.args_override_self

  used_by_id_passed : (o : Option Rule) (values : List Text) (rows : List Row) → IfSome o (IsKnown s.rules) → option_map_or (λ a. use_fault again a values rows) o [] ≡ [] → ArePassed s.rules rows → ArePassed s.rules (used_by_id o values rows)
  used_by_id_passed None values rows known e f = f
  used_by_id_passed (Some a) values rows known e f = used_passed s.rules again a values rows known e f

  settled_passed : (h : Held) → settle_fault s.rules again h ≡ [] → ArePassed s.rules h.rows → ArePassed s.rules (settled s.rules h).rows
  settled_passed h e f = by h.pending e
    where
      by : (p : Option (Text × List Text)) → option_map_or (λ p. option_map_or (λ a. use_fault again a p.1 h.rows) (arg_by_id s.rules p.0) []) p [] ≡ [] → ArePassed s.rules (settled_rows s.rules p h.rows)
      by None e = f
      by (Some p) e = used_by_id_passed (arg_by_id s.rules p.0) p.1 h.rows (found_known s.rules _ s.rules all) e f

  reacted_passed : (a : Rule) (values : List Text) (h : Held) → IsKnown s.rules a → react_fault s.rules again a values h ≡ [] → ArePassed s.rules h.rows → ArePassed s.rules (reacted s.rules a values h).rows
  reacted_passed a values h known e f =
      let p = both_pass (settle_fault s.rules again h) (use_fault again a values (settled s.rules h).rows) e in
      used_passed s.rules again a values (settled s.rules h).rows known p.1 (settled_passed h p.0 f)

  option_passed : (a : Rule) (v : Option Text) (h : Held) → IsKnown s.rules a → option_fault s.rules again a v h ≡ [] → ArePassed s.rules h.rows → ArePassed s.rules (option_met s.rules a v h).0.rows
  option_passed a (Some v) h known e f = reacted_passed a (v ∷ []) h known e f
  option_passed a None h known e f = settled_passed h e f

  long_passed : (o : Option Rule) (v : Option Text) (h : Held) → IfSome o (IsKnown s.rules) → long_fault s.rules again o v h ≡ [] → ArePassed s.rules h.rows → ArePassed s.rules (long_met s.rules o v h).0.rows
  long_passed None v h known e f = f
  long_passed (Some a) v h known e f = by (takes_values a) v e
    where
      by : (b : Bool) (v : Option Text) → (if b then option_fault s.rules again a v h else (if is_some v then TooManyValues ∷ [] else react_fault s.rules again a [] h)) ≡ []
          → ArePassed s.rules (if b then option_met s.rules a v h else flag_met s.rules a v h).0.rows
      by true v e = option_passed a v h known e f
      by false (Some v) e = f
      by false None e = reacted_passed a [] h known e f

  short_passed : (o : Option Rule) (rest : Text) (h : Held) (goes_on : Held → Held × Outcome) (fails : Held → Kinds) → IfSome o (IsKnown s.rules)
      → ((k : Held) → fails k ≡ [] → ArePassed s.rules k.rows → ArePassed s.rules (goes_on k).0.rows) → short_fault s.rules again o rest h fails ≡ [] → ArePassed s.rules h.rows → ArePassed s.rules (short_met s.rules o rest h goes_on).0.rows
  short_passed None rest h goes_on fails known on e f = f
  short_passed (Some a) rest h goes_on fails known on e f = by (takes_values a) e
    where
      by : (b : Bool) → (if b then option_fault s.rules again a (attached_value rest) h else or_else (react_fault s.rules again a [] h) (fails (reacted s.rules a [] h))) ≡ []
          → ArePassed s.rules (if b then option_met s.rules a (attached_value rest) h else goes_on (reacted s.rules a [] h)).0.rows
      by true e = option_passed a (attached_value rest) h known e f
      by false e =
          let p = both_pass (react_fault s.rules again a [] h) (fails (reacted s.rules a [] h)) e in
          on (reacted s.rules a [] h) p.1 (reacted_passed a [] h known p.0 f)

  bundle_passed : (k : ℕ) (flags : Text) (skip : ℕ) (so_far : Outcome) (h : Held) → flags_fault s.rules again k flags skip h ≡ [] → ArePassed s.rules h.rows → ArePassed s.rules (bundle_met s.rules k flags skip so_far h).0.rows
  unfolding flags_fault bundle_met
  bundle_passed zero flags skip so_far h e f = f
  bundle_passed (suc k) flags skip so_far h e f = step (λ flags skip so_far h e f. bundle_passed k flags skip so_far h e f) (slice_get (chars flags) 0) skip e
    where
      step : ((flags : Text) (skip : ℕ) (so_far : Outcome) (h : Held) → flags_fault s.rules again k flags skip h ≡ [] → ArePassed s.rules h.rows → ArePassed s.rules (bundle_met s.rules k flags skip so_far h).0.rows)
          → (o : Option ℕ) (skip : ℕ) → bundle_step_fault s.rules again o flags skip h (flags_fault s.rules again k) ≡ [] → ArePassed s.rules (bundle_step s.rules o flags skip so_far h (bundle_met s.rules k)).0.rows
      step on None skip e = f
      step on (Some x) zero e =
          let rest = drop (length (encode_utf8 x)) flags in
          short_passed (arg_by_short s.rules x) rest h (bundle_met s.rules k rest 0 done) (flags_fault s.rules again k rest 0) (found_known s.rules _ s.rules all) (λ held e f. on rest 0 done held e f) e f
      step on (Some x) (suc skip) e = on (drop (length (encode_utf8 x)) flags) skip so_far h e f

  plain_passed : (waiting : Waiting) (word : Text) (h : Held) → ArePassed s.rules h.rows → ArePassed s.rules (plain_word s.rules waiting word h).0.rows
  plain_passed idle word h f = f
  plain_passed positional word h f = f
  plain_passed (option id) word h f = by (arg_by_id s.rules id)
    where
      by : (o : Option Rule) → ArePassed s.rules (option_word o id word h).0.rows
      by None = f
      by (Some a) = f

  after_flag_passed : (waiting : Waiting) (word : Text) (h : Held) (outcome : Outcome) → ArePassed s.rules h.rows → ArePassed s.rules (after_flag s.rules waiting word h outcome).0.rows
  after_flag_passed waiting word h done f = f
  after_flag_passed waiting word h (waits id) f = f
  after_flag_passed waiting word h plain f = plain_passed waiting word h f
  after_flag_passed waiting word h refused f = plain_passed waiting word h f

  short_word_passed : (waiting : Waiting) (word : Text) (o : Option Text) (h : Held) → option_map_or (λ flags. bundle_fault s.rules again flags h) o [] ≡ [] → ArePassed s.rules h.rows → ArePassed s.rules (short_or_plain s.rules waiting word o h).0.rows
  short_word_passed waiting word None h e f = plain_passed waiting word h f
  short_word_passed waiting word (Some flags) h e f = after_flag_passed waiting word _ _ (bundle_passed (length flags) flags h.skip plain (record h { skip = 0 }) e f)

  flag_word_passed : (waiting : Waiting) (word : Text) (o : Option (Text × Option Text)) (h : Held) → flag_word_fault s.rules again o word h ≡ [] → ArePassed s.rules h.rows → ArePassed s.rules (long_or_other s.rules waiting word o h).0.rows
  flag_word_passed waiting word None h e f = short_word_passed waiting word (short_of word) h e f
  flag_word_passed waiting word (Some p) h e f = after_flag_passed waiting word _ _ (long_passed (arg_by_long s.rules p.0) p.1 h (found_known s.rules _ s.rules all) e f)

  other_passed : (o : Option Text) (waiting : Waiting) (position : ℕ) (word : Text) (h : Held) → other_fault s o word h ≡ [] → ArePassed s.rules h.rows → ArePassed s.rules (subcommand_or_other s.rules o waiting position word h).0.rows
  other_passed (Some name) waiting position word h e f = f
  other_passed None waiting position word h e f = by (bytes_eq word (45 ∷ 45 ∷ [])) e
    where
      by : (b : Bool) → (if b then [] else flag_word_fault s.rules again (long_of word) word h) ≡ [] → ArePassed s.rules (if b then (h, trailing position) else long_or_other s.rules waiting word (long_of word) h).0.rows
      by true e = f
      by false e = flag_word_passed waiting word (long_of word) h e f

  met_passed : (names : Names) (is_trailing : Bool) (waiting : Waiting) (position : ℕ) (word : Text) (h : Held) → word_fault s names is_trailing waiting word h ≡ [] → ArePassed s.rules h.rows
      → ArePassed s.rules (word_met s.rules names is_trailing waiting position word h).0.rows
  met_passed names true waiting position word h e f = f
  met_passed names false waiting position word h e f = other_passed (subcommand_met names waiting word) waiting position word h e f

  step_passed : (word : Text) (w : Walk) (h : Held) (step : Step) → step_fault s w.position h step ≡ [] → ArePassed s.rules h.rows → ArePassed s.rules (after_step s.rules word w h step).held.rows
  step_passed word w h (next waiting) e f = f
  step_passed word w h (trailing position) e f = f
  step_passed word w h (subcommand name) e f = f
  step_passed word w h value e f = by (arg_by_index s.rules w.position) e
    where
      held_by : (a : Rule) (b : Bool) → (if b then [] else settle_fault s.rules again h) ≡ [] → ArePassed s.rules (pushed a.id word (if b then h else settled s.rules h)).rows
      held_by a true e = f
      held_by a false e = settled_passed h e f

      by : (o : Option Rule) → option_map_or (λ a. positional_fault s.rules again a h) o (stray_fault s) ≡ [] → ArePassed s.rules (to_positional s.rules o word w h).held.rows
      by None e = f
      by (Some a) e = held_by a (is_pending a h.pending && takes_several a) e

  turn_passed : (names : Names) (w : Walk) (word : Text) → turn_fault s names w word ≡ [] → ArePassed s.rules w.held.rows → ArePassed s.rules (walked s.rules names w word).held.rows
  unfolding walked
  turn_passed names w word e f = by w.stopped e
    where
      met : Held × Step
      met = word_met s.rules names w.is_trailing w.waiting w.position word w.held

      by : (o : Option (Text × List Text)) → (if is_some o then [] else or_else (word_fault s names w.is_trailing w.waiting word w.held) (step_fault s w.position met.0 met.1)) ≡ []
          → ArePassed s.rules (walked_from s.rules names o w word).held.rows
      by (Some p) e = f
      by None e =
          let p = both_pass (word_fault s names w.is_trailing w.waiting word w.held) (step_fault s w.position met.0 met.1) e in
          step_passed word w met.0 met.1 p.1 (met_passed names w.is_trailing w.waiting w.position word w.held p.0 f)

  walk_passed : (names : Names) (w : Walk) (words : List Text) → walk_fault s names w words ≡ [] → ArePassed s.rules w.held.rows → ArePassed s.rules (fold (walked s.rules names) w words).held.rows
  unfolding walk_fault
  walk_passed names w [] e f = f
  walk_passed names w (word ∷ rest) e f =
      let p = both_pass (turn_fault s names w word) (walk_fault s names (walked s.rules names w word) rest) e in
      walk_passed names (walked s.rules names w word) rest p.1 (turn_passed names w word p.0 f)

-- ---- one level of the command line

-- what each step of a level that passed says
pub level_steps : (s : Shape) (names : Names) (words : List Text) (has : Bool) (below : Kinds) → level_fault s names nothing_held words has below ≡ []
    → (walk_fault s names (walk_from nothing_held) words ≡ []) × (below ≡ []) × (settle_fault s.rules s.args_override_self (walk s.rules names nothing_held words).held ≡ [])
    × (check_fault s (finished s.rules (walk s.rules names nothing_held words).held) has ≡ [])
level_steps s names words has below e =
    let p = both_pass _ _ e in
    let q = both_pass _ _ p.1 in
    let r = both_pass _ _ q.1 in
    let t = both_pass _ _ r.1 in
    (p.0, q.0, r.0, t.1)

pub level_passed : (s : Shape) (names : Names) (words : List Text) (has : Bool) (below : Kinds) → AreKnown s.rules s.rules → level_fault s names nothing_held words has below ≡ []
    → ArePassed s.rules (finished s.rules (walk s.rules names nothing_held words).held)
level_passed s names words has below all e =
    let p = level_steps s names words has below e in
    let end = (walk s.rules names nothing_held words).held in
    defaults_passed s.rules (settled s.rules end).rows s.rules all (settled_passed s all end p.2 (walk_passed s all names (walk_from nothing_held) words p.0 tt))
