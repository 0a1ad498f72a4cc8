-- Lines over a world that is lent to a session. After the loan the world is as the last call left
-- it, since each call keeps the reference.
use Rattle.std.proofs.Common.{◌≡◌, ℕ, Bool, true, false, List, [], Option, Result, refl, ap, subst, ◌∙◌}
use Rattle.std.specs.Bool.{MatchBool}
use Rattle.features.specs.declared.actors.Subject.{Subject}
use Rattle.features.specs.declared.rows.Change.{Change}
use Rattle.line_streams.specs.declared.streams.ServeFault.{ServeFault}
use Rattle.session_lines.specs.Desks.{Answers, Desk, desk}
use Rattle.line_streams.specs.Lines.{is_too_long}
use Rattle.session_lines.specs.Replies.{SaidData}
use Rattle.session_lines.specs.Services.{Call, no_keys}
use Rattle.scripts.specs.Services.{ServesCall, solo_subject}
use Rattle.session_lines.specs.Serving.{Calls, IsPassedOver, DeskTells, Replies}
use Rattle.scripts.specs.States.{IsIdle, SoloState}
use Rattle.line_streams.specs.Streams.{Ran}
use Rattle.line_streams.specs.declared.streams.Next.{Next}
use Rattle.session_lines.proofs.DeskLemmas.{line_keeps, line_seen}
use Rattle.scripts.proofs.KeepLemmas.{StaysIdle, call_idle}
use Rattle.session_lines.proofs.ServingLemmas.{calls_keep}
use Rattle.line_streams.proofs.StreamLemmas.{ran_as}

-- a service that is seen as another, and keeps its name at each call
module _ {S T N : Type 0} (see : S → T) (name : S → N) (subject_of : T → Option Subject) (lent : Call → S → S → SaidData → Type 0) (shown : Call → T → T → SaidData → Type 0)
    (named : (call : Call) (old new : S) (said : SaidData) → lent call old new said → name new ≡ name old)
    (shows : (call : Call) (old new : S) (said : SaidData) → lent call old new said → shown call (see old) (see new) said) where
  abbrev asks : S → Option Subject
  asks s = subject_of (see s)

  -- ---- one line

  pub session_shown : (text : List ℕ) (old new : Desk S) (said : SaidData) (before after : List Change) (begins ends : T) → Answers asks lent text old new said
      → old.staged ≡ before → see old.service ≡ begins → new.staged ≡ after → (name new.service ≡ name old.service → see new.service ≡ ends)
      → Answers subject_of shown text (desk before begins) (desk after ends) said
  session_shown text old new said before after begins ends h staged stands left lent_ends =
      let kept = line_keeps asks lent (λ (a b : S). name b ≡ name a) (λ s. refl) named text old new said h in
      let old_is : desk old.staged (see old.service) ≡ desk before begins = ap (λ (xs : List Change). desk xs (see old.service)) staged ∙ ap (λ (s : T). desk before s) stands in
      let new_is : desk new.staged (see new.service) ≡ desk after ends = ap (λ (xs : List Change). desk xs (see new.service)) left ∙ ap (λ (s : T). desk after s) (lent_ends kept) in
      let told = line_seen see subject_of lent shown shows text old new said h in
      subst (λ (d : Desk T). Answers subject_of shown text (desk before begins) d said) new_is (subst (λ (d : Desk T). Answers subject_of shown text d (desk new.staged (see new.service)) said) old_is told)

  -- ---- a run

  abbrev seen : Desk S → Desk T
  seen d = desk d.staged (see d.service)

  line_told : (text : List ℕ) (old new : Desk S) (said : List ℕ) (next : Next) → DeskTells no_keys asks lent text old new said next → DeskTells no_keys subject_of shown text (seen old) (seen new) said next
  line_told text old new said next h = go (is_too_long text) h
    where
      go : (b : Bool) → MatchBool b (IsPassedOver old new said next) (Replies no_keys asks lent text old new said next)
          → MatchBool b (IsPassedOver (seen old) (seen new) said next) (Replies no_keys subject_of shown text (seen old) (seen new) said next)
      go true h = (ap seen h.0, h.1, h.2)
      go false h = record { reply = h.reply; answers = line_seen see subject_of lent shown shows text old new h.reply h.answers; shows = h.shows; ends = h.ends }

  run_seen : {O : Type 0} (r : Result O ServeFault) (old new : Desk S) (input left a b : Option (List ℕ)) → Ran (DeskTells no_keys asks lent) r old new input left a b
      → Ran (DeskTells no_keys subject_of shown) r (seen old) (seen new) input left a b
  run_seen r old new input left a b run = ran_as seen (DeskTells no_keys asks lent) (DeskTells no_keys subject_of shown) line_told r old new input left a b run

  calls_name : (calls : List (Call × SaidData)) (old new : S) → Calls lent calls old new → name new ≡ name old
  calls_name calls old new h = calls_keep no_keys asks lent (λ (a b : S). name b ≡ name a) (λ s. refl) (λ a b c first more. more ∙ first) named calls old new h

  -- a run; afterwards the world is as the loan leaves it
  pub run_shown : {O : Type 0} (r : Result O ServeFault) (old new : S) (staged : List Change) (begins ends : T) (input left a b : Option (List ℕ))
      → ((calls : List (Call × SaidData)) × Calls lent calls old new) → see old ≡ begins → (name new ≡ name old → see new ≡ ends)
      → Ran (DeskTells no_keys asks lent) r (desk [] old) (desk staged new) input left a b
      → Ran (DeskTells no_keys subject_of shown) r (desk [] begins) (desk staged ends) input left a b
  run_shown r old new staged begins ends input left a b called stands lent_ends run =
      subst (λ (s : T). Ran (DeskTells no_keys subject_of shown) r (desk [] begins) (desk staged s) input left a b) (lent_ends (calls_name called.0 old new called.1))
      (subst (λ (s : T). Ran (DeskTells no_keys subject_of shown) r (desk [] s) (desk staged (see new)) input left a b) stands
      (run_seen r (desk [] old) (desk staged new) input left a b run))

  -- what each call keeps, a run keeps
  pub run_keeps : (Kept : T → T → Type 0) → ((s : T) → Kept s s) → ((a b c : T) → Kept a b → Kept b c → Kept a c)
      → ((call : Call) (a b : T) (said : SaidData) → shown call a b said → Kept a b) → (old new : S) (begins ends : T)
      → ((calls : List (Call × SaidData)) × Calls lent calls old new) → see old ≡ begins → (name new ≡ name old → see new ≡ ends) → Kept begins ends
  run_keeps Kept same chain each old new begins ends called stands lent_ends =
      subst (λ (s : T). Kept begins s) (lent_ends (calls_name called.0 old new called.1))
      (subst (λ (s : T). Kept s (see new)) stands
      (calls_keep no_keys asks lent (λ (a b : S). Kept (see a) (see b)) (λ s. same (see s)) (λ a b c first more. chain (see a) (see b) (see c) first more)
      (λ call a b said h. each call (see a) (see b) said (shows call a b said h)) called.0 old new called.1))

-- a run leaves no search and no transaction open, if none was open before it
pub run_idles : {S N : Type 0} (see : S → SoloState) (name : S → N) (lent : Call → S → S → SaidData → Type 0)
    → ((call : Call) (old new : S) (said : SaidData) → lent call old new said → name new ≡ name old)
    → ((call : Call) (old new : S) (said : SaidData) → lent call old new said → ServesCall call (see old) (see new) said) → (old new : S) (begins ends : SoloState)
    → ((calls : List (Call × SaidData)) × Calls lent calls old new) → see old ≡ begins → (name new ≡ name old → see new ≡ ends) → IsIdle begins.world → IsIdle ends.world
run_idles see name lent named shows old new begins ends called stands lent_ends =
    run_keeps see name solo_subject lent ServesCall named shows StaysIdle (λ s still. still) (λ a b c first more still. more (first still)) (λ call a b said h. call_idle call a b said h)
    old new begins ends called stands lent_ends
