-- What holds of a session's line over any service.
use Rattle.std.proofs.Common.{◌≡◌, ℕ, ◌==◌, Bool, true, false, List, length, Option, None, Some, MatchOption, Result, Ok, Err, MatchResult, is_some, sym, ap, subst, inl, inr}
use Rattle.std.specs.Bool.{MatchBool}
use Rattle.features.specs.declared.actors.Subject.{Subject}
use Rattle.policy_text.specs.Bytes.{document_of_bytes}
use Rattle.policy_documents.specs.Documents.{DocumentData}
use Rattle.policy_text.specs.declared.faults.TextFault.{TextFault}
use Rattle.session_lines.specs.declared.commands.Asking.{Asking}
use Rattle.session_lines.specs.declared.commands.Command.{Command}
use Rattle.session_lines.specs.declared.commands.Command.TheVariants as commands
use Rattle.session_lines.specs.declared.commands.Verb.{Verb}
use Rattle.session_lines.specs.declared.faults.LineFault.{LineFault}
use Rattle.session_lines.specs.declared.faults.LineFault.TheVariants.{BeforeHello, NothingStaged}
use Rattle.session_lines.specs.declared.replies.Reply.{Reply}
use Rattle.session_lines.specs.declared.replies.Reply.TheVariants.{Error, Memory}
use Rattle.session_lines.specs.Commands.{verb_for, arguments_at}
use Rattle.session_lines.specs.Desks.{OnlySays, GovernsLine, Obeys, Does, Answers, is_policy, left_of, question_of, Desk, desk}
use Rattle.session_lines.specs.Replies.{SaidData, policy_reply}
use Rattle.session_lines.specs.Services.{Call, Hello, Search, Commit, Govern, Explain, Roll, Leave}

-- ---- what every call keeps, every line keeps

module _ {S : Type 0} (subject_of : S → Option Subject) (serves : Call → S → S → SaidData → Type 0) (Kept : S → S → Type 0)
    (same : (s : S) → Kept s s) (each : (call : Call) (old new : S) (said : SaidData) → serves call old new said → Kept old new) where
  only_said : (due : Reply) (old new : Desk S) (said : SaidData) → OnlySays due old new said → Kept old.service new.service
  only_said due old new said h = subst (λ (d : Desk S). Kept old.service d.service) (sym h.0) (same old.service)

  closed : (old new : Desk S) (said : SaidData) (b : Bool)
      → MatchBool b (OnlySays (Error NothingStaged) old new said) ((new.staged ≡ left_of said old.staged) × serves (Commit old.staged) old.service new.service said) → Kept old.service new.service
  closed old new said true h = only_said (Error NothingStaged) old new said h
  closed old new said false h = each (Commit old.staged) old.service new.service said h.1

  asked : (asking : Asking) (old new : Desk S) (said : SaidData) (who : Option Subject)
      → MatchOption who (OnlySays (Error BeforeHello) old new said) (λ subject. (new.staged ≡ old.staged) × serves (Explain (question_of subject asking)) old.service new.service said) → Kept old.service new.service
  asked asking old new said None h = only_said (Error BeforeHello) old new said h
  asked asking old new said (Some subject) h = each (Explain (question_of subject asking)) old.service new.service said h.1

  governed : (text : List ℕ) (old new : Desk S) (said : SaidData) → GovernsLine serves text old new said → Kept old.service new.service
  governed text old new said (inl h) = subst (λ (d : Desk S). Kept old.service d.service) (sym h.2.0) (same old.service)
  governed text old new said (inr h) = go (document_of_bytes text) h
    where
      go : (r : Result DocumentData TextFault) → MatchResult r (λ document. (new.staged ≡ old.staged) × serves (Govern document) old.service new.service said) (λ fault. OnlySays (policy_reply fault) old new said) → Kept old.service new.service
      go (Ok document) h = each (Govern document) old.service new.service said h.1
      go (Err fault) h = only_said (policy_reply fault) old new said h

  obeyed : (command : Command) (old new : Desk S) (said : SaidData) → Obeys subject_of serves command old new said → Kept old.service new.service
  obeyed (commands.Hello name) old new said h = each (Hello name) old.service new.service said h.1
  obeyed (commands.Search window) old new said h = each (Search window) old.service new.service said h.1
  obeyed (commands.Stage change) old new said h = subst (λ (s : S). Kept old.service s) (sym h.0) (same old.service)
  obeyed commands.Commit old new said h = closed old new said (length old.staged == 0) h
  obeyed commands.Abort old new said h = subst (λ (d : Desk S). Kept old.service d.service) (sym h.0) (same old.service)
  obeyed (commands.Explain asking) old new said h = asked asking old new said (subject_of old.service) h
  obeyed commands.Roll old new said h = each Roll old.service new.service said h.1
  obeyed commands.Bye old new said h = each Leave old.service new.service said h.1

  done : (verb : Verb) (text : List ℕ) (old new : Desk S) (said : SaidData) → Does subject_of serves verb text old new said → Kept old.service new.service
  done verb text old new said h = go (is_policy verb) (arguments_at verb text) h
    where
      go : (b : Bool) (r : Result Command LineFault) → MatchBool b (GovernsLine serves text old new said) (MatchResult r (λ command. Obeys subject_of serves command old new said) (λ fault. OnlySays (Error fault) old new said)) → Kept old.service new.service
      go true r h = governed text old new said h
      go false (Ok command) h = obeyed command old new said h
      go false (Err fault) h = only_said (Error fault) old new said h

  pub line_keeps : (text : List ℕ) (old new : Desk S) (said : SaidData) → Answers subject_of serves text old new said → Kept old.service new.service
  line_keeps text old new said h = go (verb_for (is_some (subject_of old.service)) text) h
    where
      go : (r : Result (Verb × List ℕ) LineFault) → MatchResult r (λ verb. Does subject_of serves verb.0 verb.1 old new said) (λ fault. OnlySays (Error fault) old new said) → Kept old.service new.service
      go (Ok verb) h = done verb.0 verb.1 old new said h
      go (Err fault) h = only_said (Error fault) old new said h

-- ---- a service that is seen as another

module _ {S T : Type 0} (see : S → T) (subject_of : T → Option Subject) (serves : Call → S → S → SaidData → Type 0) (shown : Call → T → T → SaidData → Type 0)
    (each : (call : Call) (old new : S) (said : SaidData) → serves call old new said → shown call (see old) (see new) said) where
  abbrev seen : Desk S → Desk T
  seen d = desk d.staged (see d.service)

  only_seen : (due : Reply) (old new : Desk S) (said : SaidData) → OnlySays due old new said → OnlySays due (seen old) (seen new) said
  only_seen due old new said h = (ap (λ (d : Desk S). seen d) h.0, h.1)

  closed_seen : (old new : Desk S) (said : SaidData) (b : Bool)
      → MatchBool b (OnlySays (Error NothingStaged) old new said) ((new.staged ≡ left_of said old.staged) × serves (Commit old.staged) old.service new.service said)
      → MatchBool b (OnlySays (Error NothingStaged) (seen old) (seen new) said) ((new.staged ≡ left_of said old.staged) × shown (Commit old.staged) (see old.service) (see new.service) said)
  closed_seen old new said true h = only_seen (Error NothingStaged) old new said h
  closed_seen old new said false h = (h.0, each (Commit old.staged) old.service new.service said h.1)

  asked_seen : (asking : Asking) (old new : Desk S) (said : SaidData) (who : Option Subject)
      → MatchOption who (OnlySays (Error BeforeHello) old new said) (λ subject. (new.staged ≡ old.staged) × serves (Explain (question_of subject asking)) old.service new.service said)
      → MatchOption who (OnlySays (Error BeforeHello) (seen old) (seen new) said) (λ subject. (new.staged ≡ old.staged) × shown (Explain (question_of subject asking)) (see old.service) (see new.service) said)
  asked_seen asking old new said None h = only_seen (Error BeforeHello) old new said h
  asked_seen asking old new said (Some subject) h = (h.0, each (Explain (question_of subject asking)) old.service new.service said h.1)

  governed_seen : (text : List ℕ) (old new : Desk S) (said : SaidData) → GovernsLine serves text old new said → GovernsLine shown text (seen old) (seen new) said
  governed_seen text old new said (inl h) = inl (h.0, h.1, only_seen (Memory h.1) old new said h.2)
  governed_seen text old new said (inr h) = inr (go (document_of_bytes text) h)
    where
      go : (r : Result DocumentData TextFault) → MatchResult r (λ document. (new.staged ≡ old.staged) × serves (Govern document) old.service new.service said) (λ fault. OnlySays (policy_reply fault) old new said)
          → MatchResult r (λ document. (new.staged ≡ old.staged) × shown (Govern document) (see old.service) (see new.service) said) (λ fault. OnlySays (policy_reply fault) (seen old) (seen new) said)
      go (Ok document) h = (h.0, each (Govern document) old.service new.service said h.1)
      go (Err fault) h = only_seen (policy_reply fault) old new said h

  obeyed_seen : (command : Command) (old new : Desk S) (said : SaidData) → Obeys (λ s. subject_of (see s)) serves command old new said → Obeys subject_of shown command (seen old) (seen new) said
  obeyed_seen (commands.Hello name) old new said h = (h.0, each (Hello name) old.service new.service said h.1)
  obeyed_seen (commands.Search window) old new said h = (h.0, each (Search window) old.service new.service said h.1)
  obeyed_seen (commands.Stage change) old new said h = (ap see h.0, h.1, h.2, h.3)
  obeyed_seen commands.Commit old new said h = closed_seen old new said (length old.staged == 0) h
  obeyed_seen commands.Abort old new said h = (ap (λ (d : Desk S). seen d) h.0, h.1)
  obeyed_seen (commands.Explain asking) old new said h = asked_seen asking old new said (subject_of (see old.service)) h
  obeyed_seen commands.Roll old new said h = (h.0, each Roll old.service new.service said h.1)
  obeyed_seen commands.Bye old new said h = (h.0, each Leave old.service new.service said h.1)

  done_seen : (verb : Verb) (text : List ℕ) (old new : Desk S) (said : SaidData) → Does (λ s. subject_of (see s)) serves verb text old new said → Does subject_of shown verb text (seen old) (seen new) said
  done_seen verb text old new said h = go (is_policy verb) (arguments_at verb text) h
    where
      go : (b : Bool) (r : Result Command LineFault) → MatchBool b (GovernsLine serves text old new said) (MatchResult r (λ command. Obeys (λ s. subject_of (see s)) serves command old new said) (λ fault. OnlySays (Error fault) old new said))
          → MatchBool b (GovernsLine shown text (seen old) (seen new) said) (MatchResult r (λ command. Obeys subject_of shown command (seen old) (seen new) said) (λ fault. OnlySays (Error fault) (seen old) (seen new) said))
      go true r h = governed_seen text old new said h
      go false (Ok command) h = obeyed_seen command old new said h
      go false (Err fault) h = only_seen (Error fault) old new said h

  pub line_seen : (text : List ℕ) (old new : Desk S) (said : SaidData) → Answers (λ s. subject_of (see s)) serves text old new said → Answers subject_of shown text (seen old) (seen new) said
  line_seen text old new said h = go (verb_for (is_some (subject_of (see old.service))) text) h
    where
      go : (r : Result (Verb × List ℕ) LineFault) → MatchResult r (λ verb. Does (λ s. subject_of (see s)) serves verb.0 verb.1 old new said) (λ fault. OnlySays (Error fault) old new said)
          → MatchResult r (λ verb. Does subject_of shown verb.0 verb.1 (seen old) (seen new) said) (λ fault. OnlySays (Error fault) (seen old) (seen new) said)
      go (Ok verb) h = done_seen verb.0 verb.1 old new said h
      go (Err fault) h = only_seen (Error fault) old new said h
