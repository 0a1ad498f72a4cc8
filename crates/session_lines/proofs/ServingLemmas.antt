-- A run of a session by itself is a sequence of calls of its service; and the text of a run.
use Rattle.std.proofs.Common.{◌≡◌, ℕ, Bool, true, false, List, [], ◌∷◌, Option, None, Some, Result, Ok, Err, refl, sym, subst, OnOk, is_some, MatchResult}
use Rattle.std.specs.Bool.{MatchBool}
use Rattle.features.specs.declared.actors.Subject.{Subject}
use Rattle.features.specs.declared.rows.Change.{Change}
use Rattle.line_streams.specs.declared.streams.ServeFault.{ServeFault}
use Rattle.line_streams.specs.declared.streams.Next.{Next}
use Rattle.line_streams.specs.Lines.{is_too_long}
use Rattle.session_lines.specs.Replies.{SaidData}
use Rattle.session_lines.specs.Services.{Call}
use Rattle.session_lines.specs.Serving as serving
use Rattle.session_lines.specs.Serving.{Calls, IsServedText}
use Rattle.session_lines.specs.Desks.{Answers, Desk, OnlySays, desk}
use Rattle.session_lines.specs.Opening.{opened}
use Rattle.session_lines.specs.declared.faults.LineFault.{LineFault}
use Rattle.session_lines.specs.declared.replies.Reply.TheVariants.{Error}
use Rattle.credentials.specs.declared.keys.Key.{Key}
use Rattle.std.specs.Result.{IsErrAnd}
use Rattle.memory.specs.declared.no_memory.NoMemory.{NoMemory}
use Rattle.line_streams.specs.declared.streams.ServeFault.TheVariants.{Memory}
use Rattle.line_streams.specs.declared.streams.TheConstants.{READ_LIMIT}
use Rattle.line_streams.specs.Streams.{Ran, RanOn, with_begun}
use Rattle.line_streams.proofs.LeavingLemmas.{left_by}
use Rattle.line_streams.proofs.StreamLemmas.{ran_first, run_keeps, stream_told}
use Rattle.session_lines.proofs.DeskLemmas.{line_keeps}
use Rattle.std.specs.Io.KnownBytes.{Appends}
use Rattle.std.specs.Option.{IfSome}

-- ---- calls of a service

module _ {S : Type 0} (keys_of : S → List Key) (subject_of : S → Option Subject) (serves : Call → S → S → SaidData → Type 0) where
  abbrev Called : S → S → Type 0
  Called old new = (calls : List (Call × SaidData)) × Calls serves calls old new

  called_on : (calls : List (Call × SaidData)) (a b c : S) → Calls serves calls a b → Called b c → Called a c
  called_on [] a b c first more = subst (λ (s : S). Called s c) first more
  called_on (call ∷ calls) a b c first more =
      let rest = called_on calls first.0 b c first.2 more in
      (call ∷ rest.0, (first.0, first.1, rest.1))

  called_then : (a b c : S) → Called a b → Called b c → Called a c
  called_then a b c first more = called_on first.0 a b c first.1 more

  called_once : (call : Call) (old new : S) (said : SaidData) → serves call old new said → Called old new
  called_once call old new said h = ((call, said) ∷ [], (new, h, refl))

  called_none : (s : S) → Called s s
  called_none s = ([], refl)

  -- a line that is answered, or one whose secret is wrong
  opened_line : (text : List ℕ) (old new : Desk S) (reply : SaidData) (line : Result (List ℕ) LineFault)
      → MatchResult line (λ line. Answers subject_of serves line old new reply) (λ fault. OnlySays (Error fault) old new reply) → Called old.service new.service
  opened_line text old new reply (Ok line) h = line_keeps subject_of serves Called called_none called_once line old new reply h
  opened_line text old new reply (Err fault) h = subst (λ (d : Desk S). Called old.service d.service) (sym h.0) (called_none old.service)

  served_line : (text : List ℕ) (old new : Desk S) (said : List ℕ) (next : Next) → serving.DeskTells keys_of subject_of serves text old new said next → Called old.service new.service
  served_line text old new said next told = go (is_too_long text) told
    where
      go : (b : Bool) → MatchBool b (serving.IsPassedOver old new said next) (serving.Replies keys_of subject_of serves text old new said next) → Called old.service new.service
      go true h = subst (λ (d : Desk S). Called old.service d.service) (sym h.0) (called_none old.service)
      go false h = opened_line text old new h.reply (opened (keys_of old.service) (is_some (subject_of old.service)) text) h.answers

  -- a run over a service is a sequence of its calls
  pub run_calls : {T : Type 0} (r : Result T ServeFault) (old new : Desk S) (input left a b : Option (List ℕ)) → Ran (serving.DeskTells keys_of subject_of serves) r old new input left a b → Called old.service new.service
  run_calls r old new input left a b run =
      run_keeps (serving.DeskTells keys_of subject_of serves) (λ (x y : Desk S). Called x.service y.service) (λ d. called_none d.service)
      (λ x y z first more. called_then x.service y.service z.service first more) served_line r old new input left a b run

  -- what each call keeps, a sequence of calls keeps
  module _ (Kept : S → S → Type 0) (same : (s : S) → Kept s s) (then : (a b c : S) → Kept a b → Kept b c → Kept a c)
      (each : (call : Call) (old new : S) (said : SaidData) → serves call old new said → Kept old new) where
    pub calls_keep : (calls : List (Call × SaidData)) (old new : S) → Calls serves calls old new → Kept old new
    calls_keep [] old new h = subst (λ (s : S). Kept old s) (sym h) (same old)
    calls_keep (call ∷ calls) old new h = then old h.0 new (each call.0 old h.0 call.1 h.1) (calls_keep calls h.0 new h.2)

-- ---- a session from its first line on

module _ {S : Type 0} (keys_of : S → List Key) (subject_of : S → Option Subject) (serves : Call → S → S → SaidData → Type 0) where
  -- a session in which nothing was staged, and no line had begun
  pub from_the_start : {T : Type 0} (r : Result T ServeFault) (service end : S) (first staged : List Change) (held : List ℕ) (input left a b : Option (List ℕ)) → first ≡ []
      → RanOn READ_LIMIT (serving.DeskTells keys_of subject_of serves) r (desk first service) (desk staged end) held (with_begun [] input) left a b
      → Ran (serving.DeskTells keys_of subject_of serves) r (desk [] service) (desk staged end) input left a b
  from_the_start r service end first staged held input left a b none ran =
      let run = ran_first (serving.DeskTells keys_of subject_of serves) READ_LIMIT r (desk first service) (desk staged end) held input left a b ran in
      rw none at run

  -- there was no memory for the line, and nothing was done
  pub out_of_memory : {T : Type 0} (r : Result T ServeFault) (refused : NoMemory) (service : S) (input a : Option (List ℕ)) → IsErrAnd r (λ fault. fault ≡ Memory refused)
      → Ran (serving.DeskTells keys_of subject_of serves) r (desk [] service) (desk [] service) input input a a
  out_of_memory {T} r refused service input a is =
      left_by r (Memory refused) (λ (r : Result T ServeFault). Ran (serving.DeskTells keys_of subject_of serves) r (desk [] service) (desk [] service) input input a a) is (refl, refl, refl)

-- ---- the text of a run

-- a run that ended well has written the text of all its known input
module _ {S : Type 0} (keys_of : S → List Key) (subject_of : S → Option Subject) (serves : Call → S → S → SaidData → Type 0) where
  pub served_text_of : {T : Type 0} (r : Result T ServeFault) (service end : S) (staged : List Change) (input left a b : Option (List ℕ)) → Ran (serving.DeskTells keys_of subject_of serves) r (desk [] service) (desk staged end) input left a b
      → OnOk r (IfSome input (λ text. (said : List ℕ) × Appends a b said × IsServedText keys_of subject_of serves service text end said))
  served_text_of (Err e) service end staged input left a b run = tt
  served_text_of (Ok done) service end staged None left a b run = tt
  served_text_of {T = T} (Ok done) service end staged (Some text) left a b run =
      let ended : Result T ServeFault = Ok done in
      let told = stream_told (serving.DeskTells keys_of subject_of serves) ended (desk [] service) (desk staged end) (Some text) left a b run in
      (told.0, told.1, record { staged = staged; tells = told.2 })
