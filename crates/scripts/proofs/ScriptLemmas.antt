-- Lines of a script, one at a time.
use Rattle.std.proofs.Common.{◌≡◌, ℕ, zero, suc, ◌+◌, ◌<◌, List, [], ◌∷◌, length, take, Option, None, Some, Result, Ok, Err, OnOk, IfErr, slice_set, slice_index_or, refl, ap, subst, ◌∙◌, arith}
use Rattle.std.specs.Io.KnownBytes.{Appends}
use Rattle.std.specs.Option.{IfSome}
use Rattle.std.proofs.lemmas.Bool.{lt-ltb}
use Rattle.scripts.specs.declared.scripts.TheConstants.{LABEL_LIMIT}
use Rattle.session_lines.specs.Printed.{said_text}
use Rattle.session_lines.specs.Replies.{SaidData}
use Rattle.plain_world.specs.States.{WorldData}
use Rattle.scripts.specs.Indexed.{IndexedScript, LineRuns}
use Rattle.scripts.specs.Scripts.{Manner, Script, SessionAnswers, fresh, script, place, with_label, IsScriptText, LabelTells, LineTells}
use Rattle.scripts.specs.States.{SessionState, session_in}
use Rattle.scripts.specs.Stepping.{AllDrop, AllEnd}
use Rattle.byte_streams.specs.Written.{Took}
use Rattle.line_streams.specs.Streams.{NeverEnds, OnMemory, Ran}
use Rattle.line_streams.specs.declared.streams.Next.{Next}
use Rattle.line_streams.specs.declared.streams.ServeFault.{ServeFault}
use Rattle.line_streams.specs.declared.streams.ServeFault.TheVariants.{Memory}
use Rattle.line_streams.proofs.StreamLemmas.{lines_told, ran_as}
use Rattle.scripts.proofs.IndexLemmas.{runs_plainly}

-- what a session answered is the reply to its label's line
pub label_told : {W : Type 0} (how : Manner W) (label text : List ℕ) (old : Script W) (world : W) (sessions : List SessionState) (reply : SaidData)
    → place label old.sessions < LABEL_LIMIT
    → ((session : SessionState) × (sessions ≡ slice_set (with_label label old.sessions) (place label old.sessions) session)
    × ((d : SessionState) → SessionAnswers how text (session_in (slice_index_or (with_label label old.sessions) (place label old.sessions) d) old.world) (session_in session world) reply))
    → LabelTells how label text old (script world sessions) (said_text label reply)
label_told how label text old world sessions reply room answered =
    rw (lt-ltb _ _ room) (record { session = answered.0; reply = reply; answers = answered.2 (fresh label); stays = answered.1; shows = refl })

-- a run over a world with its index is a run over its plain part
pub ran_plainly : {T : Type 0} (r : Result T ServeFault) (old new : IndexedScript) (input left a b : Option (List ℕ)) → Ran (NeverEnds LineRuns) r old new input left a b
    → Ran (NeverEnds LineTells) r (script old.world.plain old.sessions) (script new.world.plain new.sessions) input left a b
ran_plainly r old new input left a b run = ran_as (λ (s : IndexedScript). script s.world.plain s.sessions) (NeverEnds LineRuns) (NeverEnds LineTells) (λ line x y said next h. (runs_plainly line x y said h.0, h.1)) r old new input left a b run

-- a run that ends well has written the script text of all its known input
pub script_text_of : {T : Type 0} (r : Result T ServeFault) (world last end : WorldData) (sessions : List SessionState) (input left a b : Option (List ℕ)) → Ran (NeverEnds LineTells) r (script world []) (script last sessions) input left a b
    → AllDrop sessions last end → OnOk r (IfSome input (λ text. (said : List ℕ) × Appends a b said × IsScriptText world text end said))
script_text_of (Err e) world last end sessions input left a b run drops = tt
script_text_of (Ok done) world last end sessions None left a b run drops = tt
script_text_of {T = T} (Ok done) world last end sessions (Some text) left a b run drops =
    let ended : Result T ServeFault = Ok done in
    let told = lines_told LineTells ended (script world []) (script last sessions) (Some text) left a b run in
    (told.0, told.1, record { sessions = sessions; last = last; tells = told.2; drops = drops })

-- what happens to the sessions' open searches, one after another
module _ {W : Type 0} (Ends : Option ℕ → Option ℕ → W → W → Type 0) where
  none_end : (xs : List SessionState) (w : W) → AllEnd Ends (take zero xs) w w
  none_end [] w = refl
  none_end (x ∷ xs) w = refl

  ends_next : (xs : List SessionState) (i : ℕ) (x : SessionState) (w mid new : W) → i < length xs → x ≡ slice_index_or xs i x → AllEnd Ends (take i xs) w mid → Ends x.seat x.search mid new
      → AllEnd Ends (take (suc i) xs) w new
  ends_next [] i x w mid new lt e h d = absurd (omega (arith, lt))
  ends_next (y ∷ xs) zero x w mid new lt e h d =
      (new, subst (λ (z : SessionState). Ends z.seat z.search w new) e (subst (λ (v : W). Ends x.seat x.search v new) h d), none_end xs new)
  ends_next (y ∷ xs) (suc i) x w mid new lt e h d = (h.0, h.1, ends_next xs i x h.0 mid new (omega (arith, lt)) e h.2 d)

  -- the same for one more session
  pub ends_more : (xs : List SessionState) (i : ℕ) (x : SessionState) (w mid new : W) → i < length xs → x ≡ slice_index_or xs i x → AllEnd Ends (take i xs) w mid → Ends x.seat x.search mid new
      → AllEnd Ends (take (i + 1) xs) w new
  ends_more xs i x w mid new lt e h d =
      let next : suc i ≡ i + 1 = omega arith in
      subst (λ (n : ℕ). AllEnd Ends (take n xs) w new) next (ends_next xs i x w mid new lt e h d)

-- a run that got no memory for its buffers has no sessions, and so drops nothing
pub untouched_so : {W D T : Type 0} (sessions : D → List SessionState) (tells : List ℕ → W × D → W × D → List ℕ → Next → Type 0) (r : Result T ServeFault) (old new : W × D) (end : W) (input left a b : Option (List ℕ)) (P Q : Type 0)
    → Ran tells r old new input left a b → sessions old.1 ≡ [] → (sessions new.1 ≡ [] → end ≡ new.0) → IfErr r (λ fault. OnMemory fault (P × Q)) → IfErr r (λ fault. OnMemory fault ((end ≡ old.0) × P × Q))
untouched_so sessions tells (Err (Memory refused)) old new end input left a b P Q run none same rest =
    let kept : sessions new.1 ≡ [] = ap (λ s. sessions s.1) run.0 ∙ none in
    (same kept ∙ ap (λ s. s.0) run.0, rest.0, rest.1)
untouched_so sessions tells _ old new end input left a b P Q run none same rest = tt
