-- Where an answer, a governed edition and a piece come from.
use Rattle.std.proofs.Common.{◌≡◌, ℕ, IsTrue, List, refl, sym, ap, subst, ◌∙◌}
use Rattle.plane.specs.declared.point.Point.{Point}
use Rattle.features.specs.declared.actors.Subject.{Subject}
use Rattle.audit_trail.specs.Legal.{IsSeated}
use Rattle.policy_documents.specs.Documents.{DocumentData}
use Rattle.plain_world.specs.Admitting.{may_finish, may_answer, may_govern, may_roll}
use Rattle.plain_world.specs.Answers.{AnswerData}
use Rattle.plain_world.specs.Events.{Event, Finish, Answer, Govern, Roll, Reply, Number, Rows, TakenOut, Happens, Run}
use Rattle.plain_world.specs.Laws.{IsExact, IsAnswerTo, Accounts, IsStewards, LeadsOn}
use Rattle.plain_world.specs.Rolls.{RolledData}
use Rattle.plain_world.specs.States.{WorldData, IsSoundWorld}
use Rattle.plain_world.proofs.AdmittedLemmas.{admitted, finisher, governor, roller}
use Rattle.plain_world.proofs.RunLemmas.{answer_seated, sound_run}

-- after any run the trail accounts for the state
pub accounts : (old mid : WorldData) (before : List (Event × Reply)) → IsSoundWorld old → Run old before mid → Accounts mid
accounts old mid before h run = let sound = sound_run old before mid run h in (sound.legal, sound.replayed)

rows_same : (a b : AnswerData) → Rows a ≡ Rows b → a ≡ b
rows_same a b e = cc

number_same : (a b : ℕ) → Number a ≡ Number b → a ≡ b
number_same a b e = cc

piece_same : (a b : RolledData) → TakenOut a ≡ TakenOut b → a ≡ b
piece_same a b e = cc

pub answer_exact : (seat number : ℕ) (mid new : WorldData) (answer : AnswerData) → Happens (Finish seat number) mid new (Rows answer) → IsExact seat number mid answer
answer_exact seat number mid new answer happens =
    let d = admitted (may_finish seat number mid) mid new (Rows answer) _ refl happens in
    let who = finisher seat number mid d.0 d.1 in
    subst (λ (a : AnswerData). IsExact seat number mid a) (sym (rows_same answer _ d.2.2))
    (record {
      search = d.0.1;
      running = who.running;
      own = who.own;
      ready = who.ready;
      seated = who.seated;
      window = refl;
      decider = refl;
      listed = d.2.1;
    })

pub whole_answer_exact : (seat : ℕ) (window : List Point) (mid new : WorldData) (answer : AnswerData) → Happens (Answer seat window) mid new (Rows answer) → IsAnswerTo seat window mid answer
whole_answer_exact seat window mid new answer happens =
    let d = admitted (may_answer seat mid) mid new (Rows answer) _ refl happens in
    subst (λ (a : AnswerData). IsAnswerTo seat window mid a) (sym (rows_same answer _ d.2.2))
    (record { seated = answer_seated seat mid d.0 d.1; sought = refl; decider = refl; listed = d.2.1 })

pub policy_stewards : (seat : ℕ) (document : DocumentData) (edition : ℕ) (mid new : WorldData) → Happens (Govern seat document) mid new (Number edition) → IsStewards seat document edition mid new
policy_stewards seat document edition mid new happens =
    let d = admitted (may_govern seat mid) mid new (Number edition) _ refl happens in
    let who = governor seat mid d.0 d.1 in
    let told = number_same edition _ d.2.0 in (
      (d.0, who.0, who.1),
      told,
      ap (λ (w : WorldData). w.state.decider.document) d.2.1,
      ap (λ (w : WorldData). w.state.decider.edition) d.2.1 ∙ sym told,
      ap (λ (w : WorldData). w.state.features) d.2.1,
      ap (λ (w : WorldData). w.state.version) d.2.1,
    )

-- only a steward rolls the trail
pub piece_stewards : (seat : ℕ) (mid new : WorldData) (piece : RolledData) → Happens (Roll seat) mid new (TakenOut piece) → (subject : Subject) × IsSeated seat mid.seats subject × IsTrue subject.steward
piece_stewards seat mid new piece happens =
    let d = admitted (may_roll seat mid) mid new (TakenOut piece) _ refl happens in
    roller seat mid d.0 d.1

pub piece_leads_on : (seat : ℕ) (mid new : WorldData) (piece : RolledData) → IsSoundWorld mid → Happens (Roll seat) mid new (TakenOut piece) → LeadsOn mid new piece
piece_leads_on seat mid new piece sound happens =
    let d = admitted (may_roll seat mid) mid new (TakenOut piece) _ refl happens in
    subst (λ (p : RolledData). LeadsOn mid new p) (sym (piece_same piece _ d.2.0))
    (sound.legal, sound.replayed ∙ sym (ap (λ (w : WorldData). w.base) d.2.1), sym (ap (λ (w : WorldData). w.first) d.2.1), refl, refl, refl, ap (λ (w : WorldData). w.trail) d.2.1)
