use Rattle.std.proofs.Common.{◌∙◌, inl, inr, List, refl, ap, subst}
use mathlib.Core.List.{IsPrefix}
use Rattle.decision.specs.Deciders.{DeciderData}
use Rattle.session_lines.specs.Replies.{line}
use Rattle.hall_sessions.specs.Sessions.{session}
use Rattle.hall_sessions.proofs.RulingLemmas.{said_so}
use Rattle.hall_sessions.proofs.attended.AttendedService.explain.Goals as goal

pub returns-in-Some : goal.returns-in-Some
returns-in-Some g c =
    let told = c.in-Some.ensures in
    let by = told.ruling in
    let e = c.in-Some.explained in (
      refl,
      refl,
      refl,
      refl,
      inr (record {
        before = subst (λ (known : List DeciderData). IsPrefix known c.explain.new.self) c.prepare.ensures told.later;
        published = told.published;
        decider = by.decider;
        last = by.last;
        ruling = e.ruling;
        ruled = by.explains.ruling;
        reply = ap line (c.explained_reply.ensures ∙ said_so by.decider e.ruling e.rule e.edition by.explains.edition by.explains.rule);
        only = refl;
      }),
    )

pub returns-in-None : goal.returns-in-None
returns-in-None g c =
    let s = c.args.self.now in
    (refl, refl, refl, refl, inl (ap (λ (view : List DeciderData). session s.earlier s.seats.now.items view) (c.in-None.ensures.none ∙ c.prepare.ensures), ap line c.hall_reply.ensures))
