use Rattle.std.proofs.Common.{◌≡◌, ◌<◌, ◌∙◌, ap, arith}
use Rattle.session_lines.specs.Replies.{said_view}
use Rattle.scripts.specs.Indexed.{with_index}
use Rattle.scripts.specs.Scripts.{place, script}
use Rattle.scripts.specs.declared.scripts.TheConstants.{LABEL_LIMIT}
use Rattle.scripts.proofs.ScriptLemmas.{label_told}
use Rattle.scripts.proofs.scripts.Table.answer_labelled.Goals as goal

pub returns-clause-answers : goal.returns-clause-answers
returns-clause-answers g c =
    let here : c.place_of-at.result ≡ place c.args.label c.args.self.now.sessions.items = c.place_of-at.ensures.place ∙ ap (place c.args.label) c.deref.ensures.value in
    let room : place c.args.label c.args.self.now.sessions.items < LABEL_LIMIT = rw (← here) (omega arith) in
    let answered = rw (c.begin_session.ensures.sessions, here) at c.answer_at-said.ensures.answers in
    label_told with_index c.args.label c.args.text.now (script c.args.world.now c.args.self.now.sessions.items) c.answer_at-said.new.world _ (said_view c.answer_at-said.result) room answered
