use Rattle.std.proofs.Common.{rules}
use Rattle.session_lines.specs.Replies.{said_view}
use Rattle.scripts.specs.Indexed.{with_index}
use Rattle.scripts.specs.States.{session_in}
use Rattle.scripts.proofs.StepLemmas.{plain_so}
use Rattle.scripts.proofs.script_sessions.Session.take_plain.Goals as goal

pub returns-clause-takes : goal.returns-clause-takes
returns-clause-takes g c =
    plain_so with_index c.args.text.now (session_in c.args.self.now c.args.world.now) (session_in c.be_served-said.new.self c.be_served-said.new.world) (session_in c.settle.new.self c.settle.new.world) c.self.inside.seat (said_view c.be_served-said.result)
    c.be_served-said.ensures.answers c.be_served-said.ensures.search c.settle.ensures.kept (search rules) c.settle.ensures.settles
