use Rattle.std.proofs.Common.{sym}
use Rattle.policy_text.proofs.MemberLemmas.{has_one-length}
use Rattle.policy_text.proofs.fields.has_one.Goals as goal

pub returns : goal.returns
returns c = rw c.len.ensures.len (sym (has_one-length c.args.members.now.entries))
