use Rattle.std.proofs.Common.{sym, ap, ◌∙◌}
use Rattle.std.proofs.lemmas.Result.{on_ok_weaker}
use Rattle.serde_json.specs.Data.{put}
use Rattle.serde_json.specs.View.{view, members_view}
use Rattle.serde_json.specs.declared.value.Value.{Array}
use Rattle.serde_json.proofs.Views.{view-Array}
use Rattle.policy_text.specs.Keys.{key_text}
use Rattle.policy_text.proofs.PutMembers.{put_items-filled}
use Rattle.policy_text.proofs.words.put_array.Goals as goal

pub returns : goal.returns
returns c =
    let old = members_view c.args.members.now.entries in
    on_ok_weaker c.put_member.result (λ told. told ∙ ap (λ t. put t (view (Array c.args.items)) old) c.text.ensures ∙ ap (λ d. put (key_text c.args.key) d old) (view-Array c.args.items)
    ∙ put_items-filled c.args.key c.args.items.items _ old (sym c.args.items.ok.0) c.if-is_empty.ensures) c.put_member.ensures.ok
