use Rattle.std.proofs.Common.{subst, sym, IsUtf8}
use Rattle.policy_text.proofs.NameBytes.{name-utf8, ok_unless}
use Rattle.policy_text.proofs.words.name_text.Goals as goal

pub unwrap-requires : goal.unwrap-requires
unwrap-requires c = ok_unless _ _ _ c.from_utf8.result c.from_utf8.ensures.cases (subst IsUtf8 (sym c.as_bytes.ensures.value) (name-utf8 c.args.name.now c.as_bytes.ensures.name))
