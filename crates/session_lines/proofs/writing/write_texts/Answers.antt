use Rattle.std.proofs.Common.{◌++◌, codes, decimal, length, string_bytes, subst}
use Rattle.std.specs.List.{flat_map}
use Rattle.session_lines.specs.Printed.{led}
use Rattle.byte_streams.specs.Written.{Took}
use Rattle.session_lines.proofs.WritingLemmas.{texts_joined, took_first, took_then}
use Rattle.session_lines.proofs.writing.write_texts.Goals as goal

pub returns-in_err-write_count : goal.returns-in_err-write_count
returns-in_err-write_count g c =
    subst (λ t. Took c.from_residual.result (g.W.Write.contents c.args.writer.now) (g.W.Write.contents c.write_count.new.writer) t) (texts_joined string_bytes c.args.lead.now c.args.texts.now)
    (took_first c.from_residual.result c.from_residual.ensures.0 _ _ (led c.args.lead.now (codes "rolled " ++ decimal (length c.args.texts.now))) (flat_map (λ text. led c.args.lead.now (string_bytes text)) c.args.texts.now) c.in_err-write_count.ensures)

pub returns : goal.returns
returns g c =
    subst (λ t. Took c.write_each_text.result (g.W.Write.contents c.args.writer.now) (g.W.Write.contents c.write_each_text.new.writer) t) (texts_joined string_bytes c.args.lead.now c.args.texts.now)
    (took_then c.write_each_text.result _ _ _ (led c.args.lead.now (codes "rolled " ++ decimal (length c.args.texts.now))) (flat_map (λ text. led c.args.lead.now (string_bytes text)) c.args.texts.now) c.in_ok-write_count.ensures c.write_each_text.ensures)
