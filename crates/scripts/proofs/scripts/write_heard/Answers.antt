use Rattle.std.proofs.Common.{[], subst, sym}
use Rattle.std.specs.Io.KnownBytes.{Appends}
use Rattle.scripts.specs.Heard.{heard_text}
use Rattle.scripts.proofs.HeardLemmas.{appends_nothing}
use Rattle.scripts.proofs.scripts.write_heard.Goals as goal

pub returns-in-Nothing : goal.returns-in-Nothing
returns-in-Nothing g c =
    let w = g.W.Write.contents c.args.writer.now in
    let none : Appends w w [] = appends_nothing w in
    subst (λ heard. Appends w w (heard_text heard)) (sym c.in-Nothing.is) none
