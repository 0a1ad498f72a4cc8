use Rattle.std.proofs.Common.{ap, option_map}
use Rattle.command_line.proofs.http.http_word.Goals as goal

pub returns-in-Ok : goal.returns-in-Ok
returns-in-Ok c = (c.in-Some-None.text.now, ap (option_map (λ text. text.now)) c.in-Some-None.is-0, c.in-Ok.ensures, ap (option_map (λ path. path.now)) c.in-Some-None.is-1)
