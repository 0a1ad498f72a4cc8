-- What is written of what a line of a script is answered.
use Rattle.std.specs.Prelude.{ℕ, List, [], codes}
use Rattle.session_lines.specs.Printed.{led, reply_text, said_text}
use Rattle.session_lines.specs.Replies.{said_view}
use Rattle.session_lines.specs.declared.replies.Reply.TheVariants.{Error}
use Rattle.scripts.specs.declared.scripts.Heard.{Heard}
use Rattle.scripts.specs.declared.scripts.Heard.TheVariants.{Nothing, Refused, Said}

-- nothing; a fault of the line itself, which belongs to no session; what the label's session says
abbrev pub heard_text : {A : Type 0} → Heard A → List ℕ
heard_text Nothing = []
heard_text (Refused fault) = led (codes "?") (reply_text (Error fault))
heard_text (Said label said) = said_text label (said_view said)
