-- Replies as bytes.
use Rattle.std.specs.Prelude.{ℕ, List, [], ◌∷◌, ◌++◌, codes, decimal, length, Option, None, Some}
use Rattle.std.specs.List.{flat_map}
use Rattle.wkt.specs.Printing.{printed}
use Rattle.features.specs.declared.rows.Feature.{Feature}
use Rattle.audit_trail.specs.JsonLines.{lines_from}
use Rattle.session_lines.specs.declared.replies.Reply.{Reply}
use Rattle.session_lines.specs.declared.replies.Reply.TheVariants.{Hello, Staged, Applied, Denied, Absent, Exists, Stale, Held, Opened, More, Ready, Aborted, Edition, Permitted, Forbidden, Bye, Memory, Error, Unread, Failed}
use Rattle.policy_text.specs.FaultCodes.{code_of as policy_code_of}
use Rattle.plain_world.specs.FaultCodes.{fault_code}
use Rattle.session_lines.specs.Faults.{code_of}
use Rattle.session_lines.specs.Replies.{SaidData, line, rows, rolled}

-- the lead of each line of a reply: the session's label, if it has one
abbrev pub lead_text : List ℕ → List ℕ
lead_text [] = []
lead_text (b ∷ bs) = (b ∷ bs) ++ codes ": "

-- a line of a reply, with its lead and its end
abbrev pub led : List ℕ → List ℕ → List ℕ
led lead text = lead_text lead ++ text ++ codes "\n"

-- the rule that decides, if one does
abbrev pub rule_text : Option (List ℕ) → List ℕ
rule_text None = codes " none"
rule_text (Some name) = codes " rule " ++ name

-- a reply of one line
abbrev pub reply_text : Reply → List ℕ
reply_text (Hello name) = codes "hello " ++ name
reply_text Staged = codes "staged"
reply_text (Applied version) = codes "applied " ++ decimal version
reply_text (Denied rule change) =
    codes "denied" ++ rule_text rule ++ codes " change " ++ decimal change
reply_text (Absent change) = codes "absent change " ++ decimal change
reply_text (Exists change) = codes "exists change " ++ decimal change
reply_text (Stale current change) =
    codes "stale " ++ decimal current ++ codes " change " ++ decimal change
reply_text Held = codes "held"
reply_text Opened = codes "opened"
reply_text More = codes "more"
reply_text Ready = codes "ready"
reply_text Aborted = codes "aborted"
reply_text (Edition edition) = codes "edition " ++ decimal edition
reply_text (Permitted rule edition) =
    codes "permit" ++ rule_text rule ++ codes " edition " ++ decimal edition
reply_text (Forbidden rule edition) =
    codes "denied" ++ rule_text rule ++ codes " edition " ++ decimal edition
reply_text Bye = codes "bye"
reply_text (Memory refused) = codes "memory"
reply_text (Error fault) = codes "error " ++ code_of fault
reply_text (Unread fault) = codes "error " ++ policy_code_of fault
reply_text (Failed fault) = codes "error " ++ fault_code fault

-- the first line of a listing
abbrev pub rows_head : ℕ → List ℕ
rows_head count = codes "rows " ++ decimal count

-- the line of a feature
abbrev pub row_text : Feature → List ℕ
row_text feature =
    decimal feature.id ++ codes " " ++ decimal feature.version ++ codes " " ++ feature.office
    ++ codes " " ++ feature.class ++ codes " " ++ printed feature.shape

-- a whole listing
abbrev pub rows_text : List ℕ → List Feature → List ℕ
rows_text lead features = led lead (rows_head (length features)) ++ flat_map
    (λ feature. led lead (row_text feature)) features

-- a roll: the number of its lines, and then the lines
abbrev pub texts_text : List ℕ → List (List ℕ) → List ℕ
texts_text lead texts = led lead (codes "rolled " ++ decimal (length texts)) ++ flat_map
    (λ text. led lead text) texts

-- the bytes of a reply
abbrev pub said_text : List ℕ → SaidData → List ℕ
said_text lead (line reply) = led lead (reply_text reply)
said_text lead (rows answer) = rows_text lead answer.rows
said_text lead (rolled piece) = texts_text lead (lines_from piece.first piece.records)
