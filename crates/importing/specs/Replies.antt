-- What a server's reply to a line of an import means.
use Rattle.std.specs.Prelude.{◌||◌, ℕ, Bool, true, false, List, [], Option, None, Some, take, drop, codes, if◌then◌else◌}
use Rattle.std.specs.Str.{bytes_eq}
use Rattle.line_words.specs.Words.{next_word, number_of}
use Rattle.importing.specs.declared.replies.Reply.{Reply}
use Rattle.importing.specs.declared.replies.Reply.TheVariants.{Staged, Applied, Busy, Denied, Exists, Error, Unknown}

abbrev pub behind_first : Option (List ℕ × List ℕ) → List ℕ
behind_first None = []
behind_first (Some word) = word.1

-- what is behind the first word
abbrev pub behind_word : List ℕ → List ℕ
behind_word text = behind_first (next_word text)

-- `denied`, of the change whose number the text is
abbrev pub denied_of : Option ℕ → Reply
denied_of None = Unknown
denied_of (Some change) = Denied change

abbrev pub exists_of : Option ℕ → Reply
exists_of None = Unknown
exists_of (Some change) = Exists change

-- S2 and S7 pass: the line is sent again
abbrev pub error_of : List ℕ → Reply
error_of code = if bytes_eq code (codes "S2") || bytes_eq code (codes "S7") then Busy else Error

-- a reply that begins with a word and goes on
abbrev pub longer_of : List ℕ → Reply
longer_of line =
    if bytes_eq (take 8 line) (codes "applied ") then Applied
    else if bytes_eq (take 14 line) (codes "exists change ") then exists_of (number_of (drop 14 line))
    else if bytes_eq (take 19 line) (codes "denied none change ")
    then denied_of (number_of (drop 19 line))
    else if bytes_eq (take 12 line) (codes "denied rule ")
    then denied_of (number_of (drop 8 (behind_word (drop 12 line))))
    else if bytes_eq (take 6 line) (codes "error ") then error_of (drop 6 line)
    else Unknown

-- a reply, without its line feed
abbrev pub reply_of : List ℕ → Reply
reply_of line =
    if bytes_eq line (codes "staged") then Staged
    else if bytes_eq line (codes "held") || bytes_eq line (codes "memory") then Busy
    else longer_of line
