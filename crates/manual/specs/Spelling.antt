-- How a text is spelled within a page.
use Rattle.std.specs.Prelude.{ℕ, List, [], ◌∷◌, codes, if◌then◌else◌, nat_eq, Option, None, Some, unwrap_or}
use Rattle.manual.specs.declared.texts.Style.{Style}
use Rattle.manual.specs.declared.texts.Style.TheVariants.{Fish, Roff, Zsh}

-- the codes of a backslash, a hyphen, a full stop, an apostrophe and a colon
abbrev BACKSLASH : ℕ
BACKSLASH = 92

abbrev HYPHEN : ℕ
HYPHEN = 45

abbrev STOP : ℕ
STOP = 46

abbrev APOSTROPHE : ℕ
APOSTROPHE = 39

abbrev COLON : ℕ
COLON = 58

-- how a byte is spelled, if not as it is
abbrev pub spelling : Style → ℕ → Option (List ℕ)
spelling Roff byte =
    if nat_eq byte BACKSLASH then Some (codes "\\e")
    else if nat_eq byte HYPHEN then Some (codes "\\-")
    else if nat_eq byte STOP then Some (codes "\\&.")
    else if nat_eq byte APOSTROPHE then Some (codes "\\(aq")
    else None
spelling Zsh byte =
    if nat_eq byte APOSTROPHE then Some (codes "'\\''")
    else if nat_eq byte COLON then Some (codes "\\:")
    else if nat_eq byte BACKSLASH then Some (codes "\\\\")
    else None
spelling Fish byte =
    if nat_eq byte BACKSLASH then Some (codes "\\\\")
    else if nat_eq byte APOSTROPHE then Some (codes "\\'")
    else None

abbrev pub spelled : Style → ℕ → List ℕ
spelled style byte = unwrap_or (spelling style byte) (byte ∷ [])
