-- What a field `authorization` spells: a name and a secret.
use Rattle.std.specs.Prelude.{ℕ, ◌==◌, ◌+◌, Bool, not, nat_lt, List, length, take, drop, codes, Option, None, Some, option_map, if◌then◌else◌}
use Rattle.std.specs.List.{prefix_len}
use Rattle.std.specs.Option.{option_and_then}
use Rattle.std.specs.Str.{str_eq_ignore_ascii_case}
use Rattle.base64.specs.Engines.{standard}
use Rattle.base64.specs.GeneralPurpose.{decoded_of}
use Rattle.features.specs.Names.{name_of}
use Rattle.credentials.specs.declared.spelling.TheConstants.{FIELD_LIMIT}

-- a name, and the secret that is said with it
pub record Credentials : Type 0 where
  pub name : List ℕ
  pub secret : List ℕ

abbrev pub is_no : ℕ → ℕ → Bool
is_no mark b = not (b == mark)

abbrev pub is_space : ℕ → Bool
is_space b = b == 32

-- the text before the first of a byte, and the text behind it
unfoldable pub divided : ℕ → List ℕ → Option (List ℕ × List ℕ)
divided mark text =
    let len = prefix_len (is_no mark) text in
    if nat_lt len (length text) then Some (take len text, drop (len + 1) text) else None

-- a text without its leading spaces
abbrev pub unspaced : List ℕ → List ℕ
unspaced text = drop (prefix_len is_space text) text

abbrev pub named : List ℕ × List ℕ → Option Credentials
named parts = option_map (λ name. record { name = name; secret = parts.1 }) (name_of parts.0)

-- a name and a secret, which the first of a byte divides
abbrev pub credentials_at : ℕ → List ℕ → Option Credentials
credentials_at mark text = option_and_then named (divided mark text)

-- the token of `Bearer` (RFC 6750, 2.1), here `NAME.SECRET`
abbrev pub bearer : List ℕ → Option Credentials
bearer token = credentials_at 46 token

-- the token of `Basic` (RFC 7617, 2): in base64 with its padding (RFC 4648, 4), `NAME:SECRET`
abbrev pub basic : List ℕ → Option Credentials
basic token = option_and_then (credentials_at 58) (decoded_of standard token)

-- a scheme, whose letters may be of either case, and its token (RFC 9110, 11.1 and 11.4)
abbrev pub of_scheme : List ℕ → List ℕ → Option Credentials
of_scheme scheme token =
    if str_eq_ignore_ascii_case scheme (codes "Basic") then basic token
    else if str_eq_ignore_ascii_case scheme (codes "Bearer") then bearer token
    else None

abbrev pub of_parts : List ℕ × List ℕ → Option Credentials
of_parts parts = of_scheme parts.0 (unspaced parts.1)

-- what a field of at most `FIELD_LIMIT` bytes spells: a scheme, one or more spaces, a token (11.4)
abbrev pub credentials_of : List ℕ → Option Credentials
credentials_of field =
    if nat_lt FIELD_LIMIT (length field) then None else option_and_then of_parts (divided 32 field)
