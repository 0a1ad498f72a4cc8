-- For which host a request is.
use Rattle.std.specs.Prelude.{ℕ, ◌==◌, ◌&&◌, ◌||◌, Bool, true, false, List, [], ◌∷◌, length, take, drop, codes, Option, None, Some, option_map, if◌then◌else◌, nat_eq, nat_lt}
use Rattle.std.specs.Char.{is_ascii_digit}
use Rattle.std.specs.List.{list_all, starts_with}
use Rattle.std.specs.Str.{str_eq_ignore_ascii_case}
use Rattle.http.specs.declared.request.Parts.{Parts}
use Rattle.http_header.specs.FieldValue.{FieldValue}
use Rattle.http_header.specs.HeaderMap.{get}
use Rattle.http_uri.specs.Uri.{uri_authority}

-- a text begins with another one, whose letters may be of either case
abbrev pub begins_with : List ℕ → List ℕ → Bool
begins_with text front =
    if nat_lt (length text) (length front) then false
    else str_eq_ignore_ascii_case (take (length front) text) front

-- nothing, or a path
abbrev pub is_path : List ℕ → Bool
is_path text = (length text == 0) || starts_with nat_eq text (codes "/")

-- what stands behind the `://` of an address is this authority, and then nothing or a path
abbrev pub names_authority : List ℕ → List ℕ → Bool
names_authority text authority = begins_with text authority && is_path (drop (length authority) text)

-- the authority is that of an address
abbrev pub is_authority_of : List ℕ → List ℕ → Bool
is_authority_of address authority =
    if starts_with nat_eq address (codes "http://") then names_authority (drop 7 address) authority
    else if starts_with nat_eq address (codes "https://") then names_authority (drop 8 address) authority
    else false

-- nothing, or a colon and a port
abbrev pub is_port : List ℕ → Bool
is_port [] = true
is_port (b ∷ bs) = (b == 58) && list_all is_ascii_digit bs

-- the authority is this name, with a port or without
abbrev pub has_name : List ℕ → List ℕ → Bool
has_name authority name = begins_with authority name && is_port (drop (length name) authority)

-- the authority is one that only programs of the machine itself reach by
unfoldable pub is_own_machine : List ℕ → Bool
is_own_machine authority =
    has_name authority (codes "localhost") || has_name authority (codes "127.0.0.1")
    || has_name authority (codes "[::1]")

-- the authority is that of the server's address, or of the machine itself
abbrev pub is_own : List ℕ → List ℕ → Bool
is_own base authority = is_authority_of base authority || is_own_machine authority

abbrev pub is_own_if_some : List ℕ → Option (List ℕ) → Bool
is_own_if_some base None = false
is_own_if_some base (Some authority) = is_own base authority

-- the authority of the target where it has one, else the field `host`, the first where there are
-- several
abbrev pub authority_or_host : Option (List ℕ) → Option FieldValue → Option (List ℕ)
authority_or_host (Some authority) host = Some authority
authority_or_host None host = option_map (λ value. value.bytes) host

-- for which host a request is
abbrev pub authority_of : Parts → Option (List ℕ)
authority_of head = authority_or_host (uri_authority head.uri) (get head.headers (codes "host"))

-- a request is for the server of this address
abbrev pub is_for : List ℕ → Parts → Bool
is_for base head = is_own_if_some base (authority_of head)

-- the authority of an origin (RFC 6454, 6.1)
abbrev pub origin_authority : List ℕ → Option (List ℕ)
origin_authority origin =
    if starts_with nat_eq origin (codes "http://") then Some (drop 7 origin)
    else if starts_with nat_eq origin (codes "https://") then Some (drop 8 origin)
    else None

abbrev pub is_same : List ℕ → Option (List ℕ) → Bool
is_same authority None = false
is_same authority (Some own) = str_eq_ignore_ascii_case authority own

-- an origin's authority is that of the server's address, or the one that the request is for
abbrev pub is_near : List ℕ → Parts → Option (List ℕ) → Bool
is_near base head None = false
is_near base head (Some authority) =
    is_authority_of base authority || is_same authority (authority_of head)

abbrev pub is_near_if_some : List ℕ → Parts → Option FieldValue → Bool
is_near_if_some base head None = true
is_near_if_some base head (Some origin) = is_near base head (origin_authority origin.bytes)

-- a request comes from no page of somebody else (RFC 6454, 7.3)
abbrev pub is_from_here : List ℕ → Parts → Bool
is_from_here base head = is_near_if_some base head (get head.headers (codes "origin"))
