-- Who asks, by a field and the keys that there are.
use Rattle.std.specs.Prelude.{ℕ, ◌&&◌, Bool, List, nat_eq, Option, None, Some, if◌then◌else◌}
use Rattle.std.specs.Cmp.Lexicographic.{pointwise}
use Rattle.std.specs.List.{list_any}
use Rattle.std.specs.Option.{option_and_then}
use Rattle.sha2.specs.Sha256.{sha256}
use Rattle.credentials.specs.Spelling.{Credentials, credentials_of}
use Rattle.credentials.specs.declared.keys.Key.{Key}

-- the key is of this name, and its digest is this one, in all its bytes
abbrev pub is_key : List ℕ → List ℕ → Key → Bool
is_key name digest key = pointwise nat_eq key.subject name && pointwise nat_eq key.digest digest

-- one of the keys is of this name and of the secret's SHA-256
abbrev pub has_key : List Key → List ℕ → List ℕ → Bool
has_key keys name secret = list_any (is_key name (sha256 secret)) keys

-- the name, where it has a key of this secret
abbrev pub let_in : List Key → Credentials → Option (List ℕ)
let_in keys said = if has_key keys said.name said.secret then Some said.name else None

-- the name of those who ask by a field `authorization`
abbrev pub asker_of : List Key → List ℕ → Option (List ℕ)
asker_of keys field = option_and_then (let_in keys) (credentials_of field)
