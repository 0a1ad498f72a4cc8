-- What a configuration may say of HTTP.
use Rattle.std.specs.Prelude.{ℕ, ◌==◌, ◌&&◌, ◌||◌, not, Bool, true, false, List, codes, drop, length, take, nat_eq, nat_le, if◌then◌else◌, Option, Some, None, option_and_then, option_map}
use Rattle.std.specs.List.{ends_with, starts_with, list_all}
use Rattle.std.specs.Option.{option_map_or}
use Rattle.std.specs.Result.{result_ok}
use Rattle.std.specs.Cmp.Lexicographic.{pointwise}
use Rattle.std.specs.Str.{bytes_eq}
use Rattle.serde_json.specs.Data.{Data}
use Rattle.serde_json.specs.Find.{as_str}
use Rattle.hex.specs.Hex.{decode_sized}
use Rattle.credentials.specs.declared.keys.Key.{Key}
use Rattle.features.specs.Names.{name_of}
use Rattle.features.specs.Subjects.{subject_named}
use Rattle.features.specs.declared.actors.Subject.{Subject}
use Rattle.configuration.specs.declared.web.TheConstants.{PUBLIC_LIMIT}

-- what is said of HTTP, as plain data
pub record WebData : Type 0 where
  pub anonymous : Option (List ℕ)
  pub metrics : Option (List ℕ)
  pub public : Option (List ℕ)
  pub collections : List (List ℕ)
  pub keys : List Key
  pub trusted_field : Bool

-- the name that a value spells
abbrev pub name_at : Data → Option (List ℕ)
name_at d = option_and_then name_of (as_str d)

-- the name that a value spells, if it is that of a subject
abbrev pub subject_at : List Subject → Data → Option (List ℕ)
subject_at subjects d = option_map (λ subject. subject.name)
    (option_and_then (λ name. subject_named name subjects) (name_at d))

-- ---- what links begin with

-- visible ASCII, but no `"`, `#`, `<`, `>`, `?` and `\`
abbrev pub is_host_byte : ℕ → Bool
is_host_byte b =
    nat_le 33 b && nat_le b 126
    && not (b == 34 || b == 35 || b == 60 || b == 62 || b == 63 || b == 92)

-- 1 to `PUBLIC_LIMIT` such bytes, the first of which is no slash and no colon, since no host is
-- empty (RFC 9110, 4.2.1), and the last no slash
abbrev pub is_host : List ℕ → Bool
is_host text =
    nat_le 1 (length text) && nat_le (length text) PUBLIC_LIMIT && list_all is_host_byte text
    && not (starts_with nat_eq text (codes "/")) && not (starts_with nat_eq text (codes ":"))
    && not (ends_with nat_eq text (codes "/"))

-- what stands behind a scheme in a text that begins with it
abbrev pub behind_scheme : List ℕ → List ℕ → Option (List ℕ)
behind_scheme scheme text = if pointwise nat_eq (take (length scheme) text) scheme
    then Some (drop (length scheme) text) else None

-- links may begin with the text: `https://` or `http://`, and a host, perhaps with a path
abbrev pub is_beginning : List ℕ → Bool
is_beginning text =
    option_map_or is_host (behind_scheme (codes "https://") text) false
    || option_map_or is_host (behind_scheme (codes "http://") text) false

-- the text that a value spells, if links may begin with it
abbrev pub public_at : Data → Option (List ℕ)
public_at d = option_and_then (λ text. if is_beginning text then Some text else None) (as_str d)

-- ---- keys

-- the digest that a value spells: 32 bytes, as 64 hexadecimal digits
abbrev pub digest_at : Data → Option (List ℕ)
digest_at d = option_and_then (λ text. result_ok (decode_sized text 32)) (as_str d)

-- the keys are one: of the same subject, with the same digest
abbrev pub is_same_key : Key → Key → Bool
is_same_key a b = bytes_eq a.subject b.subject && bytes_eq a.digest b.digest
