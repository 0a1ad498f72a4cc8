-- Secrets by which a subject asks by HTTP, and their entries in a configuration.
use Rattle.std.specs.Prelude.{◌≡◌, ℕ, List, ◌++◌, codes, Option, Result, Ok, Err}
use Rattle.std.specs.Io.KnownBytes.{Appends}
use Rattle.base64.specs.Engines.{url_safe_no_pad}
use Rattle.base64.specs.GeneralPurpose.{encode_of}
use Rattle.hex.specs.Hex.{encode_lower}
use Rattle.sha2.specs.Sha256.{sha256}
use Rattle.byte_streams.specs.declared.writing.Flushed.{Flushed}
use Rattle.secrets.specs.declared.printing.SecretFault.{SecretFault}
use Rattle.secrets.specs.declared.printing.SecretFault.TheVariants.{Memory, Write}

-- the secret that is made of random bytes: base64url without padding (RFC 4648, 5)
unfoldable pub secret_of : List ℕ → List ℕ
secret_of random = encode_of url_safe_no_pad random

-- the digest of a secret: its SHA-256 (FIPS 180-4, 6.2) in hexadecimal digits
unfoldable pub digest_text : List ℕ → List ℕ
digest_text secret = encode_lower (sha256 secret)

-- the secret on a line, and on the next line its entry among a configuration's keys: the subject that
-- asks by it, and its digest
abbrev pub lines_of : List ℕ → List ℕ → List ℕ → List ℕ
lines_of subject secret digest =
    secret ++ codes "\n{\"subject\": \"" ++ subject ++ codes "\", \"sha256\": \"" ++ digest
    ++ codes "\"}\n"

-- what is printed of the secret that is made of random bytes for a subject
abbrev pub printed_lines : List ℕ → List ℕ → List ℕ
printed_lines subject random = lines_of subject (secret_of random) (digest_text (secret_of random))

-- What a writer has taken of these lines: all of them; nothing, since there was no memory for them;
-- or a front, since a write failed.
abbrev pub IsPrinted : Result Flushed SecretFault → Option (List ℕ) → Option (List ℕ) → List ℕ
    → Type 0
IsPrinted (Ok flushed) before after lines = Appends before after lines
IsPrinted (Err (Memory refused)) before after lines = after ≡ before
IsPrinted (Err (Write failed)) before after lines =
    (front : List ℕ) × (left : List ℕ) × (lines ≡ front ++ left) × Appends before after front
