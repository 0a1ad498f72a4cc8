-- Reading a file to its end.
use Rattle.std.proofs.Common.{ℕ, ◌+◌, ◌<◌, List, [], ◌++◌, length, Option, Some, None, IfSome, ap, ◌∙◌, sym, refl, append_assoc, length-append, arith}
use Rattle.std.proofs.lemmas.List.{append-nil}
use Rattle.std.specs.Io.KnownBytes.{Consumes, IsAtEnd}
use Rattle.configuration.specs.ConfigFiles.{IsWhole}

-- nothing is read at first
pub taken-none : (a : Option (List ℕ)) → Consumes a a []
taken-none None = tt
taken-none (Some xs) = refl

-- a read returned more bytes
pub taken-more : (a b c : Option (List ℕ)) (xs ys : List ℕ) → Consumes a b xs → Consumes b c ys → Consumes a c (xs ++ ys)
taken-more None b c xs ys h k = tt
taken-more (Some zs) None c xs ys h k = absurd h
taken-more (Some zs) (Some ws) None xs ys h k = absurd k
taken-more (Some zs) (Some ws) (Some vs) xs ys h k = h ∙ ap (λ us. xs ++ us) k ∙ sym (append_assoc xs ys vs)

-- the bytes read up to the end are all of them
pub taken-whole : (a b c : Option (List ℕ)) (xs : List ℕ) → Consumes a b xs → Consumes b c [] → IsAtEnd c → IsWhole a xs
taken-whole None b c xs h k e = tt
taken-whole (Some zs) None c xs h k e = absurd h
taken-whole (Some zs) (Some ws) None xs h k e = absurd k
taken-whole (Some zs) (Some ws) (Some vs) xs h k e = sym (h ∙ ap (λ us. xs ++ us) (k ∙ e) ∙ append-nil xs)

-- the bytes read so far and those of the last read are more than a file may have
pub taken-too-much : (a b c : Option (List ℕ)) (xs ys : List ℕ) (most : ℕ) → Consumes a b xs → Consumes b c ys → most < length xs + length ys → IfSome a (λ text. most < length text)
taken-too-much None b c xs ys most h k more = tt
taken-too-much (Some zs) None c xs ys most h k more = absurd h
taken-too-much (Some zs) (Some ws) None xs ys most h k more = absurd k
taken-too-much (Some zs) (Some ws) (Some vs) xs ys most h k more =
    omega (arith, more, ap length h, length-append xs ws, ap length k, length-append ys vs)
