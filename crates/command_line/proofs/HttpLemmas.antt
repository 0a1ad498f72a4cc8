-- Where HTTP is answered, by what is given.
use Rattle.std.proofs.Common.{◌≡◌, ◌⊎◌, inl, inr, true, false, Option, None, Some, is_some, option_map, ap, sym, subst, refl, true≢false}
use Rattle.std.specs.Net.Addr.{IsLoopbackV4, IsLoopbackV6, MatchIp}
use Rattle.std.specs.Net.Grammar.{IsSocketText}
use Rattle.std.specs.Net.Socket.{socket_ip}
use Rattle.std.specs.declared.net.socket_addr.SocketAddr.{SocketAddr}
use Rattle.std.proofs.NetLemmas.Theorems.{IsSocketText_unique}
use Rattle.clap.specs.Words.{Text}
use Rattle.command_line.specs.Http.{IsHttp, IsOwnAddress, IsUnclear}
use Rattle.command_line.specs.declared.http.HttpWord.{HttpWord}
use Rattle.command_line.specs.declared.http.HttpWord.TheVariants.{Address, Socket}

-- a text that writes an address which is none of the machine itself writes none that is
pub far : (text : Text) (address : SocketAddr) → IsSocketText text address → (MatchIp (socket_ip address) IsLoopbackV4 IsLoopbackV6 → ⊥) → (other : SocketAddr) → IsOwnAddress text other → ⊥
far text address written not_own other own =
    not_own (subst (λ (a : SocketAddr). MatchIp (socket_ip a) IsLoopbackV4 IsLoopbackV6) (IsSocketText_unique text other address own.0 written) own.1)

-- what is given, as it was got
pub unclear : (a b x y : Option Text) → x ≡ a → y ≡ b → IsUnclear a b → IsUnclear x y
unclear a b x y e f h = subst (λ (o : Option Text). IsUnclear o y) (sym e) (subst (λ (o : Option Text). IsUnclear a o) (sym f) h)

pub clear : (a b x y : Option Text) (http : Option HttpWord) → x ≡ a → y ≡ b → IsHttp a b http → IsHttp x y http
clear a b x y http e f h = subst (λ (o : Option Text). IsHttp o y http) (sym e) (subst (λ (o : Option Text). IsHttp a o http) (sym f) h)

-- where HTTP is answered, one of the two is given
pub one_given : (a b : Option Text) (http : Option HttpWord) → IsHttp a b http → is_some http ≡ true → (is_some a ≡ true) ⊎ (is_some b ≡ true)
one_given a b None h e = absurd (true≢false (sym e))
one_given a b (Some (Address own)) h e = inl (ap is_some h.1)
one_given a b (Some (Socket path)) h e = inr (ap is_some h.1)

pub some_mapped : {A B : Type 0} (f : A → B) (o : Option A) → is_some (option_map f o) ≡ is_some o
some_mapped f None = refl
some_mapped f (Some x) = refl

pub none_mapped : {A B : Type 0} (f : A → B) (o : Option A) → is_some o ≡ false → option_map f o ≡ None
none_mapped f None e = refl
none_mapped f (Some x) e = absurd (true≢false e)
