-- Where a server also answers HTTP.
use Rattle.std.specs.Prelude.{◌≡◌, ◌⊎◌, true, Option, None, Some, codes, is_some}
use Rattle.std.specs.Net.Addr.{IsLoopbackV4, IsLoopbackV6, MatchIp}
use Rattle.std.specs.Net.Grammar.{IsSocketText}
use Rattle.std.specs.Net.Socket.{socket_ip}
use Rattle.std.specs.declared.net.socket_addr.SocketAddr.{SocketAddr}
use Rattle.clap.specs.Words.{Text}
use Rattle.command_line.specs.declared.http.HttpWord.{HttpWord}
use Rattle.command_line.specs.declared.http.HttpWord.TheVariants.{Address, Socket}

-- the text writes this address, and it is one of the machine itself: of 127.0.0.0/8, or ::1
abbrev pub IsOwnAddress : Text → SocketAddr → Type 0
IsOwnAddress text address =
    IsSocketText text address × MatchIp (socket_ip address) IsLoopbackV4 IsLoopbackV6

-- what an address and a socket's path say: nothing, if neither is given; else the one that is
abbrev pub IsHttp : Option Text → Option Text → Option HttpWord → Type 0
IsHttp address socket None = (address ≡ None) × (socket ≡ None)
IsHttp address socket (Some (Address own)) =
    (text : Text) × (address ≡ Some text) × IsOwnAddress text own × (socket ≡ None)
IsHttp address socket (Some (Socket path)) = (address ≡ None) × (socket ≡ Some path.now)

-- they say nothing clear: both are given, or the address is none of the machine itself
abbrev pub IsUnclear : Option Text → Option Text → Type 0
IsUnclear address socket =
    ((is_some address ≡ true) × (is_some socket ≡ true))
    ⊎ ((text : Text) × (address ≡ Some text)
    × ((own : SocketAddr) → ¬ (IsOwnAddress text own)))

-- where HTTP is answered by what is given; nowhere, if the server ends after some connections
abbrev pub IsHttpAt : (Text → Option Text) → Option HttpWord → Type 0
IsHttpAt given http = IsHttp (given (codes "http")) (given (codes "http-socket")) http
    × (is_some http ≡ true → given (codes "connections") ≡ None)

-- what is given does not say where HTTP is answered, or says it of a server that ends after some
-- connections
abbrev pub IsHttpFault : (Text → Option Text) → Type 0
IsHttpFault given =
    IsUnclear (given (codes "http")) (given (codes "http-socket"))
    ⊎ (((is_some (given (codes "http")) ≡ true) ⊎ (is_some (given (codes "http-socket")) ≡ true))
    × (is_some (given (codes "connections")) ≡ true))
