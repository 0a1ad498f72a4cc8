use Rattle.std.proofs.Common.{subst, sym, true≢false, ◌∙◌}
use Rattle.std.specs.Net.Addr.{IsLoopbackV4, IsLoopbackV6, MatchIp}
use Rattle.std.specs.declared.net.ip_addr.IpAddr.{IpAddr}
use Rattle.command_line.proofs.HttpLemmas.{far}
use Rattle.command_line.proofs.http.own_address.Goals as goal

pub returns-else-is_loopback : goal.returns-else-is_loopback
returns-else-is_loopback c =
    far c.args.text.now c.in-Ok.address c.in-Ok.ensures.value
    (λ own. true≢false (sym (c.is_loopback.ensures.1 (subst (λ (ip : IpAddr). MatchIp ip IsLoopbackV4 IsLoopbackV6) (sym c.ip.ensures) own)) ∙ c.if-is_loopback.false))
