-- `ip::process_tcp_ipv6` meets its contract.
use Rattle.std.specs.Prelude.{Ok}
use Rattle.ip.proofs.Ip.{v6_short, v6_facts}
use Rattle.ip.specs.Ip.{ipv6_facts, read_ipv6}
use mathlib.Core.Path.{◌≡◌, sym, ◌∙◌, ap}
use Rattle.rfc.specs.Rfc8200.{payload_end}
use Rattle.basis.proofs.Rules.{cases}
use native.Mathlib.Omega.{arith}
use Rattle.ip.proofs.process_tcp_ipv6.Goals as goal

pub returns-then-packet-lt-IPV6_HEADER : goal.returns-then-packet-lt-IPV6_HEADER
unfolding read_ipv6
returns-then-packet-lt-IPV6_HEADER c = search cases

pub returns-then-packet-ne-TCP : goal.returns-then-packet-ne-TCP
unfolding read_ipv6
returns-then-packet-ne-TCP c = search cases

pub returns-then-end : goal.returns-then-end
returns-then-end c =
    let p = c.args.packet.now in
    sym (v6_short p (omega arith) (omega arith) (omega arith))

pub returns : goal.returns
returns c =
    let p = c.args.packet.now in
    let end : c.least-end.result ≡ payload_end p = omega arith in
    ap Ok (c.ipv6_facts.ensures ∙ ap (ipv6_facts p) end)
    ∙ sym (v6_facts p (omega arith) (omega arith) (omega arith))
