-- `ip::process_tcp_ipv4` meets its contract.
use Rattle.std.specs.Prelude.{Ok}
use Rattle.ip.proofs.Ip.{v4_short, v4_facts}
use Rattle.ip.specs.Ip.{ipv4_facts, read_ipv4}
use mathlib.Core.Path.{◌≡◌, sym, ◌∙◌, ap}
use Rattle.rfc.specs.Rfc791.{data_start, data_end}
use Rattle.basis.proofs.Rules.{cases}
use native.Mathlib.Omega.{arith}
use Rattle.ip.proofs.process_tcp_ipv4.Goals as goal

pub returns-then-packet-lt-IPV4_HEADER : goal.returns-then-packet-lt-IPV4_HEADER
unfolding read_ipv4
returns-then-packet-lt-IPV4_HEADER c = search cases

pub returns-then-ihl-lt5 : goal.returns-then-ihl-lt5
unfolding read_ipv4
returns-then-ihl-lt5 c = search cases

pub returns-then-packet-ne-TCP : goal.returns-then-packet-ne-TCP
unfolding read_ipv4
returns-then-packet-ne-TCP c = search cases

pub returns-then-is_fragment : goal.returns-then-is_fragment
unfolding read_ipv4
returns-then-is_fragment c = rw (sym c.is_fragment.ensures ∙ c.if-is_fragment.true) (search cases)

pub returns-then-end-start : goal.returns-then-end-start
returns-then-end-start c =
    let p = c.args.packet.now in
    let whole = sym c.is_fragment.ensures ∙ c.if-is_fragment.false in
    sym (v4_short p (omega arith) (omega arith) (omega arith) whole (omega arith))

pub returns : goal.returns
returns c =
    let p = c.args.packet.now in
    let whole = sym c.is_fragment.ensures ∙ c.if-is_fragment.false in
    let end : c.least-end.result ≡ data_end p = omega arith in
    ap Ok (c.ipv4_facts.ensures ∙ ap (ipv4_facts p (data_start p)) end)
    ∙ sym (v4_facts p (omega arith) (omega arith) (omega arith) whole (omega arith))
