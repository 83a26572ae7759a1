-- `ip_options::calculate_ipv6_length` meets its contract.
use Rattle.ip_options.proofs.Laws.{payload_size_lem, v6_no_payload, v6_tcp, v6_fragment, v6_one_byte, v6_eights}
use native.Mathlib.Omega.{arith}
use mathlib.Core.Path.{sym, ◌∙◌}
use Rattle.ip_options.proofs.calculate_ipv6_length.Goals as goal

pub returns-then-size-eq0 : goal.returns-then-size-eq0
returns-then-size-eq0 c = sym (v6_no_payload _ (sym c.payload_size-size.ensures ∙ c.if-size-eq0.true))

pub bounds-packet-6 : goal.bounds-packet-6
bounds-packet-6 c = omega (arith, payload_size_lem c.args.packet.now)

pub returns-then-next_header-eq-TCP : goal.returns-then-next_header-eq-TCP
returns-then-next_header-eq-TCP c = sym (v6_tcp _ c.if-next_header-eq-TCP.true)

pub returns-then-next_header-eq-IPV6_FRAG : goal.returns-then-next_header-eq-IPV6_FRAG
returns-then-next_header-eq-IPV6_FRAG c =
    sym
    (v6_fragment _ c.if-next_header-eq-TCP.false (λ e. c.if-size-eq0.false (c.payload_size-size.ensures ∙ e))
    c.if-next_header-eq-IPV6_FRAG.true)

pub returns-then-size-lt2 : goal.returns-then-size-lt2
returns-then-size-lt2 c =
    let size = c.payload_size-size.ensures in
    sym
    (v6_one_byte _ c.if-next_header-eq-TCP.false (λ e. c.if-size-eq0.false (size ∙ e))
    c.if-next_header-eq-IPV6_FRAG.false (omega (arith, size)))

pub bounds-packet-41 : goal.bounds-packet-41
bounds-packet-41 c =
    omega (arith, payload_size_lem c.args.packet.now)

pub returns : goal.returns
returns c =
    let size = c.payload_size-size.ensures in
    c.eights.ensures
    ∙ sym
    (v6_eights _ c.if-next_header-eq-TCP.false (λ e. c.if-size-eq0.false (size ∙ e))
    c.if-next_header-eq-IPV6_FRAG.false (omega (arith, size)))
