-- `flow::read_packet_in` meets its contract.
use mathlib.Core.Path.{sym, ◌∙◌}
use borrow.Author.Tests.{not-true, not-false, ne_eqb}
use Rattle.flow.specs.Modes.{read_in}
use Rattle.flow.proofs.Stage.{read_on, syn_read, syn_ack_read, nothing_read, refused_7}
use borrow.Author.Rules.{rules}
use Rattle.flow.proofs.read_packet_in.Goals as goal

pub returns-in_err-facts : goal.returns-in_err-facts
unfolding read_in
returns-in_err-facts c = rw (sym c.read_ip.ensures ∙ c.in_err-facts.was) (search rules)

pub returns-then-syn : goal.returns-then-syn
returns-then-syn c =
    let a = c.args in
    let kept = sym c.sets_aside.ensures ∙ c.if-sets_aside.false in
    rw (
      c.observe-observation.ensures,
      c.if-syn.true,
      read_on a.mode _ _ a.peer_mss _ (sym c.read_ip.ensures ∙ c.in_ok-facts.was) c.header_bytes-header.ensures kept,
    )
    (syn_read _ _ _ (search rules) (sym c.tcp_type-masked.ensures ∙ c.if-syn.true))

pub returns-else-syn : goal.returns-else-syn
returns-else-syn c =
    let a = c.args in
    let kept = sym c.sets_aside.ensures ∙ c.if-sets_aside.false in
    rw (
      c.observe-observation.ensures,
      ne_eqb _ _ c.if-syn.false,
      read_on a.mode _ _ a.peer_mss _ (sym c.read_ip.ensures ∙ c.in_ok-facts.was) c.header_bytes-header.ensures kept,
    )
    (syn_ack_read _ _ _ (search rules) (λ e. c.if-syn.false (c.tcp_type-masked.ensures ∙ e))
    (rw (← c.tcp_type-masked.ensures) c.if-syn-masked.true))

pub returns-then-is_valid : goal.returns-then-is_valid
returns-then-is_valid c =
    let a = c.args in
    let kept = sym c.sets_aside-2.ensures ∙ c.if-sets_aside-2.false in
    rw (read_on a.mode _ _ a.peer_mss _ (sym c.read_ip.ensures ∙ c.in_ok-facts.was) c.header_bytes-header.ensures kept)
    (nothing_read _ _ _ (not-true _ (sym c.is_valid.ensures ∙ c.if-is_valid.true))
    (rw (← c.tcp_type-masked.ensures) c.if-syn-masked.false))

pub returns : goal.returns
returns c =
    let a = c.args in
    let kept = sym c.sets_aside-2.ensures ∙ c.if-sets_aside-2.false in
    rw (read_on a.mode _ _ a.peer_mss _ (sym c.read_ip.ensures ∙ c.in_ok-facts.was) c.header_bytes-header.ensures kept)
    (refused_7 _ _ _ (not-false _ (sym c.is_valid.ensures ∙ c.if-is_valid.false)))
