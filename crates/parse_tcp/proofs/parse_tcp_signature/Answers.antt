-- `parse_tcp::parse_tcp_signature` meets its contract.
use mathlib.Core.Path.{sym, ◌∙◌}
use native.Mathlib.Omega.{arith}
use Rattle.numerals.proofs.Made.{exit}
use Rattle.signature_line.proofs.Accepted.{long}
use Rattle.parse_tcp.proofs.WholeLine.{gave_bad, gave_early, gave_whole}
use Rattle.parse_tcp.proofs.parse_tcp_signature.Goals as goal

pub returns-then-line-gt-LONGEST : goal.returns-then-line-gt-LONGEST
returns-then-line-gt-LONGEST c = c.refused_at.ensures ∙ sym (long c.args.line.now c.if-line-gt-LONGEST.true)

pub returns-in_err-fields : goal.returns-in_err-fields
returns-in_err-fields c =
    let e = c.in_err-fields in
    let said = c.from_residual.ensures in exit said.1 ∙ gave_bad c.args.line.now (omega arith) e.field-0.0 e.ensures

pub returns-then-fields-line : goal.returns-then-fields-line
returns-then-fields-line c =
    let f = c.in_ok-fields in
    gave_early c.args.line.now (omega arith) f.fields f.ensures c.if-fields-line.true

pub returns : goal.returns
returns c =
    let f = c.in_ok-fields in
    let r = c.record_of in
    gave_whole c.args.line.now (omega arith) f.fields f.ensures c.if-fields-line.false r.result r.ensures
