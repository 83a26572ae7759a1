-- `parse_tcp::layout::parse_olayout` meets its contract.
use mathlib.Core.Path.{sym, ◌∙◌}
use Rattle.parse_tcp.proofs.LayoutLaws.{layout_some, layout_none, layout_bad}
use Rattle.parse_tcp.proofs.layout.parse_olayout.Goals as goal

pub returns-in-Ok : goal.returns-in-Ok
returns-in-Ok c = c.more_entries.ensures ∙ layout_some c.args.s.now c.args.from (sym c.in-Ok.ensures)

pub returns-in-Err : goal.returns-in-Err
returns-in-Err c = rw c.if-bad-from.true (layout_none c.args.s.now c.args.from (sym c.in-Err.ensures) c.if-bad-from.true)

pub returns-in-Err-2 : goal.returns-in-Err-2
returns-in-Err-2 c = layout_bad c.args.s.now c.args.from (sym c.in-Err.ensures) c.if-bad-from.false
