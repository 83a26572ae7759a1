-- `parse_tcp::quirk_set::parse_quirks` meets its contract.
use mathlib.Core.Path.{sym, ◌∙◌}
use Rattle.parse_tcp.proofs.QuirkLaws.{quirks_some, quirks_none, quirks_bad}
use Rattle.parse_tcp.proofs.quirk_set.parse_quirks.Goals as goal

pub returns-in-Ok : goal.returns-in-Ok
returns-in-Ok c = c.more_names.ensures ∙ quirks_some c.args.s.now c.args.from (sym c.in-Ok.ensures)

pub returns-in-Err : goal.returns-in-Err
returns-in-Err c = quirks_none c.args.s.now c.args.from (sym c.in-Err.ensures) c.if-bad-from.true

pub returns-in-Err-2 : goal.returns-in-Err-2
returns-in-Err-2 c = quirks_bad c.args.s.now c.args.from (sym c.in-Err.ensures) c.if-bad-from.false
