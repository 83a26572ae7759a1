-- `parse_tcp::layout::more_entries` meets its contract.
use mathlib.Core.Path.{sym, ◌∙◌}
use native.Mathlib.Omega.{arith}
use Rattle.numerals.proofs.Made.{exit}
use Rattle.parse_tcp.proofs.LayoutLaws.{entries_full, entries_end, entries_bad, entries_turn}
use Rattle.parse_tcp.proofs.layout.more_entries.Goals as goal

pub returns-in_default : goal.returns-in_default
returns-in_default c =
    let l = c.loop-count in
    entries_end l.count l.kinds l.bytes c.args.s.now l.at c.loop-count-test.true (sym c.in_default.ensures) ∙ l.invariant

pub returns-in_err-entry : goal.returns-in_err-entry
returns-in_err-entry c =
    let l = c.loop-count in
    let said = c.from_residual.ensures in exit said.1
    ∙ entries_bad l.count l.kinds l.bytes c.args.s.now l.at c.loop-count-test.true (sym c.in-Ok.ensures) (sym c.in_err-entry.ensures)
    ∙ l.invariant

pub loop-count-preserved : goal.loop-count-preserved
loop-count-preserved c =
    let l = c.loop-count in
    rw (c.entry_kind-in-loop-count.ensures, c.entry_byte-in-loop-count.ensures)
    (entries_turn l.count l.kinds l.bytes c.args.s.now l.at c.loop-count-test.true (sym c.in-Ok.ensures) (sym c.in_ok-entry.ensures)
    ∙ l.invariant)

pub returns : goal.returns
returns c =
    let l = c.loop-count in
    entries_full l.count l.kinds l.bytes c.args.s.now l.at (omega arith) ∙ l.invariant
