-- `parse_tcp::quirk_set::more_names` meets its contract.
use mathlib.Core.Path.{sym, ◌∙◌}
use Rattle.numerals.proofs.Made.{exit}
use Rattle.parse_tcp.specs.RowPieces.{names_from}
use Rattle.parse_tcp.proofs.QuirkLaws.{names_begin, names_end, names_bad, names_turn, names_less}
use Rattle.parse_tcp.proofs.quirk_set.more_names.Goals as goal

pub loop-next-init : goal.loop-next-init
loop-next-init c = let a = c.args in names_begin a.first.form a.s.now a.first.at

pub returns-in_err-name : goal.returns-in_err-name
returns-in_err-name c =
    let a = c.args in
    let l = c.loop-next in
    let said = c.from_residual.ensures in exit said.1
    ∙ names_bad l.bits a.s.now l.at (names_from a.s.now a.first) l.invariant (sym c.in-Ok.ensures) (sym c.in_err-name.ensures)

pub loop-next-smaller : goal.loop-next-smaller
loop-next-smaller c =
    let a = c.args in
    let l = c.loop-next in
    names_less l.bits a.s.now l.at (names_from a.s.now a.first) l.invariant (sym c.in-Ok.ensures) (sym c.in_ok-name.ensures)

pub loop-next-preserved : goal.loop-next-preserved
loop-next-preserved c =
    let a = c.args in
    let l = c.loop-next in
    names_turn l.bits a.s.now l.at (names_from a.s.now a.first) l.invariant (sym c.in-Ok.ensures) (sym c.in_ok-name.ensures)

pub returns : goal.returns
returns c =
    let a = c.args in
    let l = c.loop-next in
    names_end l.bits a.s.now l.at (names_from a.s.now a.first) l.invariant (sym c.in_default.ensures)
