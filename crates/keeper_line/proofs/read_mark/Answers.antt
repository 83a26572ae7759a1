-- `keeper_line::read_mark` meets its contract.
use mathlib.Core.Path.{sym, ◌∙◌}
use Rattle.numerals.proofs.Made.{exit}
use Rattle.keeper_line.proofs.Marks.{no_mark, half_a_mark, whole_mark}
use Rattle.keeper_line.proofs.read_mark.Goals as goal

pub returns-in_default : goal.returns-in_default
returns-in_default c = no_mark c.args.s.now c.args.at (sym c.in_default.ensures)

pub returns-in_err-end : goal.returns-in_err-end
returns-in_err-end c =
    let said = c.from_residual.ensures in exit said.1 ∙ half_a_mark c.args.s.now c.args.at (sym c.in-Ok.ensures) (sym c.in_err-end.ensures)

pub returns : goal.returns
returns c = whole_mark c.args.s.now c.args.at (sym c.in-Ok.ensures) (sym c.in_ok-end.ensures)
