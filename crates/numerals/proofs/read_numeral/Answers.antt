-- `numerals::read_numeral` meets its contract.
use mathlib.Core.Path.{◌∙◌}
use Rattle.grammar.specs.Numeral.{any}
use Rattle.numerals.proofs.NumberLaws.{gave_none, gave_wanted, all_wanted}
use Rattle.numerals.proofs.read_numeral.Goals as goal

pub returns-then-number-from : goal.returns-then-number-from
returns-then-number-from c =
    let a = c.args in
    let n = c.read_number-number in
    c.no_piece.ensures
    ∙ rw (← c.from.ensures) (gave_none a.form c.from.result any a.s.now a.from n.result n.ensures c.if-number-from.true)

pub returns : goal.returns
returns c =
    let a = c.args in
    let n = c.read_number-number in
    rw (← c.from.ensures)
    (gave_wanted a.form c.from.result any a.s.now a.from n.result n.ensures c.if-number-from.false (all_wanted n.result.value))
