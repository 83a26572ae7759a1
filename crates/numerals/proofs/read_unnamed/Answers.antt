-- `numerals::read_unnamed` meets its contract.
use mathlib.Core.Path.{sym, ◌∙◌}
use Rattle.signature_line.specs.Words.{unnamed}
use Rattle.numerals.proofs.NumberLaws.{gave_none, gave_unwanted, gave_wanted}
use Rattle.numerals.proofs.read_unnamed.Goals as goal

pub returns-then-number-from : goal.returns-then-number-from
returns-then-number-from c =
    let a = c.args in
    let n = c.read_number-number in
    c.no_piece.ensures ∙ gave_none 6 255 unnamed a.s.now a.from n.result n.ensures c.if-number-from.true

pub returns-then-not-is_unnamed : goal.returns-then-not-is_unnamed
returns-then-not-is_unnamed c =
    let a = c.args in
    let n = c.read_number-number in
    let t = c.is_unnamed in
    c.no_piece-then-not-is_unnamed.ensures
    ∙ gave_unwanted 6 255 unnamed a.s.now a.from n.result n.ensures c.if-number-from.false
    (sym t.ensures ∙ c.if-not-is_unnamed.true)

pub returns : goal.returns
returns c =
    let a = c.args in
    let n = c.read_number-number in
    let t = c.is_unnamed in
    gave_wanted 6 255 unnamed a.s.now a.from n.result n.ensures c.if-number-from.false
    (sym t.ensures ∙ c.if-not-is_unnamed.false)
