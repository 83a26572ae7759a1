-- `one_field::letters::read_word` meets its contract.
use mathlib.Core.Path.{sym, ◌∙◌}
use native.Mathlib.Omega.{arith}
use Rattle.numerals.proofs.Made.{exit}
use Rattle.one_field.proofs.LetterLaws.{word_on, word_off, word_end}
use borrow.Author.Rules.{rules}
use Rattle.one_field.proofs.letters.read_word.Goals as goal

pub returns-in_err-at : goal.returns-in_err-at
returns-in_err-at g c =
    let a = c.args in
    let l = c.loop-byte in
    let e = c.in_err-at in
    let said = c.from_residual.ensures in exit said.1
    ∙ word_off a.s.now l.at a.word.now a.form l.byte-index (search rules) e.field-0.0 (sym e.ensures)
    ∙ l.invariant

pub loop-byte-preserved : goal.loop-byte-preserved
loop-byte-preserved g c =
    let a = c.args in
    let l = c.loop-byte in
    let w = c.in_ok-at in
    word_on a.s.now l.at a.word.now a.form l.byte-index (search rules) w.at (sym w.ensures) ∙ l.invariant

pub returns : goal.returns
returns g c =
    let a = c.args in
    let l = c.loop-byte in
    rw c.whole.ensures (word_end a.s.now l.at a.word.now a.form l.byte-index (omega arith) ∙ l.invariant)
