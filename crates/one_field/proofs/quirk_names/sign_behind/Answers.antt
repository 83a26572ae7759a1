-- `one_field::quirk_names::sign_behind` meets its contract.
use mathlib.Core.Path.{refl, sym, ◌∙◌}
use mathlib.Core.List.{[], ◌∷◌}
use Rattle.basis.specs.Ascii.{ascii}
use Rattle.grammar.specs.Table.{nothing, row}
use Rattle.grammar.specs.States.{letters, after}
use Rattle.numerals.proofs.Made.{exit}
use Rattle.one_field.proofs.BehindWord.{behind_word, no_word}
use Rattle.one_field.proofs.LetterLaws.{letter_last, either_other}
use Rattle.one_field.proofs.quirk_names.sign_behind.Goals as goal

pub returns-in_err-at : goal.returns-in_err-at
returns-in_err-at g c =
    let a = c.args in
    let e = c.in_err-at in
    let said = c.from_residual.ensures in exit said.1
    ∙ no_word a.s.now a.from a.word.now (ascii "+") a.plus nothing (row (ascii "-") a.minus nothing ∷ []) e.field-0.0 (sym e.ensures)

pub returns-then-stands : goal.returns-then-stands
unfolding after
returns-then-stands g c =
    let a = c.args in
    let w = c.in_ok-at in
    let signs = letters (ascii "+") a.plus nothing ∷ letters (ascii "-") a.minus nothing ∷ [] in
    rw c.whole.ensures
    (letter_last a.s.now w.field-0.at 43 c.stands.ensures signs a.plus c.if-stands.true refl
    ∙ behind_word a.s.now a.from a.word.now (ascii "+") a.plus nothing (row (ascii "-") a.minus nothing ∷ []) w.field-0 (sym w.ensures))

pub returns : goal.returns
returns g c =
    let a = c.args in
    let w = c.in_ok-at in
    either_other a.s.now w.field-0.at 43 c.stands.ensures [] a.plus 45 [] a.minus c.read_word-2.ensures c.if-stands.false
    ∙ behind_word a.s.now a.from a.word.now (ascii "+") a.plus nothing (row (ascii "-") a.minus nothing ∷ []) w.field-0 (sym w.ensures)
