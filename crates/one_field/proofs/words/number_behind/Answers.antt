-- `one_field::words::number_behind` meets its contract.
use mathlib.Core.Path.{◌∙◌, sym}
use mathlib.Core.List.{[]}
use Rattle.numerals.proofs.Made.{exit}
use Rattle.signature_line.specs.Words.{up_to255}
use Rattle.one_field.proofs.BehindWord.{behind_word, no_word}
use Rattle.one_field.proofs.words.number_behind.Goals as goal

pub returns-in_err-word : goal.returns-in_err-word
returns-in_err-word g c =
    let a = c.args in
    let said = c.from_residual.ensures in exit said.1 ∙ no_word a.s.now a.from a.word.now [] a.form up_to255 [] c.in_err-word.field-0.0
    (sym c.in_err-word.ensures)

pub returns : goal.returns
returns g c =
    let a = c.args in
    let w = c.in_ok-word in
    c.read_numeral.ensures ∙ behind_word a.s.now a.from a.word.now [] a.form up_to255 [] w.word (sym w.ensures)
