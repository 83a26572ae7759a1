-- `one_field::words::read_plus` meets its contract.
use mathlib.Core.Path.{refl, ◌∙◌}
use mathlib.Core.List.{List, [], ◌∷◌}
use Rattle.basis.specs.Ascii.{ascii}
use Rattle.grammar.specs.Table.{nothing}
use Rattle.grammar.specs.States.{Awaited, letters, fits, after, done}
use Rattle.signature_line.specs.Words.{up_to255}
use Rattle.one_field.proofs.LetterLaws.{letter_last, letter_other}
use Rattle.one_field.proofs.words.read_plus.Goals as goal

abbrev forms : List Awaited
forms = letters [] 1 up_to255 ∷ letters (ascii "?") 2 nothing ∷ []

pub returns-then-stands : goal.returns-then-stands
unfolding after fits
returns-then-stands c =
    let a = c.args in
    let k = c.stands.ensures in
    rw c.whole.ensures (letter_last a.s.now a.from 63 k forms 2 c.if-stands.true refl)

pub returns : goal.returns
unfolding after done
returns c =
    let a = c.args in
    let k = c.stands.ensures in
    c.read_numeral.ensures
    ∙ letter_other a.s.now a.from 63 k forms (letters [] 1 up_to255 ∷ []) c.if-stands.false
    (λ b e. rw e) refl
