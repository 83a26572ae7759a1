-- `one_field::read_window_size` meets its contract.
use mathlib.Core.Path.{refl, ◌∙◌}
use mathlib.Core.List.{[], ◌∷◌}
use Rattle.basis.specs.Ascii.{ascii}
use Rattle.grammar.specs.States.{letters, start, fits, after, done}
use Rattle.signature_line.specs.Words.{up_to255, up_to65535, window}
use Rattle.one_field.proofs.LetterLaws.{letter_read, letter_last, letter_other}
use Rattle.one_field.proofs.read_window_size.Goals as goal

pub returns-then-stands : goal.returns-then-stands
unfolding window after fits
returns-then-stands c =
    let a = c.args in
    let k = c.stands.ensures in
    rw c.whole.ensures
    (letter_last a.s.now a.from 42 k (start window) 0 c.if-stands.true refl)

pub returns-then-stands-2 : goal.returns-then-stands-2
unfolding window after fits
returns-then-stands-2 c =
    let a = c.args in
    let k2 = c.stands-2.ensures in
    letter_read a.s.now a.from 37 k2 (start window) c.read_numeral.ensures c.if-stands-2.true
    refl refl

pub returns-then-stands-3 : goal.returns-then-stands-3
unfolding window after fits
returns-then-stands-3 c =
    let a = c.args in
    let k3 = c.stands-3.ensures in
    letter_read a.s.now a.from 109 k3 (start window) c.read_multiple.ensures c.if-stands-3.true
    refl refl

pub returns : goal.returns
unfolding window after done
returns c =
    let a = c.args in
    let k3 = c.stands-3.ensures in
    let k2 = c.stands-2.ensures in
    let k = c.stands.ensures in
    let number = letters [] 1 up_to65535 in
    let multiples = letters (ascii "mss*") 3 up_to255 ∷ letters (ascii "mtu*") 4 up_to255 ∷ [] in
    let parts = letters (ascii "%") 2 up_to65535 ∷ multiples in
    c.read_numeral-2.ensures
    ∙ letter_other a.s.now a.from 109 k3 (number ∷ multiples) (number ∷ []) c.if-stands-3.false
    (λ b e. rw e) refl
    ∙ letter_other a.s.now a.from 37 k2 (number ∷ parts) (number ∷ multiples) c.if-stands-2.false
    (λ b e. rw e) refl
    ∙ letter_other a.s.now a.from 42 k (start window) (number ∷ parts) c.if-stands.false
    (λ b e. rw e) refl
