-- `one_field::words::read_ttl_form` meets its contract.
use mathlib.Core.Path.{refl, sym, ◌∙◌}
use mathlib.Core.List.{[], ◌∷◌}
use Rattle.basis.specs.Ascii.{ascii}
use Rattle.grammar.specs.Table.{nothing}
use Rattle.grammar.specs.States.{letters, start, after, done}
use Rattle.signature_line.specs.Words.{ttl_form}
use Rattle.one_field.proofs.PlaceLaws.{whole_word}
use Rattle.one_field.proofs.LetterLaws.{letter_read, letter_last, letter_other}
use Rattle.one_field.proofs.words.read_ttl_form.Goals as goal

pub returns-then-stands : goal.returns-then-stands
unfolding ttl_form after
returns-then-stands c =
    let a = c.args in
    let k = c.stands.ensures in
    letter_read a.s.now a.from 43 k (start ttl_form) c.read_plus.ensures c.if-stands.true refl refl

pub returns-then-stands-2 : goal.returns-then-stands-2
unfolding ttl_form after
returns-then-stands-2 c =
    let a = c.args in
    let k2 = c.stands-2.ensures in
    rw c.whole.ensures
    (letter_last a.s.now a.from 45 k2 (start ttl_form) 3 c.if-stands-2.true refl)

pub returns : goal.returns
unfolding ttl_form after done
returns c =
    let a = c.args in
    let k2 = c.stands-2.ensures in
    let k = c.stands.ensures in
    let value = letters [] 0 nothing in
    let bad = letters (ascii "-") 3 nothing ∷ [] in
    rw c.whole-2.ensures
    (sym (whole_word a.s.now a.from 0)
    ∙ letter_other a.s.now a.from 45 k2 (value ∷ bad) (value ∷ []) c.if-stands-2.false (λ b e. rw e) refl
    ∙ letter_other a.s.now a.from 43 k (start ttl_form) (value ∷ bad) c.if-stands.false
    (λ b e. rw e) refl)
