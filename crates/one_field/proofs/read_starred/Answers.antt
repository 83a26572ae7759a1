-- `one_field::read_starred` meets its contract.
use mathlib.Core.Path.{refl, ◌∙◌}
use mathlib.Core.List.{[], ◌∷◌}
use Rattle.grammar.specs.Numeral.{any}
use Rattle.grammar.specs.Table.{numeral}
use Rattle.grammar.specs.States.{letters, start, fits, after, done}
use Rattle.one_field.specs.Places.{starred}
use Rattle.one_field.proofs.LetterLaws.{letter_last, letter_other}
use Rattle.one_field.proofs.read_starred.Goals as goal

pub returns-then-stands : goal.returns-then-stands
unfolding after fits
returns-then-stands c =
    let a = c.args in
    let k = c.stands.ensures in
    rw c.whole.ensures
    (letter_last a.s.now a.from 42 k (start (starred a.max)) 0 c.if-stands.true refl)

pub returns : goal.returns
unfolding after done
returns c =
    let a = c.args in
    c.read_numeral.ensures
    ∙ letter_other a.s.now a.from 42 c.stands.ensures (start (starred a.max))
    (letters [] 1 (numeral a.max any) ∷ []) c.if-stands.false (λ b e. rw e) refl
