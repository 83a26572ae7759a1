-- `one_field::read_payload_size` meets its contract.
use mathlib.Core.Path.{refl, ◌∙◌}
use mathlib.Core.List.{[], ◌∷◌}
use Rattle.grammar.specs.States.{letters, start, after, done}
use Rattle.grammar.specs.Table.{nothing}
use Rattle.signature_line.specs.Words.{payload}
use Rattle.one_field.proofs.LetterLaws.{letter_last, letter_other}
use Rattle.one_field.proofs.read_payload_size.Goals as goal

pub returns-then-stands : goal.returns-then-stands
unfolding payload after
returns-then-stands c =
    let a = c.args in
    let k = c.stands.ensures in
    rw c.whole.ensures
    (letter_last a.s.now a.from 48 k (start payload) 0 c.if-stands.true refl)

pub returns-then-stands-2 : goal.returns-then-stands-2
unfolding payload after
returns-then-stands-2 c =
    let a = c.args in
    let k2 = c.stands-2.ensures in
    rw c.whole-then-stands-2.ensures
    (letter_last a.s.now a.from 43 k2 (start payload) 1 c.if-stands-2.true refl)

pub returns : goal.returns
unfolding payload after done
returns c =
    let a = c.args in
    let k2 = c.stands-2.ensures in
    let k = c.stands.ensures in
    let third = letters (42 ∷ []) 2 nothing ∷ [] in
    let second = letters (43 ∷ []) 1 nothing ∷ third in
    c.read_word.ensures
    ∙ letter_other a.s.now a.from 43 k2 second third c.if-stands-2.false (λ b e. rw e) refl
    ∙ letter_other a.s.now a.from 48 k (start payload) second c.if-stands.false
    (λ b e. rw e) refl
