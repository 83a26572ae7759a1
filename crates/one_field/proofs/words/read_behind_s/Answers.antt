-- `one_field::words::read_behind_s` meets its contract.
use mathlib.Core.Path.{refl}
use Rattle.basis.specs.Ascii.{ascii}
use Rattle.one_field.proofs.LetterLaws.{either_one, either_other}
use Rattle.one_field.proofs.words.read_behind_s.Goals as goal

pub returns-then-stands : goal.returns-then-stands
returns-then-stands c =
    let a = c.args in
    either_one a.s.now a.from 111 c.stands.ensures (ascii "k") 4 97 (ascii "ck") 5 refl
    c.read_word.ensures c.if-stands.true

pub returns : goal.returns
returns c =
    let a = c.args in
    either_other a.s.now a.from 111 c.stands.ensures (ascii "k") 4 97 (ascii "ck") 5
    c.read_word-2.ensures c.if-stands.false
