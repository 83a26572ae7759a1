-- `one_field::quirk_names::read_behind_u` meets its contract.
use mathlib.Core.Path.{refl}
use Rattle.basis.specs.Ascii.{ascii}
use Rattle.quirks.specs.Quirks.{place_of, bit_of}
use Rattle.one_field.proofs.LetterLaws.{either_one, either_other}
use Rattle.one_field.proofs.quirk_names.read_behind_u.Goals as goal

pub returns-then-stands : goal.returns-then-stands
unfolding bit_of place_of
returns-then-stands c =
    let a = c.args in
    let k = c.stands.ensures in
    either_one a.s.now a.from 112 k (ascii "tr+") 32768 114 (ascii "gf+") 65536 refl
    c.read_word.ensures c.if-stands.true

pub returns : goal.returns
unfolding bit_of place_of
returns c =
    let a = c.args in
    let k = c.stands.ensures in
    either_other a.s.now a.from 112 k (ascii "tr+") 32768 114 (ascii "gf+") 65536
    c.read_word-2.ensures c.if-stands.false
