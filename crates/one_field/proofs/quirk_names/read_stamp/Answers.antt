-- `one_field::quirk_names::read_stamp` meets its contract.
use Prim.Native.Nat.{◌+◌}
use mathlib.Core.Path.{refl, ◌∙◌}
use mathlib.Core.List.{List, [], ◌∷◌}
use Rattle.basis.specs.Ascii.{ascii}
use Rattle.quirks.specs.Quirks.{place_of, bit_of}
use Rattle.grammar.specs.Table.{nothing}
use Rattle.grammar.specs.States.{Awaited, letters, after, done}
use Rattle.one_field.proofs.LetterLaws.{letter_read, letter_missing, either_one, either_other}
use Rattle.one_field.proofs.quirk_names.read_stamp.Goals as goal

abbrev stamps : List Awaited
stamps = letters (ascii "s1-") 16777216 nothing ∷ letters (ascii "s2+") 33554432 nothing ∷ []

pub returns-then-not-stands : goal.returns-then-not-stands
unfolding after done bit_of place_of
returns-then-not-stands c =
    let a = c.args in
    let k = c.stands in
    c.no_piece.ensures ∙ letter_missing a.s.now a.from 115 k.ensures stamps (c.if-not-stands.true) (λ b e. rw e) refl

pub returns-then-stands : goal.returns-then-stands
unfolding after bit_of place_of
returns-then-stands c =
    let a = c.args in
    let k2 = c.stands-2.ensures in
    let k = c.stands in
    letter_read a.s.now a.from 115 k.ensures stamps
    (either_one a.s.now (a.from + 1) 49 k2 (ascii "-") 16777216 50 (ascii "+") 33554432 refl
    c.read_word.ensures c.if-stands.true)
    (c.if-not-stands.false) refl refl

pub returns : goal.returns
unfolding after bit_of place_of
returns c =
    let a = c.args in
    let k2 = c.stands-2.ensures in
    let k = c.stands in
    letter_read a.s.now a.from 115 k.ensures stamps
    (either_other a.s.now (a.from + 1) 49 k2 (ascii "-") 16777216 50 (ascii "+") 33554432
    c.read_word-2.ensures c.if-stands.false)
    (c.if-not-stands.false) refl refl
