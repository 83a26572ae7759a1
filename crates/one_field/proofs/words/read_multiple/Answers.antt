-- `one_field::words::read_multiple` meets its contract.
use mathlib.Core.Path.{refl, sym, ◌∙◌}
use native.Mathlib.Omega.{arith}
use mathlib.Core.List.{List, [], ◌∷◌}
use Rattle.basis.proofs.Rules.{cases}
use Rattle.basis.specs.Ascii.{ascii}
use Rattle.grammar.specs.States.{Awaited, letters, after, done}
use Rattle.signature_line.specs.Words.{up_to255}
use Rattle.one_field.proofs.PlaceLaws.{ends, stays, goes_on}
use Rattle.one_field.proofs.words.read_multiple.Goals as goal

abbrev multiples : List Awaited
multiples = letters (ascii "ss*") 3 up_to255 ∷ letters (ascii "tu*") 4 up_to255 ∷ []

pub returns-then-s-from : goal.returns-then-s-from
unfolding done
returns-then-s-from c =
    let a = c.args in
    c.no_piece.ensures ∙ sym (ends a.s.now a.from multiples c.if-s-from.true)

pub returns-in-115 : goal.returns-in-115
unfolding after
returns-in-115 c =
    let a = c.args in
    goes_on a.s.now a.from multiples 115 c.number_behind.ensures (omega arith) c.in-115.is refl refl

pub returns-in-116 : goal.returns-in-116
unfolding after
returns-in-116 c =
    let a = c.args in
    goes_on a.s.now a.from multiples 116 c.number_behind-in-116.ensures (omega arith) c.in-116.is refl refl

pub returns-in_default : goal.returns-in_default
unfolding after done
returns-in_default c =
    let a = c.args in
    c.no_piece-in_default.ensures ∙ sym (stays a.s.now a.from multiples (omega arith) (search cases))
