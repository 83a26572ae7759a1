-- `one_field::parse_tcp_option` meets its contract.
use mathlib.Core.Path.{refl, sym, ◌∙◌}
use native.Mathlib.Omega.{arith}
use Rattle.basis.proofs.Rules.{cases}
use Rattle.grammar.specs.States.{start, after, done}
use Rattle.signature_line.specs.Words.{entry}
use Rattle.one_field.proofs.PlaceLaws.{ends, stays, goes_on}
use Rattle.one_field.proofs.parse_tcp_option.Goals as goal

pub returns-then-s-from : goal.returns-then-s-from
unfolding entry done
returns-then-s-from c =
    let a = c.args in
    c.no_piece.ensures ∙ sym (ends a.s.now a.from (start entry) c.if-s-from.true)

pub returns-in-110 : goal.returns-in-110
unfolding entry after
returns-in-110 c =
    let a = c.args in
    goes_on a.s.now a.from (start entry) 110 c.read_word.ensures (omega arith) c.in-110.is refl refl

pub returns-in-109 : goal.returns-in-109
unfolding entry after
returns-in-109 c =
    let a = c.args in
    goes_on a.s.now a.from (start entry) 109 c.read_word-in-109.ensures (omega arith) c.in-109.is refl refl

pub returns-in-119 : goal.returns-in-119
unfolding entry after
returns-in-119 c =
    let a = c.args in
    goes_on a.s.now a.from (start entry) 119 c.read_word-in-119.ensures (omega arith) c.in-119.is refl refl

pub returns-in-115 : goal.returns-in-115
unfolding entry after
returns-in-115 c =
    let a = c.args in
    goes_on a.s.now a.from (start entry) 115 c.read_behind_s.ensures (omega arith) c.in-115.is refl refl

pub returns-in-116 : goal.returns-in-116
unfolding entry after
returns-in-116 c =
    let a = c.args in
    goes_on a.s.now a.from (start entry) 116 c.read_word-in-116.ensures (omega arith) c.in-116.is refl refl

pub returns-in-101 : goal.returns-in-101
unfolding entry after
returns-in-101 c =
    let a = c.args in
    goes_on a.s.now a.from (start entry) 101 c.number_behind.ensures (omega arith) c.in-101.is refl refl

pub returns-in-63 : goal.returns-in-63
unfolding entry after
returns-in-63 c =
    let a = c.args in
    goes_on a.s.now a.from (start entry) 63 c.read_unnamed.ensures (omega arith) c.in-63.is refl refl

pub returns-in_default : goal.returns-in_default
unfolding entry after done
returns-in_default c =
    let a = c.args in
    c.no_piece-in_default.ensures ∙ sym (stays a.s.now a.from (start entry) (omega arith) (search cases))
