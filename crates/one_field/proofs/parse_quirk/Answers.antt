-- `one_field::parse_quirk` meets its contract.
use mathlib.Core.Path.{refl, sym, ◌∙◌}
use native.Mathlib.Omega.{arith}
use Rattle.quirks.specs.Quirks.{place_of, bit_of}
use Rattle.basis.proofs.Rules.{cases}
use Rattle.grammar.specs.States.{start, after, done}
use Rattle.signature_line.specs.Words.{quirk_word}
use Rattle.one_field.proofs.PlaceLaws.{ends, stays, goes_on}
use Rattle.one_field.proofs.parse_quirk.Goals as goal

pub returns-then-s-from : goal.returns-then-s-from
unfolding quirk_word done
returns-then-s-from c =
    let a = c.args in
    c.no_piece.ensures ∙ sym (ends a.s.now a.from (start quirk_word) c.if-s-from.true)

pub returns-in-100 : goal.returns-in-100
unfolding quirk_word after bit_of place_of
returns-in-100 c =
    let a = c.args in
    goes_on a.s.now a.from (start quirk_word) 100 c.read_word.ensures (omega arith) c.in-100.is refl refl

pub returns-in-105 : goal.returns-in-105
unfolding quirk_word after bit_of place_of
returns-in-105 c =
    let a = c.args in
    goes_on a.s.now a.from (start quirk_word) 105 c.sign_behind.ensures (omega arith) c.in-105.is refl refl

pub returns-in-101 : goal.returns-in-101
unfolding quirk_word after bit_of place_of
returns-in-101 c =
    let a = c.args in
    goes_on a.s.now a.from (start quirk_word) 101 c.read_behind_e.ensures (omega arith) c.in-101.is refl refl

pub returns-in-48 : goal.returns-in-48
unfolding quirk_word after bit_of place_of
returns-in-48 c =
    let a = c.args in
    goes_on a.s.now a.from (start quirk_word) 48 c.read_word-in-48.ensures (omega arith) c.in-48.is refl refl

pub returns-in-102 : goal.returns-in-102
unfolding quirk_word after bit_of place_of
returns-in-102 c =
    let a = c.args in
    goes_on a.s.now a.from (start quirk_word) 102 c.read_word-in-102.ensures (omega arith) c.in-102.is refl refl

pub returns-in-115 : goal.returns-in-115
unfolding quirk_word after bit_of place_of
returns-in-115 c =
    let a = c.args in
    goes_on a.s.now a.from (start quirk_word) 115 c.read_word-in-115.ensures (omega arith) c.in-115.is refl refl

pub returns-in-97 : goal.returns-in-97
unfolding quirk_word after bit_of place_of
returns-in-97 c =
    let a = c.args in
    goes_on a.s.now a.from (start quirk_word) 97 c.sign_behind-in-97.ensures (omega arith) c.in-97.is refl refl

pub returns-in-117 : goal.returns-in-117
unfolding quirk_word after bit_of place_of
returns-in-117 c =
    let a = c.args in
    goes_on a.s.now a.from (start quirk_word) 117 c.read_behind_u.ensures (omega arith) c.in-117.is refl refl

pub returns-in-112 : goal.returns-in-112
unfolding quirk_word after bit_of place_of
returns-in-112 c =
    let a = c.args in
    goes_on a.s.now a.from (start quirk_word) 112 c.read_word-in-112.ensures (omega arith) c.in-112.is refl refl

pub returns-in-116 : goal.returns-in-116
unfolding quirk_word after bit_of place_of
returns-in-116 c =
    let a = c.args in
    goes_on a.s.now a.from (start quirk_word) 116 c.read_stamp.ensures (omega arith) c.in-116.is refl refl

pub returns-in-111 : goal.returns-in-111
unfolding quirk_word after bit_of place_of
returns-in-111 c =
    let a = c.args in
    goes_on a.s.now a.from (start quirk_word) 111 c.read_word-in-111.ensures (omega arith) c.in-111.is refl refl

pub returns-in-98 : goal.returns-in-98
unfolding quirk_word after bit_of place_of
returns-in-98 c =
    let a = c.args in
    goes_on a.s.now a.from (start quirk_word) 98 c.read_word-in-98.ensures (omega arith) c.in-98.is refl refl

pub returns-in_default : goal.returns-in_default
unfolding quirk_word after done
returns-in_default c =
    let a = c.args in
    c.no_piece-in_default.ensures ∙ sym (stays a.s.now a.from (start quirk_word) (omega arith) (search cases))
