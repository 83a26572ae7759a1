-- `numerals::read_number` meets its contract.
use mathlib.Core.Path.{◌≡◌, ◌∙◌}
use Rattle.basis.specs.Bytes.{byte_at}
use Rattle.numerals.proofs.NumberLaws.{turn, stop, finish, passed, failed, bounds}
use borrow.Author.Rules.{rules}
use Rattle.numerals.proofs.read_number.Goals as goal

pub returns-then-not-digit_fits : goal.returns-then-not-digit_fits
returns-then-not-digit_fits c =
    let a = c.args in
    let l = c.loop-at in
    let t = c.digit_fits in
    stop a.max l.value a.s.now l.at c.loop-at-test.true
    (failed t.result a.max l.value (byte_at a.s.now l.at) t.ensures c.if-not-digit_fits.true)
    ∙ l.invariant.2

pub overflow_sub-byte : goal.overflow_sub-byte
overflow_sub-byte c =
    let a = c.args in
    let l = c.loop-at in
    let t = c.digit_fits in
    let d = bounds t.result a.max l.value (byte_at a.s.now l.at) t.ensures c.if-not-digit_fits.false in
    d.0

pub loop-at-preserved : goal.loop-at-preserved
loop-at-preserved c =
    let a = c.args in
    let l = c.loop-at in
    let t = c.digit_fits in
    let d = bounds t.result a.max l.value (byte_at a.s.now l.at) t.ensures c.if-not-digit_fits.false in
    rw c.from.ensures (
      search rules,
      d.2,
      turn a.max l.value a.s.now l.at c.loop-at-test.true
          (passed t.result a.max l.value (byte_at a.s.now l.at) t.ensures c.if-not-digit_fits.false)
          ∙ l.invariant.2,
    )

pub returns : goal.returns
returns c =
    let a = c.args in
    let l = c.loop-at in
    let q : c.max.result ≡ l.at = search rules in
    rw q (finish a.max l.value a.s.now l.at (search rules) ∙ l.invariant.2)
