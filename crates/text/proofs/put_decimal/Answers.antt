-- `text::put_decimal` meets its contract.
use mathlib.Core.List.{append-nil}
use native.Mathlib.Numerals.{add-one}
use lib.Seq.{take_all}
use Rattle.text.proofs.Writing.{put_none, both}
use Rattle.text.proofs.Decimal.{units, front, front_more, is_reached, not_reached, front_all}
use Rattle.text.proofs.put_decimal.Goals as goal
use Rattle.text.proofs.put_decimal.Goals.{then-unit-n, else-unit-n}

pub loop-unit-init : goal.loop-unit-init
unfolding front
loop-unit-init c = put_none c.args.buffer.now c.args.at

pub loop-unit-preserved : goal.loop-unit-preserved
loop-unit-preserved c =
    let n = c.args.n in
    let l = c.loop-unit in
    let more = front_more n units l.unit-index c.loop-unit-test.true in
    elim c.if-unit-n.branch [
      | then-unit-n w ↦
          let digit = is_reached n _ _ w.if-unit-n.true w.digit.ensures in
          rw (w.next-is, w.buffer-is, add-one, more, digit) (both _ _ _ _ _ _ _ _ l.invariant w.put_byte-next.ensures)
      | else-unit-n w ↦
          let none = not_reached n _ w.if-unit-n.false in
          rw (w.next-is, w.buffer-is, add-one, more, none, append-nil) l.invariant
    ]

pub returns : goal.returns
returns c =
    let l = c.loop-unit in
    let whole = rw (take_all l.unit-index units c.loop-unit-test.false) at l.invariant in
    rw (← front_all c.args.n, ← c.digit-2.ensures) (both _ _ _ _ _ _ _ _ whole c.put_byte.ensures)
