-- `search::next_alike` meets its contract.
use Rattle.search.proofs.Onward.{none_yet, one_more, two_more, three_more, four_more, here, at_end, of_record}
use Rattle.matching.specs.Asked.{count_and_scale_match}
use Prim.Native.Nat.{◌+◌, ◌*◌}
use native.Mathlib.Omega.{arith}
use borrow.Author.Rules.{rules}
use Rattle.search.proofs.finding.next_alike.Goals as goal

pub loop-i-init : goal.loop-i-init
loop-i-init c =
    let a = c.args in
    let test = count_and_scale_match a.count a.wscale in
    (search rules, c.requires, none_yet test _ _)

pub returns-then-alike_at : goal.returns-then-alike_at
returns-then-alike_at c =
    let l = c.loop-i in
    let a = c.args in
    let test = count_and_scale_match a.count a.wscale in
    let list = a.list.bytes.now in
    let at = a.list.areas.records_offset + 24 * l.i in
    here test _ _ _ l.i l.invariant.0 (search rules) l.invariant.2
    (of_record test list at l.i (omega arith) c.alike_at.ensures c.if-alike_at.true)

pub returns-then-alike_at-2 : goal.returns-then-alike_at-2
returns-then-alike_at-2 c =
    let l = c.loop-i in
    let a = c.args in
    let test = count_and_scale_match a.count a.wscale in
    let list = a.list.bytes.now in
    let at = a.list.areas.records_offset + 24 * l.i in
    here test _ _ _ (l.i + 1) (search rules) (search rules)
    (one_more test _ _ l.i l.invariant.2
    (of_record test list at l.i (omega arith) c.alike_at.ensures c.if-alike_at.false))
    (of_record test list (at + 24) (l.i + 1) (omega arith) c.alike_at-in-loop-i.ensures c.if-alike_at-2.true)

pub returns-then-alike_at-3 : goal.returns-then-alike_at-3
returns-then-alike_at-3 c =
    let l = c.loop-i in
    let a = c.args in
    let test = count_and_scale_match a.count a.wscale in
    let list = a.list.bytes.now in
    let at = a.list.areas.records_offset + 24 * l.i in
    here test _ _ _ (l.i + 2) (search rules) (search rules)
    (two_more test _ _ l.i l.invariant.2
    (of_record test list at l.i (omega arith) c.alike_at.ensures c.if-alike_at.false)
    (of_record test list (at + 24) (l.i + 1) (omega arith) c.alike_at-in-loop-i.ensures c.if-alike_at-2.false))
    (of_record test list (at + 48) (l.i + 2) (omega arith) c.alike_at-in-loop-i-2.ensures c.if-alike_at-3.true)

pub returns-then-alike_at-4 : goal.returns-then-alike_at-4
returns-then-alike_at-4 c =
    let l = c.loop-i in
    let a = c.args in
    let test = count_and_scale_match a.count a.wscale in
    let list = a.list.bytes.now in
    let at = a.list.areas.records_offset + 24 * l.i in
    here test _ _ _ (l.i + 3) (search rules) (search rules)
    (three_more test _ _ l.i l.invariant.2
    (of_record test list at l.i (omega arith) c.alike_at.ensures c.if-alike_at.false)
    (of_record test list (at + 24) (l.i + 1) (omega arith) c.alike_at-in-loop-i.ensures c.if-alike_at-2.false)
    (of_record test list (at + 48) (l.i + 2) (omega arith) c.alike_at-in-loop-i-2.ensures c.if-alike_at-3.false))
    (of_record test list (at + 72) (l.i + 3) (omega arith) c.alike_at-in-loop-i-3.ensures c.if-alike_at-4.true)

pub loop-i-preserved : goal.loop-i-preserved
loop-i-preserved c =
    let l = c.loop-i in
    let a = c.args in
    let test = count_and_scale_match a.count a.wscale in
    let list = a.list.bytes.now in
    let at = a.list.areas.records_offset + 24 * l.i in (
      search rules,
      search rules,
      four_more test _ _ l.i l.invariant.2
          (of_record test list at l.i (omega arith) c.alike_at.ensures c.if-alike_at.false)
          (of_record test list (at + 24) (l.i + 1) (omega arith) c.alike_at-in-loop-i.ensures c.if-alike_at-2.false)
          (of_record test list (at + 48) (l.i + 2) (omega arith) c.alike_at-in-loop-i-2.ensures c.if-alike_at-3.false)
          (of_record test list (at + 72) (l.i + 3) (omega arith) c.alike_at-in-loop-i-3.ensures c.if-alike_at-4.false),
    )

pub loop-i-2-init : goal.loop-i-2-init
loop-i-2-init c = c.loop-i.invariant

pub returns-then-alike_at-5 : goal.returns-then-alike_at-5
returns-then-alike_at-5 c =
    let l = c.loop-i-2 in
    let a = c.args in
    let test = count_and_scale_match a.count a.wscale in
    let list = a.list.bytes.now in
    let at = a.list.areas.records_offset + 24 * l.i in
    here test _ _ _ l.i l.invariant.0 (search rules) l.invariant.2
    (of_record test list at l.i (omega arith) c.alike_at-in-loop-i-2-2.ensures c.if-alike_at-5.true)

pub loop-i-2-preserved : goal.loop-i-2-preserved
loop-i-2-preserved c =
    let l = c.loop-i-2 in
    let a = c.args in
    let test = count_and_scale_match a.count a.wscale in
    let list = a.list.bytes.now in
    let at = a.list.areas.records_offset + 24 * l.i in (
      search rules,
      search rules,
      one_more test _ _ l.i l.invariant.2
          (of_record test list at l.i (omega arith) c.alike_at-in-loop-i-2-2.ensures c.if-alike_at-5.false),
    )

pub returns : goal.returns
returns c =
    let l = c.loop-i-2 in
    let a = c.args in
    at_end (count_and_scale_match a.count a.wscale) _ _ _ l.i l.invariant.0 (omega (arith, l.invariant.1)) l.invariant.2
