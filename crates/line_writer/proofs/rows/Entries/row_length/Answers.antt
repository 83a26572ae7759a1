use native.Mathlib.Omega.{arith}
use Rattle.line_writer.proofs.Layouts.{none_left, entry_few, length_turn, length_last}
use borrow.Author.Rules.{rules}
use Rattle.line_writer.proofs.rows.Entries.row_length.Goals as goal

pub returns-then-count-eq0 : goal.returns-then-count-eq0
returns-then-count-eq0 c = none_left c.args.self.bytes.now (omega arith)

pub overflow_add-size : goal.overflow_add-size
overflow_add-size c =
    let few = entry_few _ _ c.option_length.ensures in
    search rules

pub overflow_add-size-in-loop-i : goal.overflow_add-size-in-loop-i
overflow_add-size-in-loop-i c =
    let few = entry_few _ _ c.option_length.ensures in
    search rules

pub loop-i-preserved : goal.loop-i-preserved
loop-i-preserved c =
    let word = c.option_length in
    let l = c.loop-i in
    let e = c.args.self.bytes.now in
    let few = entry_few _ _ word.ensures in
    (omega arith, length_turn e l.i l.size word.result c.loop-i-test.true word.ensures l.invariant.1)

pub returns : goal.returns
returns c =
    let l = c.loop-i in
    length_last c.args.self.bytes.now l.i l.size (omega arith) c.loop-i-test.false l.invariant.1
