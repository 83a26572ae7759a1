use mathlib.Core.Path.{◌∙◌}
use native.Mathlib.Omega.{arith}
use Rattle.line_writer.proofs.Layouts.{turned_turn}
use borrow.Author.Rules.{rules}
use Rattle.line_writer.proofs.rows.entries_in.Goals as goal

pub loop-i-preserved : goal.loop-i-preserved
loop-i-preserved c =
    let a = c.args.layout in
    let l = c.loop-i in
    let turn = turned_turn a.kinds a.bytes l.entries l.i (search rules) (search rules) (omega arith) l.invariant.1 in
    (turn.0 ∙ l.invariant.0, turn.1)
