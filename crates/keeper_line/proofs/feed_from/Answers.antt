-- `keeper_line::feed_from` meets its contract.
use mathlib.Core.Path.{◌≡◌, ◌∙◌}
use Rattle.keeper_line.proofs.LineEnds.{feed_here, feed_turn, feed_past}
use borrow.Author.Rules.{rules}
use Rattle.keeper_line.proofs.feed_from.Goals as goal

pub returns-then-file-i-eq10 : goal.returns-then-file-i-eq10
returns-then-file-i-eq10 c =
    let l = c.loop-i in
    feed_here _ l.i c.loop-i-test.true c.if-file-i-eq10.true ∙ l.invariant.1

pub loop-i-preserved : goal.loop-i-preserved
loop-i-preserved c =
    let l = c.loop-i in (search rules, feed_turn _ l.i c.loop-i-test.true c.if-file-i-eq10.false ∙ l.invariant.1)

pub returns : goal.returns
returns c =
    let l = c.loop-i in
    let q : c.max.result ≡ l.i = search rules in
    q ∙ feed_past _ l.i (search rules) ∙ l.invariant.1
