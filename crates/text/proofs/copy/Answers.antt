-- `text::copy` meets its contract.
use lib.Seq.{paste-zero}
use native.Mathlib.Omega.{arith}
use mathlib.Core.Path.{refl, ◌∙◌}
use Rattle.text.proofs.Writing.{copied, copy_turn}
use borrow.Author.Rules.{rules}
use Rattle.text.proofs.copy.Goals as goal

pub loop-i-init : goal.loop-i-init
loop-i-init c = (search rules, paste-zero c.args.buffer.now c.args.at c.args.word.now)

pub loop-i-preserved : goal.loop-i-preserved
loop-i-preserved c =
    let a = c.args in
    let l = c.loop-i in (
      search rules,
      copy_turn a.buffer.now l.buffer a.word.now a.at l.i (omega (arith, c.requires, c.loop-i-test.true)) c.loop-i-test.true l.invariant.1,
    )

pub returns : goal.returns
returns c =
    let a = c.args in
    let l = c.loop-i in
    (refl, l.invariant.1 ∙ copied a.buffer.now a.word.now a.at l.i (omega (arith, c.loop-i-test.false, l.auto.i-end)))
