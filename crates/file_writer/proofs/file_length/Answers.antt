use mathlib.Core.Path.{ap}
use native.Mathlib.Omega.{arith}
use lib.ListN.{length}
use Rattle.file_writer.proofs.Files.{file_whole, length_turn, length_end_lem}
use Rattle.file_writer.proofs.Lines.{shown_short}
use Rattle.file_writer.proofs.file_length.Goals as goal

pub loop-i-init : goal.loop-i-init
loop-i-init c =
    let a = c.args in
    let whole = ap length (file_whole a.list.now a.count c.requires) in
    (omega arith, omega (arith, whole))

pub overflow_add-size : goal.overflow_add-size
overflow_add-size c =
    let l = c.loop-i in
    let short = shown_short c.args.list.now l.i in
    omega (arith, short, c.shown_length-size.ensures, l.invariant.0, c.loop-i-test.true, c.ranges.count)

pub loop-i-preserved : goal.loop-i-preserved
loop-i-preserved c =
    let line = c.shown_length-size in
    let l = c.loop-i in
    let s = c.args.list.now in
    let short = shown_short s l.i in (
      omega (arith, short, line.ensures, l.invariant.0),
      length_turn s c.args.count l.i l.size line.result (λ k. omega (arith, c.type_inv.list k))
          c.requires c.loop-i-test.true line.ensures l.invariant.1,
    )

pub returns : goal.returns
returns c =
    let l = c.loop-i in
    let a = c.args in
    length_end_lem a.list.now a.count l.i l.size c.loop-i-test.false l.invariant.1
