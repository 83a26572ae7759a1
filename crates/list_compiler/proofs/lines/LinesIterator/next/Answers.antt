use mathlib.Core.Path.{sym, ◌∙◌, ap}
use lib.ListN.{length}
use native.Mathlib.Omega.{arith}
use Rattle.keeper_line.proofs.Turns.{goes_further, stays_within}
use Rattle.list_compiler.specs.FileLines.{lines_left}
use Rattle.list_compiler.proofs.Walk.{left_passed, left_kept, left_end}
use Rattle.list_compiler.proofs.lines.LinesIterator.next.Goals as goal

pub invariant_of-self : goal.invariant_of-self
invariant_of-self c =
    let l = c.loop-self.self in
    let further = goes_further _ l.at c.loop-self-test.true c.kept_at-line.result c.kept_at-line.ensures in
    record {
      within = stays_within _ l.at c.loop-self-test.true c.kept_at-line.result c.kept_at-line.ensures;
      counted = omega (arith, further, l.counted);
    }

pub returns-in-Some-clause-steps : goal.returns-in-Some-clause-steps
unfolding lines_left
returns-in-Some-clause-steps c =
    let l = c.loop-self.self in
    sym c.loop-self.invariant
    ∙ left_kept _ l.at c.loop-self-test.true c.kept_at-line.result c.kept_at-line.ensures l.number c.in-Some.is

pub returns-in-Some-clause-goes : goal.returns-in-Some-clause-goes
returns-in-Some-clause-goes c =
    let steps = ap length (returns-in-Some-clause-steps c) in
    record {
      on = λ _. (tt, tt, omega (arith, steps));
      keeps = tt;
      rests = λ _. tt;
    }

pub loop-self-smaller : goal.loop-self-smaller
loop-self-smaller c =
    let l = c.loop-self.self in
    let further = goes_further _ l.at c.loop-self-test.true c.kept_at-line.result c.kept_at-line.ensures in
    omega (arith, further, l.within)

pub loop-self-preserved : goal.loop-self-preserved
unfolding lines_left
loop-self-preserved c =
    let l = c.loop-self.self in
    sym (left_passed _ l.at c.loop-self-test.true c.kept_at-line.result c.kept_at-line.ensures l.number c.in_default.is)
    ∙ c.loop-self.invariant

pub returns-clause-steps : goal.returns-clause-steps
unfolding lines_left
returns-clause-steps c =
    let l = c.loop-self.self in
    let end = left_end _ l.number l.at c.loop-self-test.false in
    (sym c.loop-self.invariant ∙ end, end)
