use mathlib.Core.Path.{◌∙◌}
use Rattle.list_compiler.proofs.Passes.{check_bad, check_good, all_good}
use Rattle.list_compiler.proofs.first_bad.Goals as goal

pub returns-in-Err : goal.returns-in-Err
returns-in-Err c = rw (c.refused.ensures, c.from.ensures) (check_bad c.in-Some.ensures.steps c.in-Err.is ∙ c.loop-line.invariant)

pub loop-line-preserved : goal.loop-line-preserved
loop-line-preserved c = check_good c.in-Some.ensures.steps c.in_default.is ∙ c.loop-line.invariant

pub returns : goal.returns
returns c = let steps = c.in-None.ensures.steps in all_good steps.0 ∙ c.loop-line.invariant
