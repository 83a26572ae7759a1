-- `window_size::first_multiple` meets its contract.
use mathlib.Core.Path.{sym, ◌∙◌}
use native.Mathlib.Omega.{arith}
use borrow.Author.Rules.{rules}
use Rattle.window_size.proofs.Laws.{divides_nonzero, turn_hit, turn_miss, turns_end}
use Rattle.window_size.proofs.first_multiple.Goals as goal

pub nonzero_div-result : goal.nonzero_div-result
nonzero_div-result c = let nonzero = divides_nonzero _ _ (sym c.if-divides.ensures) in omega arith

pub returns-then-divides : goal.returns-then-divides
returns-then-divides c =
    sym (turn_hit _ _ c.loop-divisor.divisor-index (search rules) (sym c.if-divides.ensures)) ∙ c.loop-divisor.invariant

pub loop-divisor-preserved : goal.loop-divisor-preserved
loop-divisor-preserved c =
    turn_miss _ _ c.loop-divisor.divisor-index (search rules) (sym c.if-divides.ensures) ∙ c.loop-divisor.invariant

pub returns : goal.returns
returns c = sym (turns_end _ _ c.loop-divisor.divisor-index (search rules)) ∙ c.loop-divisor.invariant
