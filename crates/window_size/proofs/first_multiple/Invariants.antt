-- `window_size::first_multiple` meets its contract.
use mathlib.Core.Path.{◌≡◌}
use lib.ListN.{drop}
use mathlib.Core.List.{map}
use Rattle.window_size.specs.Divisors.{holding}
use Rattle.window_size.specs.Multiplier.{first_multiple}
use Rattle.window_size.proofs.first_multiple.Given as goal

abbrev pub invariant-loop-divisor : goal.invariant-loop-divisor
invariant-loop-divisor l =
    first_multiple l.wsize (map holding (drop l.divisor-index l.divisor-items)) ≡ first_multiple l.wsize (map holding l.fn.divisors)
