-- `sigrecord::entries_good` meets its contract.
use mathlib.Core.Bool.{true}
use mathlib.Core.Path.{◌≡◌}
use Rattle.sigrecord.specs.Layout.{entries_good}
use Rattle.sigrecord.proofs.entries_good.Given as goal

abbrev pub invariant-loop-i : goal.invariant-loop-i
invariant-loop-i l = entries_good l.entries l.i ≡ true
