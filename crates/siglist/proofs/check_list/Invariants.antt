-- `siglist::check_list` meets its contract.
use Rattle.siglist.specs.List.{records_from, check_list}
use Prim.Native.Nat.{◌-◌}
use mathlib.Core.Path.{◌≡◌}
use Rattle.siglist.proofs.check_list.Given as goal

abbrev pub invariant-loop-i : goal.invariant-loop-i
invariant-loop-i l = records_from l.list l.i (l.i-end - l.i) ≡ check_list l.list
