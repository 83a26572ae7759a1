use Prim.Native.Nat.{◌≤◌}
use Rattle.explain.proofs.gates.Compared.write_chosen.Given as goal

abbrev pub invariant-loop-i : goal.invariant-loop-i
invariant-loop-i l = l.found ≤ l.i
