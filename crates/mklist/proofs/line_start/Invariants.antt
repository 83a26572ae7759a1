use Prim.Native.Nat.{◌+◌, ◌≤◌}
use Rattle.mklist.proofs.line_start.Given as goal

abbrev pub invariant-loop-at : goal.invariant-loop-at
invariant-loop-at l = l.line ≤ l.at + 1
