use Rattle.std.proofs.Common.{length, ◌+◌, ◌≤◌}
use Rattle.termread.specs.Reached.{Reached}
use Rattle.termread.proofs.send.Given as goal

abbrev pub invariant-loop : goal.invariant-loop
invariant-loop g l = (l.from ≤ length l.text) × Reached (l.taken + l.from)
