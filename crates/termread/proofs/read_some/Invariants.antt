use Rattle.std.proofs.Common.{length, ◌≡◌}
use Rattle.termread.specs.Came.{ReadAt}
use Rattle.termread.proofs.read_some.Given as goal

abbrev pub invariant-loop : goal.invariant-loop
invariant-loop g l = (length l.buffer ≡ length l.initial.buffer) × ReadAt l.count (length l.initial.buffer) l.got
