use Rattle.std.proofs.Common.{length, ◌-◌, ◌^◌, ◌<◌, ◌≤◌, ◌≡◌}
use Rattle.streams.proofs.read_full.Given as goal

abbrev pub invariant-loop-count : goal.invariant-loop-count
invariant-loop-count l = (length l.buffer ≡ length l.initial.buffer) × (l.count ≤ length l.buffer) × (length l.buffer < 2 ^ 64)

abbrev pub decreases-loop-count : goal.decreases-loop-count
decreases-loop-count l = length l.buffer - l.count
