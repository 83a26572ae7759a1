use mathlib.Core.Path.{◌≡◌}
use lib.ListN.{length}
use Rattle.bundle_lines.proofs.write_packets.Given as goal

abbrev pub invariant-loop : goal.invariant-loop
invariant-loop g l = length l.line ≡ 452
