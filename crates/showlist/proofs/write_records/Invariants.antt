use mathlib.Core.Path.{◌≡◌}
use lib.ListN.{length}
use Rattle.showlist.proofs.write_records.Given as goal

abbrev pub invariant-loop-i : goal.invariant-loop-i
invariant-loop-i l = length l.line ≡ 443
