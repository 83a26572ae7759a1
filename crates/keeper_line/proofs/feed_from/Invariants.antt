-- `keeper_line::feed_from` meets its contract.
use Prim.Native.Nat.{◌≤◌, max}
use mathlib.Core.Path.{◌≡◌}
use lib.ListN.{length}
use Rattle.keeper_line.specs.Places.{feed_at}
use Rattle.keeper_line.proofs.feed_from.Given as goal

abbrev pub invariant-loop-i : goal.invariant-loop-i
invariant-loop-i l = (l.i ≤ max l.at (length l.file)) × (feed_at l.file l.i ≡ feed_at l.file l.at)
