-- `parse_tcp::quirk_set::more_names` meets its contract.
use Prim.Native.Nat.{◌-◌}
use lib.ListN.{length}
use Rattle.parse_tcp.specs.RowPieces.{names_from}
use Rattle.parse_tcp.proofs.QuirkLaws.{NamesLeft}
use Rattle.parse_tcp.proofs.quirk_set.more_names.Given as goal

abbrev pub invariant-loop-next : goal.invariant-loop-next
invariant-loop-next l = NamesLeft l.bits l.s l.at (names_from l.s l.fn.first)

abbrev pub decreases-loop-next : goal.decreases-loop-next
decreases-loop-next l = length l.s - l.at
