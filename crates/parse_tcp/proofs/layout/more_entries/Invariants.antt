-- `parse_tcp::layout::more_entries` meets its contract.
use mathlib.Core.Path.{◌≡◌}
use Rattle.parse_tcp.specs.RowPieces.{kept_at, kept_from}
use Rattle.parse_tcp.proofs.layout.more_entries.Given as goal

abbrev pub invariant-loop-count : goal.invariant-loop-count
invariant-loop-count l = kept_at l.count l.kinds l.bytes l.s l.at ≡ kept_from l.s l.fn.first
