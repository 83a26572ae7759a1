use mathlib.Core.Path.{◌≡◌}
use Prim.Native.Nat.{◌+◌, ◌*◌, ◌≤◌}
use Rattle.line_writer.proofs.Layouts.{bytes_left}
use Rattle.line_writer.proofs.rows.Entries.row_length.Given as goal

abbrev pub invariant-loop-i : goal.invariant-loop-i
invariant-loop-i l = (l.size ≤ 10 * l.i) × (l.size + bytes_left l.entries l.i ≡ bytes_left l.entries 0)
