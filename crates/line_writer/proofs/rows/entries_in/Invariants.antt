use mathlib.Core.Path.{◌≡◌}
use Prim.Native.Nat.{◌*◌}
use lib.ListN.{length, take}
use Rattle.signature_line.specs.OneRecord.{alternating}
use Rattle.line_writer.proofs.rows.entries_in.Given as goal

abbrev pub invariant-loop-i : goal.invariant-loop-i
invariant-loop-i l = (length l.entries ≡ 80)
    × (take (2 * l.i) l.entries ≡ alternating (take l.i l.layout.kinds) (take l.i l.layout.bytes))
