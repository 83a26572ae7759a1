use mathlib.Core.Path.{◌≡◌}
use Prim.Native.Nat.{◌*◌, ◌≤◌}
use lib.ListN.{take}
use Rattle.quirks.specs.declared.TheConstants.Quirk.{DISPLAY_ORDER}
use Rattle.line_writer.proofs.Names.{names_size}
use Rattle.line_writer.proofs.rows.quirks_length.Given as goal

abbrev pub invariant-loop-quirk : goal.invariant-loop-quirk
invariant-loop-quirk l = (l.size ≤ 7 * l.quirk-index)
    × (l.size ≡ names_size l.quirks (take l.quirk-index DISPLAY_ORDER))
