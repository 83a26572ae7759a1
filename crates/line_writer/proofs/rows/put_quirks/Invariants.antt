use mathlib.Core.List.{List}
use Prim.Native.Nat.{ℕ, ◌≤◌}
use lib.ListN.{drop}
use Rattle.quirks.specs.declared.TheConstants.Quirk.{DISPLAY_ORDER}
use Rattle.text.specs.Written.{Put}
use Rattle.line_writer.specs.Rows.{between_at, quirks_row}
use Rattle.line_writer.proofs.Names.{names_from}
use Rattle.line_writer.proofs.rows.put_quirks.Given as goal

abbrev pub invariant-loop-quirk : goal.invariant-loop-quirk
invariant-loop-quirk l = (l.start ≤ l.at)
    × ((n : ℕ) (b : List ℕ)
    → Put l.buffer l.at (names_from l.quirks (between_at l.start l.at) (drop l.quirk-index DISPLAY_ORDER)) n b
    → Put l.initial.buffer l.start (quirks_row l.quirks) n b)
