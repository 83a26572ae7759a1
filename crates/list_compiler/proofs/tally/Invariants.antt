use mathlib.Core.Path.{◌≡◌}
use Prim.Native.Nat.{◌≤◌}
use Rattle.keeper_file.specs.Compiling.{most_signatures, most_entries}
use Rattle.list_compiler.specs.FileLines.{lines_left}
use Rattle.list_compiler.specs.FileParts.{tally_of, file_tally}
use Rattle.list_compiler.proofs.tally.Given as goal

abbrev pub invariant-loop-line : goal.invariant-loop-line
invariant-loop-line l = (l.signatures ≤ most_signatures)
    × (l.entries ≤ most_entries)
    × (tally_of l.signatures l.entries (lines_left l.line-iterator) ≡ file_tally l.file)
