use Rattle.std.specs.Prelude.{Ok}
use mathlib.Core.Path.{◌≡◌}
use mathlib.Core.List.{List}
use Prim.Native.Nat.{ℕ, ◌+◌, ◌≤◌}
use lib.ListN.{length}
use Rattle.text.specs.Written.{Put}
use Rattle.keeper_file.specs.Compiling.{most_entries}
use Rattle.keeper_file.specs.ListText.{entry_total, records_text}
use Rattle.list_compiler.specs.FileLines.{lines_left}
use Rattle.list_compiler.specs.FileParts.{check_of, meanings_of, file_records}
use Rattle.list_compiler.proofs.pieces.put_records.Given as goal

abbrev pub invariant-loop-line : goal.invariant-loop-line
invariant-loop-line l = (length l.buffer ≡ length l.initial.buffer)
    × (check_of (lines_left l.line-iterator) ≡ Ok tt)
    × (l.first + entry_total (meanings_of (lines_left l.line-iterator)) ≤ most_entries)
    × ((n : ℕ) (b : List ℕ) → Put l.buffer l.next (records_text l.first (meanings_of (lines_left l.line-iterator))) n b
    → Put l.initial.buffer l.start (file_records l.file) n b)
