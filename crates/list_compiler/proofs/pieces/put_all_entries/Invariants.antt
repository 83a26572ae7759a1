use mathlib.Core.Path.{◌≡◌}
use mathlib.Core.List.{List}
use Prim.Native.Nat.{ℕ}
use lib.ListN.{length}
use Rattle.text.specs.Written.{Put}
use Rattle.keeper_file.specs.ListText.{entries_text}
use Rattle.list_compiler.specs.FileLines.{lines_left}
use Rattle.list_compiler.specs.FileParts.{meanings_of, file_entries}
use Rattle.list_compiler.proofs.pieces.put_all_entries.Given as goal

abbrev pub invariant-loop-line : goal.invariant-loop-line
invariant-loop-line l = (length l.buffer ≡ length l.initial.buffer)
    × ((n : ℕ) (b : List ℕ) → Put l.buffer l.next (entries_text (meanings_of (lines_left l.line-iterator))) n b
    → Put l.initial.buffer l.start (file_entries l.file) n b)
