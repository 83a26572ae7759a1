use mathlib.Core.Path.{◌≡◌}
use mathlib.Core.List.{List}
use Prim.Native.Nat.{ℕ}
use lib.ListN.{length}
use Rattle.keeper_file.specs.FileText.{file_text}
use Rattle.text.specs.Written.{Put}
use Rattle.file_writer.proofs.Files.{lines_left}
use Rattle.file_writer.proofs.put_lines.Given as goal

abbrev pub invariant-loop-i : goal.invariant-loop-i
invariant-loop-i l = (length l.buffer ≡ length l.initial.buffer)
    × ((n : ℕ) (b : List ℕ) → Put l.buffer l.next (lines_left l.list l.count l.i) n b → Put l.initial.buffer 0 (file_text l.list) n b)
