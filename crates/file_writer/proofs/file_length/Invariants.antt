use mathlib.Core.Path.{◌≡◌}
use Prim.Native.Nat.{◌+◌, ◌*◌, ◌≤◌}
use lib.ListN.{length}
use Rattle.keeper_file.specs.FileText.{file_text}
use Rattle.file_writer.proofs.Files.{lines_left}
use Rattle.file_writer.proofs.file_length.Given as goal

abbrev pub invariant-loop-i : goal.invariant-loop-i
invariant-loop-i l = (l.size ≤ 443 * l.i) × (l.size + length (lines_left l.list l.count l.i) ≡ length (file_text l.list))
