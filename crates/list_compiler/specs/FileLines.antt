-- The signature lines of a file, each with what is read of it; and what passes over them give.
use Rattle.std.specs.Prelude.{ℕ, List, drop, map}
use Rattle.keeper_file.specs.Lines.{Numbered, lines_of, numbered_from, signature_lines}
use Rattle.keeper_file.specs.KeptReader.{read_kept}
use Rattle.list_compiler.specs.declared.lines.Line.{Line}
use Rattle.list_compiler.specs.declared.lines.Lines.{Lines}

abbrev pub line_of : Numbered → Line
line_of line = record { number = line.number; read = read_kept line.text }

unfoldable pub file_lines : List ℕ → List Line
file_lines file = map line_of (signature_lines file)

-- Those from a place on.
unfoldable pub lines_left : Lines → List Line
lines_left s = map line_of (numbered_from s.number (lines_of (drop s.at s.file.now)))
