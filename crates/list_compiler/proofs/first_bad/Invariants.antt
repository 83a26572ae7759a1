use mathlib.Core.Path.{◌≡◌}
use Rattle.list_compiler.specs.FileLines.{lines_left}
use Rattle.list_compiler.specs.FileParts.{check_of, file_check}
use Rattle.list_compiler.proofs.first_bad.Given as goal

abbrev pub invariant-loop-line : goal.invariant-loop-line
invariant-loop-line l = check_of (lines_left l.line-iterator) ≡ file_check l.file
