use mathlib.Core.Path.{◌≡◌}
use mathlib.Core.List.{List, ◌∷◌}
use Prim.Native.Nat.{ℕ, ◌*◌}
use lib.ListN.{length, drop}
use Rattle.grammar.specs.Spelling.{spelt}
use Rattle.signature_line.specs.Words.{entry}
use Rattle.text.specs.Written.{Put}
use Rattle.written_line.specs.LineText.{layout_text}
use Rattle.written_line.specs.Signature.{entries_said}
use Rattle.line_writer.proofs.RowTexts.{row_text}
use Rattle.line_writer.proofs.rows.put_layout.Given as goal

abbrev pub invariant-loop-i : goal.invariant-loop-i
invariant-loop-i l = (length l.buffer ≡ length l.initial.buffer)
    × ((n : ℕ) (b : List ℕ)
    → Put l.buffer l.next (row_text (spelt entry) l.between (entries_said (drop (2 * l.i) l.entries))) n b
    → Put l.initial.buffer l.at (58 ∷ layout_text (entries_said l.entries)) n b)
