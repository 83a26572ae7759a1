-- The signature lines of a file by a place in it: one that is passed over, one that is handed on, and none behind the end.
use Prim.Native.Nat.{ℕ, ◌+◌, ◌<◌, ◌≤◌}
use mathlib.Core.Path.{◌≡◌, refl, ◌∙◌, ap}
use mathlib.Core.List.{List, [], ◌∷◌}
use lib.ListN.{length}
use Rattle.std.specs.Prelude.{None, Some, Result, Ok, map}
use Rattle.signature_line.specs.declared.BadLine.{BadLine}
use Rattle.signature_line.specs.declared.SignatureRead.{SignatureRead}
use Rattle.keeper_file.specs.KeptReader.{meaning_read}
use Rattle.keeper_file.specs.Lines.{Numbered, signature_lines}
use Rattle.keeper_line.specs.declared.KeptAt.{KeptAt}
use Rattle.keeper_line.specs.Places.{kept_at}
use Rattle.keeper_line.proofs.Shapes.{Shaped, kept_shaped}
use Rattle.keeper_line.proofs.Turns.{lines_from, lines_end, line_read, turn_passed, turn_kept}
use Rattle.list_compiler.specs.declared.lines.Line.{Line}
use Rattle.list_compiler.specs.declared.lines.Lines.{Lines}
use Rattle.list_compiler.specs.FileLines.{line_of, file_lines, lines_left}

abbrev pub left_from : List ℕ → ℕ → ℕ → List Line
left_from s k at = map line_of (lines_from s k at)

pub left_start : (s : List ℕ) → left_from s 1 0 ≡ file_lines s
unfolding file_lines signature_lines
left_start s = refl

pub left_end : (s : List ℕ) (k at : ℕ) → length s ≤ at → left_from s k at ≡ []
left_end s k at h = ap (map line_of) (lines_end s k at h)

module _ (s : List ℕ) (at : ℕ) (h : at < length s) (l : KeptAt) (l-is : l ≡ kept_at s at) (k : ℕ) where
  pub left_passed : l.read ≡ None → left_from s k at ≡ left_from s (k + 1) l.next
  left_passed e = ap (map line_of) (turn_passed s at h l l-is k e)

  pub left_kept
      : {r : Result SignatureRead BadLine} → l.read ≡ Some r
      → left_from s k at ≡ record { number = k; read = r } ∷ left_from s (k + 1) l.next
  left_kept e = ap (map line_of) (turn_kept s at h l l-is k e) ∙ rw (← line_read s at h l l-is e)

-- What is read of a line has the lengths of a record and a layout.
pub line_shaped
    : (lines : List Numbered) {line : Line} {rest : List Line} → map line_of lines ≡ line ∷ rest → Shaped (meaning_read line.read)
line_shaped [] e = absurd_first e
  where
    absurd_first : {line : Line} {rest : List Line} → ◌≡◌ {A = List Line} [] (line ∷ rest) → Shaped (meaning_read line.read)
    absurd_first e = cc
line_shaped (n ∷ lines) {line} e =
    let same : line_of n ≡ line = cc in
    rw (← same) (kept_shaped n.text)

pub left_shaped : (s : Lines) {line : Line} {rest : List Line} → lines_left s ≡ line ∷ rest → Shaped (meaning_read line.read)
unfolding lines_left
left_shaped s e = line_shaped _ e

pub read_shaped
    : (s : Lines) {line : Line} {rest : List Line} {read : SignatureRead} → lines_left s ≡ line ∷ rest → line.read ≡ Ok read
    → Shaped (meaning_read (Ok read))
read_shaped s e r = rw r at (left_shaped s e)
