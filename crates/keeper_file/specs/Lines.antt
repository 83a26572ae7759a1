-- The lines of a keeper's file.
--
--     file = { text end } [ text ]        end = LF | CR LF
use Rattle.std.specs.Prelude.{ℕ, ◌+◌, Bool, true, false, cond, ◌&&◌, List, [], ◌∷◌, eqb}

abbrev pub line_feed : ℕ
line_feed = 10

abbrev pub carriage_return : ℕ
carriage_return = 13

abbrev pub begins_with : ℕ → List ℕ → Bool
begins_with c [] = false
begins_with c (b ∷ s) = eqb b c

-- A byte before the first of some lines; the only byte of a last line that has no end.
abbrev pub into_first : ℕ → List (List ℕ) → List (List ℕ)
into_first b [] = (b ∷ []) ∷ []
into_first b (line ∷ lines) = (b ∷ line) ∷ lines

-- A byte, what stands behind it, and the lines of that: a line feed ends a line, and a carriage return before one is no part of it.
abbrev pub line_byte : ℕ → List ℕ → List (List ℕ) → List (List ℕ)
line_byte b s lines =
    cond (eqb b line_feed) ([] ∷ lines) (cond (eqb b carriage_return && begins_with line_feed s) lines (into_first b lines))

-- "a line ends with LF or CR LF, the last one with or without"
unfoldable pub lines_of : List ℕ → List (List ℕ)
lines_of [] = []
lines_of (b ∷ s) = line_byte b s (lines_of s)

-- "Empty lines and lines that begin with `;` are passed over"
abbrev pub passed_over : List ℕ → Bool
passed_over [] = true
passed_over (b ∷ s) = eqb b 59

-- A line and its number.
pub record Numbered : Type 0 where
  pub number : ℕ
  pub text : List ℕ

-- The lines that are not passed over, each with its number; the first has this one.
abbrev pub keep_unless : Bool → Numbered → List Numbered → List Numbered
keep_unless true line lines = lines
keep_unless false line lines = line ∷ lines

unfoldable pub numbered_from : ℕ → List (List ℕ) → List Numbered
numbered_from k [] = []
numbered_from k (s ∷ lines) = keep_unless (passed_over s) (record { number = k; text = s }) (numbered_from (k + 1) lines)

-- The signature lines of a file, "line number (from 1)".
unfoldable pub signature_lines : List ℕ → List Numbered
signature_lines file = numbered_from 1 (lines_of file)
