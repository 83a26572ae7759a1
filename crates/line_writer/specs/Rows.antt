-- What the steps of a row promise: a name that is put, its length, entries in turn.
use Rattle.std.specs.Prelude.{◌≡◌, cond, List, [], ◌∷◌, ℕ, ◌+◌, ◌*◌, ◌≤◌, eqb, length, take}
use Rattle.quirks.specs.declared.Quirk.{Quirk}
use Rattle.quirks.specs.declared.QuirkSet.{QuirkSet}
use Rattle.quirks.specs.Named.{display_order}
use Rattle.quirks.specs.Quirks.{bit_of, contains}
use Rattle.grammar.specs.Spelling.{spelt}
use Rattle.grammar.specs.Table.{said}
use Rattle.signature_line.specs.Line.{colon, comma}
use Rattle.signature_line.specs.OneRecord.{alternating}
use Rattle.signature_line.specs.Words.{quirk_word}
use Rattle.written_line.specs.LineText.{layout_text, quirks_text}
use Rattle.written_line.specs.Signature.{entries_said, chosen}

abbrev pub name_of : Quirk → List ℕ
name_of q = spelt quirk_word (said (bit_of q) 0)

-- The byte before a word: the colon where the row starts, else a comma.
unfoldable pub between_at : ℕ → ℕ → ℕ
between_at start at = cond (eqb at start) colon comma

-- A quirk's name behind that byte, if the set has it.
unfoldable pub name_at : ℕ → ℕ → QuirkSet → Quirk → List ℕ
name_at start at s q = cond (contains s q) (between_at start at ∷ name_of q) []

-- The rows of a line, each with the colon before it.
abbrev pub layout_row : List ℕ → List ℕ
layout_row entries = colon ∷ layout_text (entries_said entries)

abbrev pub quirks_row : QuirkSet → List ℕ
quirks_row s = colon ∷ quirks_text (chosen s display_order)

-- The bytes that it takes; few.
pub record NameCounted (s : QuirkSet) (q : Quirk) (r : ℕ) : Type 0 where
  pub size : r ≡ cond (contains s q) (1 + length (name_of q)) 0
  pub few : r ≤ 7

-- Entries, kind and byte in turn, in eighty places.
pub record TurnedTo (kinds bytes : List ℕ) (count : ℕ) (r : List ℕ) : Type 0 where
  pub turned : take (2 * count) r ≡ alternating (take count kinds) (take count bytes)
  pub whole : length r ≡ 80
