-- Signatures as text (document 02, Wish 1; D1): a line is read exactly if it is one of the grammar, into the one record and layout that
-- it means, and is refused by 13 exactly where no line goes on. The grammar is `signature_line/specs/` `Words.antt`, `Line.antt` and
-- `Meaning.antt`; what is read is `parse_tcp::parse_tcp_signature`'s promise, `read_line`. `TextLines` is the statement.
use Rattle.std.specs.Prelude.{◌≡◌, true, List, ◌↔◌, ℕ, ◌≤◌, length}
use Rattle.basis.specs.Bytes.{AllBytes}
use Rattle.refusals.specs.declared.Refusal.TheVariants as refusal
use Rattle.refusals.specs.Refusals.{Verdict}
use Rattle.siglist.specs.List.{list_fits, record_good}
use Rattle.signature_line.specs.Line.{SignatureLine, longest, LineRefused}
use Rattle.signature_line.specs.Answer.{read_of, refused_at, line_verdict}
use Rattle.signature_line.specs.LineReader.{read_line}
use Rattle.signature_line.specs.Meaning.{LineMeaning}
use Rattle.signature_line.specs.OneRecord.{WellFormedLine, HasLine}
use Rattle.signature_line.specs.LineValues.{LineValues}

pub record TextLines : Type 0 where
  -- "What is accepted is exactly the written grammar": this record and layout are read exactly if the line, of at most 512 bytes, means
  -- them
  pub accepted : (s : List ℕ) (m : LineMeaning) → (read_line s ≡ read_of m) ↔ ((length s ≤ longest) × SignatureLine s m)
  -- ", one reading each."
  pub one_meaning : (s : List ℕ) (m n : LineMeaning) → SignatureLine s m → SignatureLine s n → m ≡ n
  -- What is read is well formed, and "label, byte 21 and first entry are 0".
  pub well_formed : (s : List ℕ) (m : LineMeaning) → SignatureLine s m → WellFormedLine m
  -- "Every well-formed record has a line": of at most 512 bytes, with that record's meaning.
  pub every_record : (l : List ℕ) (i : ℕ) → AllBytes l → list_fits l ≡ true → record_good l i ≡ true → HasLine l i
  -- "13 with the offset of the first byte at which no acceptable line of any length can go on (the line's length if it only ends too
  -- soon); a line over 512 bytes first, with 512": given exactly when this is so,
  pub refused : (s : List ℕ) (at : ℕ) → (read_line s ≡ refused_at at) ↔ LineRefused s at
  -- and nothing is given beside it.
  pub refusal_gives
      : (s : List ℕ) (at : ℕ) → line_verdict (read_line s) ≡ Verdict.refused (refusal.BadLine at) → read_line s ≡ refused_at at
  -- The readings that were decided, by their lines.
  pub values : LineValues
