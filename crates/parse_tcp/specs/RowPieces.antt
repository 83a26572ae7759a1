-- What the functions for a layout and for quirks give: the readings of `signature_line`, from a place of the line on.
use Rattle.std.specs.Prelude.{ℕ, ◌+◌, ◌-◌, ◌%◌, List, [], ◌∷◌, length, drop, set, replicate, Result}
use Rattle.grammar.specs.Reading.{more_read}
use Rattle.grammar.specs.States.{table_read}
use Rattle.grammar.specs.Table.{Said, said}
use Rattle.signature_line.specs.declared.BadLine.{BadLine}
use Rattle.signature_line.specs.Line.{comma}
use Rattle.signature_line.specs.LineReader.{layout_read, quirks_read}
use Rattle.signature_line.specs.Meaning.{kind_said, byte_said, layout_of, union_from}
use Rattle.signature_line.specs.Words.{entry, quirk_word}
use Rattle.numerals.specs.declared.Piece.{Piece}
use Rattle.numerals.specs.Pieces.{made}
use Rattle.parse_tcp.specs.declared.layout.LayoutPiece.{LayoutPiece}
use Rattle.parse_tcp.specs.declared.quirk_set.QuirksPiece.{QuirksPiece}

abbrev pub said_by : Piece → Said
said_by p = said p.form p.number

-- ---- a layout

abbrev pub layout_said : ℕ → List Said → LayoutPiece
layout_said at entries = record { at = at; layout = layout_of entries }

unfoldable pub layout_at : List ℕ → ℕ → Result LayoutPiece BadLine
layout_at s from = made layout_said from (layout_read (drop from s))

-- An entry in its two bytes.
abbrev pub kind_byte : Piece → ℕ
kind_byte p = kind_said (said_by p) % 256

abbrev pub rest_byte : Piece → ℕ
rest_byte p = byte_said (said_by p) % 256

-- Entries, stored from an index on.
unfoldable pub store : (Said → ℕ) → List ℕ → ℕ → List Said → List ℕ
store f row n [] = row
store f row n (e ∷ rest) = store f (set row n (f e)) (n + 1) rest

-- Entries that are read after those that are stored; at most 40 in all.
unfoldable pub kept_said : ℕ → List ℕ → List ℕ → ℕ → List Said → LayoutPiece
kept_said n kinds bytes at entries =
    record {
      at = at;
      layout =
          record { kinds = store kind_said kinds n entries; bytes = store byte_said bytes n entries; count = n + length entries };
    }

unfoldable pub kept_at : ℕ → List ℕ → List ℕ → List ℕ → ℕ → Result LayoutPiece BadLine
kept_at n kinds bytes s at = made (kept_said n kinds bytes) at (more_read (table_read entry) comma (40 - n) (drop at s))

abbrev pub kept_from : List ℕ → Piece → Result LayoutPiece BadLine
kept_from s first =
    kept_at 1 (set (replicate 40 0) 0 (kind_byte first)) (set (replicate 40 0) 0 (rest_byte first)) s first.at

-- ---- quirks

-- Names that are read after those whose bits are given.
abbrev pub quirks_said : ℕ → ℕ → List Said → QuirksPiece
quirks_said bits at names = record { at = at; bits = union_from bits names }

unfoldable pub quirks_at : List ℕ → ℕ → Result QuirksPiece BadLine
quirks_at s from = made (quirks_said 0) from (quirks_read (drop from s))

unfoldable pub names_at : ℕ → List ℕ → ℕ → Result QuirksPiece BadLine
names_at bits s at = made (quirks_said bits) at (more_read (table_read quirk_word) comma (length (drop at s)) (drop at s))

abbrev pub names_from : List ℕ → Piece → Result QuirksPiece BadLine
names_from s first = names_at first.form s first.at
