-- The readings of a keeper's file that were decided, each by a file: its lines and their numbers, what a signature line of it means, the
-- list that it is compiled into, and the file that is written of that list. `FileValues` is the statement; every case is computed.
use Rattle.std.specs.Prelude.{ℕ, ◌≡◌, List, [], ◌∷◌, ◌++◌, Ok}
use Rattle.basis.specs.Ascii.{ascii}
use Rattle.refusals.specs.declared.Refusal.TheVariants as refusal
use Rattle.signature_line.specs.Answer.{read_of, refused_at}
use Rattle.signature_line.specs.LineValues.{record_of}
use Rattle.signature_line.specs.Meaning.{LineMeaning}
use Rattle.written_line.specs.RoundTrip.{whole_line}
use Rattle.written_line.specs.Writing.{refusing}
use Rattle.keeper_file.specs.Compiling.{refusing_line, compile_file}
use Rattle.keeper_file.specs.FileText.{write_file}
use Rattle.keeper_file.specs.KeptReader.{read_kept}
use Rattle.keeper_file.specs.Lines.{line_feed, carriage_return, lines_of, signature_lines}

-- A line that ends with LF, and what stands behind it; the same with CR LF.
infixr 5 ◌lf◌
abbrev pub ◌lf◌ : List ℕ → List ℕ → List ℕ
s lf rest = s ++ line_feed ∷ rest

infixr 5 ◌crlf◌
abbrev pub ◌crlf◌ : List ℕ → List ℕ → List ℕ
s crlf rest = s ++ carriage_return ∷ line_feed ∷ rest

-- ---- "a line ends with LF or CR LF, the last one with or without"

pub record FileLines : Type 0 where
  pub none : lines_of [] ≡ []
  pub empty_line : lines_of ([] lf []) ≡ [] ∷ []
  -- each end, and none
  pub ends : lines_of (ascii "a" lf ascii "b" crlf ascii "c") ≡ ascii "a" ∷ ascii "b" ∷ ascii "c" ∷ []
  pub last_ended : lines_of (ascii "a" lf ascii "b" lf []) ≡ ascii "a" ∷ ascii "b" ∷ []
  -- a carriage return elsewhere is a byte of its line
  pub lone_return : lines_of (ascii "a" ++ carriage_return ∷ ascii "b" lf []) ≡ (97 ∷ 13 ∷ 98 ∷ []) ∷ []
  pub two_returns : lines_of ((97 ∷ 13 ∷ []) crlf []) ≡ (97 ∷ 13 ∷ []) ∷ []
  pub return_at_the_end : lines_of (97 ∷ 13 ∷ []) ≡ (97 ∷ 13 ∷ []) ∷ []
  -- "Empty lines and lines that begin with `;` are passed over", and counted
  pub numbers
      : signature_lines (ascii "; a" lf [] lf ascii "7 b" lf [] crlf ascii ";" lf ascii " ;")
      ≡ record { number = 3; text = ascii "7 b" } ∷ record { number = 6; text = ascii " ;" } ∷ []

-- ---- a signature line

-- A record of 64 and zeros but for its last four bytes, without a layout.
abbrev pub kept_record : ℕ → ℕ → ℕ → LineMeaning
kept_record kind high low =
    record_of
    (0 ∷ 0 ∷ 64 ∷ 0 ∷ 0 ∷ 0 ∷ 0 ∷ 0 ∷ 0 ∷ 0 ∷ 0 ∷ 0 ∷ 0 ∷ 0 ∷ 0 ∷ 0 ∷ 0 ∷ 0 ∷ 0 ∷ 0 ∷ 0 ∷ kind ∷ high ∷ low ∷ []) [] []

pub record LinesKept : Type 0 where
  pub specific : read_kept (ascii "258 *:64:0:*:*,*:::0") ≡ read_of (kept_record 0 1 2)
  pub generic : read_kept (ascii "258 g *:64:0:*:*,*:::0") ≡ read_of (kept_record 1 1 2)
  pub leading_zeros : read_kept (ascii "00258 *:64:0:*:*,*:::0") ≡ read_of (kept_record 0 1 2)
  -- the greatest label, and no greater one
  pub label_65535 : read_kept (ascii "65535 *:64:0:*:*,*:::0") ≡ read_of (kept_record 0 255 255)
  pub label_65536 : read_kept (ascii "65536 *:64:0:*:*,*:::0") ≡ refused_at 4
  -- a label is there, one blank behind it, and one behind the mark
  pub no_label : read_kept (ascii "*:64:0:*:*,*:::0") ≡ refused_at 0
  pub no_blank : read_kept (ascii "7*:64:0:*:*,*:::0") ≡ refused_at 1
  pub two_blanks : read_kept (ascii "7  *:64:0:*:*,*:::0") ≡ refused_at 2
  pub mark_without_blank : read_kept (ascii "7 g*:64:0:*:*,*:::0") ≡ refused_at 3
  pub two_marks : read_kept (ascii "7 g g *:64:0:*:*,*:::0") ≡ refused_at 4
  -- offsets are those of the whole line; its length if it only ends too soon
  pub bad_version : read_kept (ascii "7 g 5:64:0:*:*,*:::0") ≡ refused_at 4
  pub ends_too_soon : read_kept (ascii "7 g *:64:0:*:*,*::") ≡ refused_at 18

-- ---- a file

-- Two records, and lines that are passed over.
abbrev pub two_lines : List ℕ
two_lines = ascii "; p0f" lf ascii "7 *:64:0:*:mss*4,*:mss:df:0" crlf [] lf ascii "258 g *:64:0:*:*,*:nop,ws::*"

abbrev pub two_records : List ℕ
two_records =
    (0 ∷ 2 ∷ 0 ∷ 14 ∷ 0 ∷ 3 ∷ 0 ∷ 8 ∷ [])
    ++ (2 ∷ 0 ∷ 1 ∷ 0 ∷ 3 ∷ 0 ∷ [])
    ++ (0 ∷ 0 ∷ 64 ∷ 0 ∷ 0 ∷ 0 ∷ 0 ∷ 0 ∷ 3 ∷ 0 ∷ 4 ∷ 0 ∷ 0 ∷ 0 ∷ 0 ∷ 0 ∷ 0 ∷ 2 ∷ 0 ∷ 0 ∷ 1 ∷ 0 ∷ 0 ∷ 7 ∷ [])
    ++ (0 ∷ 0 ∷ 64 ∷ 0 ∷ 0 ∷ 0 ∷ 0 ∷ 0 ∷ 0 ∷ 0 ∷ 0 ∷ 0 ∷ 0 ∷ 2 ∷ 0 ∷ 0 ∷ 0 ∷ 0 ∷ 0 ∷ 1 ∷ 2 ∷ 1 ∷ 1 ∷ 2 ∷ [])

-- The file of that list: each line has its end.
abbrev pub two_written : List ℕ
two_written = ascii "7 *:64:0:*:mss*4,*:mss:df:0" lf ascii "258 g *:64:0:*:*,*:nop,ws::*" lf []

-- The second line is the first that is bad.
abbrev pub bad_second : List ℕ
bad_second = ascii "; a" lf ascii "7 b" lf ascii "c"

pub record FilesCompiled : Type 0 where
  pub two : compile_file two_lines 62 ≡ record { answer = Ok 62; line = two_records }
  pub no_room : compile_file two_lines 61 ≡ refusing_line 0 refusal.BufferTooShort
  pub nothing : compile_file [] 8 ≡ record { answer = Ok 8; line = 0 ∷ 0 ∷ 0 ∷ 8 ∷ 0 ∷ 0 ∷ 0 ∷ 8 ∷ [] }
  -- a bad line comes before a buffer that is too short
  pub bad_line : compile_file bad_second 0 ≡ refusing_line 2 (refusal.BadLine 2)
  pub back : write_file two_records 57 ≡ whole_line two_written
  pub back_no_room : write_file two_records 56 ≡ refusing refusal.BufferTooShort

pub record FileValues : Type 0 where
  pub lines : FileLines
  pub kept : LinesKept
  pub compiles : FilesCompiled
