-- What the fields' functions give: the readings of `signature_line`, from a place of the line on, with the place where they end.
use Rattle.std.specs.Prelude.{ℕ, ◌+◌, cond, ◌&&◌, List, [], ◌∷◌, ◌++◌, eqb, ltb, length, Result, Ok, Err}
use Rattle.basis.specs.Ascii.{ascii}
use Rattle.basis.specs.Bytes.{byte_at}
use Rattle.quirks.specs.declared.Quirk.TheVariants as quirk
use Rattle.quirks.specs.Quirks.{bit_of}
use Rattle.grammar.specs.Numeral.{any}
use Rattle.grammar.specs.States.{Awaited, letters, start}
use Rattle.grammar.specs.Table.{nothing, numeral, Row, row}
use Rattle.signature_line.specs.declared.BadLine.{BadLine}
use Rattle.signature_line.specs.Answer.{bad_at}
use Rattle.signature_line.specs.Words.{up_to255, bare_byte, ttl_form}
use Rattle.numerals.specs.Pieces.{piece, state_at, and_then}
use Rattle.numerals.specs.declared.Piece.{Piece}
use Rattle.one_field.specs.declared.TtlPiece.{TtlPiece}

-- ---- a field

abbrev pub whole_piece : ℕ → ℕ → Piece
whole_piece at form = piece at form 0

abbrev pub piece_at : List Row → List ℕ → ℕ → Result Piece BadLine
piece_at rows = state_at (start rows)

-- A field, from a place that is given; where none is, no line went on before.
abbrev pub field_at : List Row → List ℕ → Result ℕ BadLine → Result Piece BadLine
field_at rows s (Ok at) = piece_at rows s at
field_at rows s (Err bad) = Err bad

-- `*`, or a number up to a bound.
abbrev pub starred : ℕ → List Row
starred max = row (ascii "*") 0 nothing ∷ row (ascii "") 1 (numeral max any) ∷ []

-- The place behind a byte.
unfoldable pub behind_at : ℕ → List ℕ → ℕ → Result ℕ BadLine
behind_at byte s at = cond (ltb at (length s) && eqb (byte_at s at) byte) (Ok (at + 1)) (bad_at at)

-- The same from a place that is given.
abbrev pub next_at : ℕ → List ℕ → Result ℕ BadLine → Result ℕ BadLine
next_at byte s (Ok at) = behind_at byte s at
next_at byte s (Err bad) = Err bad

abbrev pub ttl_piece : Piece → Piece → TtlPiece
ttl_piece ttl form = record { at = form.at; ttl = ttl.number; form = form.form; distance = form.number }

unfoldable pub ttl_at : List ℕ → ℕ → Result TtlPiece BadLine
ttl_at s from =
    and_then (piece_at bare_byte s from) (λ ttl. and_then (piece_at ttl_form s ttl.at) (λ form. Ok (ttl_piece ttl form)))

abbrev pub ttl_field_at : List ℕ → Result ℕ BadLine → Result TtlPiece BadLine
ttl_field_at s (Ok at) = ttl_at s at
ttl_field_at s (Err bad) = Err bad

-- ---- parts of a field

abbrev pub word_at : List ℕ → ℕ → List ℕ → ℕ → Result Piece BadLine
word_at word form = state_at (letters word form nothing ∷ [])

abbrev pub either_at : List ℕ → ℕ → List ℕ → ℕ → List ℕ → ℕ → Result Piece BadLine
either_at one form other other_form = state_at (letters one form nothing ∷ letters other other_form nothing ∷ [])

-- Behind the `+` of a TTL.
abbrev pub plus_at : List ℕ → ℕ → Result Piece BadLine
plus_at = state_at (letters [] 1 up_to255 ∷ letters (ascii "?") 2 nothing ∷ [])

-- Behind the `m` of a multiple.
abbrev pub multiple_at : List ℕ → ℕ → Result Piece BadLine
multiple_at = state_at (letters (ascii "ss*") 3 up_to255 ∷ letters (ascii "tu*") 4 up_to255 ∷ [])

-- Behind the first `s` of an entry, and behind an `e` and a `u` of a quirk's name.
abbrev pub behind_s : List ℕ → ℕ → Result Piece BadLine
behind_s = either_at (ascii "ok") 4 (ascii "ack") 5

abbrev pub behind_e : List ℕ → ℕ → Result Piece BadLine
behind_e = either_at (ascii "cn") (bit_of quirk.Ecn) (ascii "xws") (bit_of quirk.ExcessiveWindowScaling)

abbrev pub behind_u : List ℕ → ℕ → Result Piece BadLine
behind_u = either_at (ascii "ptr+") (bit_of quirk.NonZeroURG) (ascii "rgf+") (bit_of quirk.Urg)

-- Behind the `t` of a timestamp's quirk.
abbrev pub stamp_at : List ℕ → ℕ → Result Piece BadLine
stamp_at = either_at (ascii "s1-") (bit_of quirk.OwnTimestampZero) (ascii "s2+") (bit_of quirk.PeerTimestampNonZero)

-- Rows that all begin with a word; behind it a number up to 255, or `+` or `-`.
abbrev pub prefixed : List ℕ → List Row → List Awaited
prefixed word [] = []
prefixed word (row rest form tail ∷ rows) = letters (word ++ rest) form tail ∷ prefixed word rows

abbrev pub number_behind : List ℕ → ℕ → List ℕ → ℕ → Result Piece BadLine
number_behind word form = state_at (prefixed word (row (ascii "") form up_to255 ∷ []))

abbrev pub sign_behind : List ℕ → ℕ → ℕ → List ℕ → ℕ → Result Piece BadLine
sign_behind word plus minus = state_at (prefixed word (row (ascii "+") plus nothing ∷ row (ascii "-") minus nothing ∷ []))
