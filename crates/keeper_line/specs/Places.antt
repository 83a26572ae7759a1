-- The lines of a keeper's file by their places in it.
use Rattle.std.specs.Prelude.{ℕ, suc, ◌+◌, ◌-◌, Bool, cond, ◌&&◌, List, [], ◌∷◌, eqb, ltb, length, drop, Option, None, Some, Result}
use Rattle.basis.specs.Bytes.{byte_at, part}
use Rattle.signature_line.specs.declared.SignatureRead.{SignatureRead}
use Rattle.signature_line.specs.declared.BadLine.{BadLine}
use Rattle.numerals.specs.declared.Piece.{Piece}
use Rattle.one_field.specs.Places.{piece_at}
use Rattle.keeper_file.specs.KeptLine.{mark}
use Rattle.keeper_file.specs.KeptReader.{read_kept}
use Rattle.keeper_file.specs.Lines.{line_feed, carriage_return, passed_over}
use Rattle.keeper_line.specs.declared.KeptAt.{KeptAt}

-- `g ` or nothing, from a place on.
abbrev pub mark_at : List ℕ → ℕ → Result Piece BadLine
mark_at = piece_at mark

-- How many bytes stand before the first line feed: all, if there is none.
unfoldable pub to_feed : List ℕ → ℕ
to_feed [] = 0
to_feed (b ∷ s) = cond (eqb b line_feed) 0 (suc (to_feed s))

-- Where the line that starts at a place has its line feed; the end of the file, if it has none.
abbrev pub feed_at : List ℕ → ℕ → ℕ
feed_at s at = at + to_feed (drop at s)

-- Where the text of a line ends that starts at a place and has its line feed at another: before a carriage return that stands before it.
unfoldable pub text_end : List ℕ → ℕ → ℕ → ℕ
text_end s at feed =
    cond (ltb feed (length s) && ltb at feed && eqb (byte_at s (feed - 1)) carriage_return) (feed - 1) feed

-- The text of the line that starts at a place.
abbrev pub text_at : List ℕ → ℕ → List ℕ
text_at s at = part at (text_end s at (feed_at s at)) s

-- What is read of a line that is not passed over.
abbrev pub read_unless : Bool → List ℕ → Option (Result SignatureRead BadLine)
read_unless passed text = cond passed None (Some (read_kept text))

-- The line that starts at a place: where the next one starts, and what is read of it. Behind the end there is none.
unfoldable pub kept_at : List ℕ → ℕ → KeptAt
kept_at s at =
    let text = text_at s at in
    cond (ltb at (length s)) (record { next = feed_at s at + 1; read = read_unless (passed_over text) text })
    (record { next = at; read = None })
