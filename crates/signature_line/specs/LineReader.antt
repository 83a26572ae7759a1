-- The reading of a line, as readings put together; the functions of the code are equal to its parts. That it accepts exactly the
-- grammar, and refuses exactly where no line goes on, is proved (proofs/Accepted.antt).
use Rattle.std.specs.Prelude.{ℕ, cond, List, ltb, length, Result}
use Rattle.grammar.specs.Reading.{Read, join_read, then_read, map_read, listed_read, any_listed_read, Judgement, means, refused, judgement}
use Rattle.grammar.specs.States.{table_read}
use Rattle.grammar.specs.Table.{Said}
use Rattle.signature_line.specs.declared.BadLine.{BadLine}
use Rattle.signature_line.specs.declared.SignatureRead.{SignatureRead}
use Rattle.signature_line.specs.Answer.{read_of, refused_at}
use Rattle.signature_line.specs.Line.{colon, comma, Parts, fields, longest}
use Rattle.signature_line.specs.Meaning.{Fields, meaning_of}
use Rattle.signature_line.specs.Words.{version, bare_byte, ttl_form, mss, window, scale, entry, quirk_word, payload}

unfoldable pub ttl_read : List ℕ → Read (Said × Said)
ttl_read = join_read (table_read bare_byte) (table_read ttl_form)

unfoldable pub layout_read : List ℕ → Read (List Said)
layout_read = listed_read (table_read entry) comma 39

unfoldable pub quirks_read : List ℕ → Read (List Said)
quirks_read = any_listed_read (table_read quirk_word) comma

-- olayout ":" quirks ":" pclass
abbrev pub after_scale_read : List ℕ → Read (List Said × (List Said × Said))
after_scale_read = then_read layout_read colon (then_read quirks_read colon (table_read payload))

-- mss ":" wsize "," scale ":" ..
abbrev pub after_olen_read : List ℕ → Read (Said × (Said × (Said × (List Said × (List Said × Said)))))
after_olen_read =
    then_read (table_read mss) colon (then_read (table_read window) comma (then_read (table_read scale) colon after_scale_read))

unfoldable pub parts_read : List ℕ → Read Parts
parts_read = then_read (table_read version) colon (then_read ttl_read colon (then_read (table_read bare_byte) colon after_olen_read))

unfoldable pub fields_read : List ℕ → Read Fields
fields_read s = map_read fields (parts_read s)

-- ---- the answer

unfoldable pub read_as : Fields → Result SignatureRead BadLine
read_as f = read_of (meaning_of f)

abbrev pub answered : Judgement Fields → Result SignatureRead BadLine
answered (means f) = read_as f
answered (refused at) = refused_at at

-- "a line over 512 bytes first, with 512"
unfoldable pub read_line : List ℕ → Result SignatureRead BadLine
read_line s = cond (ltb longest (length s)) (refused_at longest) (answered (judgement s (fields_read s)))
