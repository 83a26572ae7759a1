-- The words of a signature line, field by field (document 02, Wish 1; p0f's README; parse/tcp.rs): each row a word, the code that
-- document 01 gives it in a record, and whether a number follows. A number is written with any number of leading zeros.
use Rattle.std.specs.Prelude.{ℕ, Bool, not, ◌||◌, List, [], ◌∷◌, eqb, leb}
use Rattle.basis.specs.Ascii.{ascii}
use Rattle.quirks.specs.declared.Quirk.TheVariants as quirk
use Rattle.quirks.specs.Quirks.{bit_of}
use Rattle.grammar.specs.Numeral.{any}
use Rattle.grammar.specs.Table.{Tail, nothing, numeral, Row, row}

abbrev pub up_to255 : Tail
up_to255 = numeral 255 any

abbrev pub up_to65535 : Tail
up_to65535 = numeral 65535 any

-- ver: byte 0 of a record.
unfoldable pub version : List Row
version = row (ascii "4") 4 nothing ∷ row (ascii "6") 6 nothing ∷ row (ascii "*") 0 nothing ∷ []

-- olen, and the number that a TTL begins with.
unfoldable pub bare_byte : List Row
bare_byte = row (ascii "") 0 up_to255 ∷ []

-- What follows the number of a TTL: byte 1 of a record, its form, and the distance.
unfoldable pub ttl_form : List Row
ttl_form = row (ascii "") 0 nothing ∷ row (ascii "+") 1 up_to255 ∷ row (ascii "+?") 2 nothing ∷ row (ascii "-") 3 nothing ∷ []

-- mss and scale: bytes 5 and 11 of a record, whether the number is present.
unfoldable pub mss : List Row
mss = row (ascii "*") 0 nothing ∷ row (ascii "") 1 up_to65535 ∷ []

unfoldable pub scale : List Row
scale = row (ascii "*") 0 nothing ∷ row (ascii "") 1 up_to255 ∷ []

-- wsize: byte 8 of a record.
unfoldable pub window : List Row
window =
    row (ascii "*") 0 nothing
    ∷ row (ascii "") 1 up_to65535
    ∷ row (ascii "%") 2 up_to65535
    ∷ row (ascii "mss*") 3 up_to255
    ∷ row (ascii "mtu*") 4 up_to255
    ∷ []

-- A kind without a name: 6, 7, 9 to 255.
unfoldable pub unnamed : ℕ → Bool
unnamed kind = not (leb kind 5 || eqb kind 8)

-- An entry of olayout: the option's kind, and for end-of-options the bytes left after it. 6, the first kind without a name, stands for
-- all of these; the number is then the kind.
unfoldable pub entry : List Row
entry =
    row (ascii "eol+") 0 up_to255
    ∷ row (ascii "nop") 1 nothing
    ∷ row (ascii "mss") 2 nothing
    ∷ row (ascii "ws") 3 nothing
    ∷ row (ascii "sok") 4 nothing
    ∷ row (ascii "sack") 5 nothing
    ∷ row (ascii "ts") 8 nothing
    ∷ row (ascii "?") 6 (numeral 255 unnamed)
    ∷ []

-- A quirk, by its bit in bytes 14 to 17 of a record (quirks.rs; the names of p0f's text form).
unfoldable pub quirk_word : List Row
quirk_word =
    row (ascii "df") (bit_of quirk.Df) nothing
    ∷ row (ascii "id+") (bit_of quirk.NonZeroID) nothing
    ∷ row (ascii "id-") (bit_of quirk.ZeroID) nothing
    ∷ row (ascii "ecn") (bit_of quirk.Ecn) nothing
    ∷ row (ascii "0+") (bit_of quirk.MustBeZero) nothing
    ∷ row (ascii "flow") (bit_of quirk.FlowID) nothing
    ∷ row (ascii "seq-") (bit_of quirk.SeqNumZero) nothing
    ∷ row (ascii "ack+") (bit_of quirk.AckNumNonZero) nothing
    ∷ row (ascii "ack-") (bit_of quirk.AckNumZero) nothing
    ∷ row (ascii "uptr+") (bit_of quirk.NonZeroURG) nothing
    ∷ row (ascii "urgf+") (bit_of quirk.Urg) nothing
    ∷ row (ascii "pushf+") (bit_of quirk.Push) nothing
    ∷ row (ascii "ts1-") (bit_of quirk.OwnTimestampZero) nothing
    ∷ row (ascii "ts2+") (bit_of quirk.PeerTimestampNonZero) nothing
    ∷ row (ascii "opt+") (bit_of quirk.TrailinigNonZero) nothing
    ∷ row (ascii "exws") (bit_of quirk.ExcessiveWindowScaling) nothing
    ∷ row (ascii "bad") (bit_of quirk.OptBad) nothing
    ∷ []

-- pclass: byte 13 of a record.
unfoldable pub payload : List Row
payload = row (ascii "0") 0 nothing ∷ row (ascii "+") 1 nothing ∷ row (ascii "*") 2 nothing ∷ []
