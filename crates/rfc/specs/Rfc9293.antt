-- The TCP header of RFC 9293, section 3.1, read off the TCP part of a packet. The ports are never read. Bytes past the end read as 0.
use Rattle.std.specs.Prelude.{ℕ, ◌*◌, ◌/◌, ◌%◌, ◌-◌, min, max, List, length}
use Rattle.basis.specs.Bytes.{byte_at, be16, be32, part}

-- Sequence Number and Acknowledgment Number.
abbrev pub sequence : List ℕ → ℕ
sequence t = be32 t 4

abbrev pub acknowledgment : List ℕ → ℕ
acknowledgment t = be32 t 8

-- Data Offset, in words of four bytes.
abbrev pub data_offset : List ℕ → ℕ
data_offset t = byte_at t 12 / 16

-- The control bits, CWR and ECE to FIN: one byte.
abbrev pub control : List ℕ → ℕ
control t = byte_at t 13

abbrev pub window : List ℕ → ℕ
window t = be16 t 14

abbrev pub urgent_pointer : List ℕ → ℕ
urgent_pointer t = be16 t 18

-- Document 01, "Headers and options": "TCP options run from 20 to 4 x data offset, clipped to the part; a data offset under 5 gives none."
abbrev pub options_end : List ℕ → ℕ
options_end t = min (4 * data_offset t) (length t)

abbrev pub options : List ℕ → List ℕ
options t = part 20 (options_end t) t

-- "The payload starts at the larger of 20 and 4 x data offset": its size, 0 if the start is past the end.
abbrev pub payload_size : List ℕ → ℕ
payload_size t = length t - max 20 (4 * data_offset t)

-- The control bits one by one, by their place in the byte (RFC 9293, section 3.1; CWR and ECE: RFC 3168, section 6.1).
abbrev pub fin : ℕ → ℕ
fin flags = flags % 2

abbrev pub syn : ℕ → ℕ
syn flags = flags / 2 % 2

abbrev pub rst : ℕ → ℕ
rst flags = flags / 4 % 2

abbrev pub psh : ℕ → ℕ
psh flags = flags / 8 % 2

abbrev pub ack : ℕ → ℕ
ack flags = flags / 16 % 2

abbrev pub urg : ℕ → ℕ
urg flags = flags / 32 % 2

abbrev pub ece : ℕ → ℕ
ece flags = flags / 64 % 2

abbrev pub cwr : ℕ → ℕ
cwr flags = flags / 128 % 2
