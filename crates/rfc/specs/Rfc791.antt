-- The Internet header of RFC 791, section 3.1. Bytes past the end read as 0.
use Rattle.std.specs.Prelude.{ℕ, ◌+◌, ◌*◌, ◌/◌, ◌%◌, min, List, length}
use Rattle.basis.specs.Bytes.{byte_at, be16}

-- Version: the top four bits of byte 0.
abbrev pub version : List ℕ → ℕ
version p = byte_at p 0 / 16

-- Internet Header Length, in words of four bytes.
abbrev pub ihl : List ℕ → ℕ
ihl p = byte_at p 0 % 16

-- The six upper bits of Type of Service, now DSCP (RFC 2474, section 3), and the two lower ones, now ECN (RFC 3168, section 5).
abbrev pub dscp : List ℕ → ℕ
dscp p = byte_at p 1 / 4

abbrev pub ecn : List ℕ → ℕ
ecn p = byte_at p 1 % 4

-- Total Length: header and data, in bytes.
abbrev pub total_length : List ℕ → ℕ
total_length p = be16 p 2

abbrev pub identification : List ℕ → ℕ
identification p = be16 p 4

-- Flags: bit 0 is reserved and must be zero, bit 1 is Don't Fragment, bit 2 is More Fragments.
abbrev pub reserved_flag : List ℕ → ℕ
reserved_flag p = byte_at p 6 / 128

abbrev pub dont_fragment : List ℕ → ℕ
dont_fragment p = byte_at p 6 / 64 % 2

abbrev pub more_fragments : List ℕ → ℕ
more_fragments p = byte_at p 6 / 32 % 2

-- Fragment Offset: the thirteen bits after the flags.
abbrev pub fragment_offset : List ℕ → ℕ
fragment_offset p = byte_at p 6 % 32 * 256 + byte_at p 7

-- Time to Live.
abbrev pub ttl : List ℕ → ℕ
ttl p = byte_at p 8

abbrev pub protocol : List ℕ → ℕ
protocol p = byte_at p 9

-- Document 01, "Headers and options": the data, "from 4 x header length to total length, .. never past the slice".
abbrev pub data_start : List ℕ → ℕ
data_start p = 4 * ihl p

abbrev pub data_end : List ℕ → ℕ
data_end p = min (total_length p) (length p)
