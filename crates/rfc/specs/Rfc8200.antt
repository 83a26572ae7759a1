-- The IPv6 header of RFC 8200, section 3. Bytes past the end read as 0.
use Rattle.std.specs.Prelude.{ℕ, ◌+◌, ◌*◌, ◌/◌, ◌%◌, min, List, length}
use Rattle.basis.specs.Bytes.{byte_at, be16, part}

-- Traffic Class: the eight bits after the version; its six upper bits are DSCP, its two lower ones ECN (section 7).
abbrev pub traffic_class : List ℕ → ℕ
traffic_class p = byte_at p 0 % 16 * 16 + byte_at p 1 / 16

-- Flow Label: the twenty bits after the traffic class.
abbrev pub flow_label : List ℕ → ℕ
flow_label p = byte_at p 1 % 16 * 65536 + be16 p 2

-- Payload Length: what follows the header, in bytes.
abbrev pub payload_length : List ℕ → ℕ
payload_length p = be16 p 4

abbrev pub next_header : List ℕ → ℕ
next_header p = byte_at p 6

abbrev pub hop_limit : List ℕ → ℕ
hop_limit p = byte_at p 7

-- Document 01, "Headers and options": "for v6 from 40 to 40 + payload length, never past the slice".
abbrev pub payload_end : List ℕ → ℕ
payload_end p = min (40 + payload_length p) (length p)

abbrev pub payload : List ℕ → List ℕ
payload p = part 40 (payload_end p) p
