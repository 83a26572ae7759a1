-- "All else agrees" (document 01, "Free bytes of demand 3"): for what is not free, packets that differ in one byte and get different
-- answers; so the list could not take them in. `NotFree` is the statement.
use Rattle.std.specs.Prelude.{◌≡◌, List, [], ◌∷◌, ℕ, set, None}
use Rattle.flow.specs.Reading.{read_packet, observation_read}
use Rattle.search.specs.Search.{search_list}
use Rattle.alike.specs.Packets.{Alike}
use Rattle.acceptance.specs.Values.{packet_a, example_list}

-- Two packets are read differently; and they get different answers of the whole example's list.
abbrev pub ReadApart : List ℕ → List ℕ → Type 0
ReadApart p q = read_packet p None ≡ read_packet q None → ⊥

abbrev pub AnsweredApart : List ℕ → List ℕ → Type 0
AnsweredApart p q =
    search_list (observation_read (read_packet p None)) example_list
    ≡ search_list (observation_read (read_packet q None)) example_list
    → ⊥

-- A SYN over IPv4 with two NOPs and a timestamps option: own timestamp 1 (bytes 44 to 47), peer's 0 (48 to 51).
abbrev pub stamped : List ℕ
stamped =
    0x45 ∷ 0 ∷ 0 ∷ 0x34 ∷ 0 ∷ 0 ∷ 0x40 ∷ 0 ∷ 0x40 ∷ 6 ∷ 0 ∷ 0
    ∷ 0 ∷ 0 ∷ 0 ∷ 0 ∷ 0 ∷ 0 ∷ 0 ∷ 0
    ∷ 0 ∷ 1 ∷ 0 ∷ 2 ∷ 0 ∷ 0 ∷ 0 ∷ 1 ∷ 0 ∷ 0 ∷ 0 ∷ 0 ∷ 0x80 ∷ 2 ∷ 0x16 ∷ 0xd0 ∷ 0 ∷ 0 ∷ 0 ∷ 0
    ∷ 1 ∷ 1 ∷ 8 ∷ 10 ∷ 0 ∷ 0 ∷ 0 ∷ 1 ∷ 0 ∷ 0 ∷ 0 ∷ 0 ∷ []

-- The TCP part of packet A over IPv6.
abbrev pub over_ipv6 : List ℕ
over_ipv6 =
    0x60 ∷ 0 ∷ 0 ∷ 0 ∷ 0 ∷ 24 ∷ 6 ∷ 0x40
    ∷ 0 ∷ 0 ∷ 0 ∷ 0 ∷ 0 ∷ 0 ∷ 0 ∷ 0 ∷ 0 ∷ 0 ∷ 0 ∷ 0 ∷ 0 ∷ 0 ∷ 0 ∷ 0
    ∷ 0 ∷ 0 ∷ 0 ∷ 0 ∷ 0 ∷ 0 ∷ 0 ∷ 0 ∷ 0 ∷ 0 ∷ 0 ∷ 0 ∷ 0 ∷ 0 ∷ 0 ∷ 0
    ∷ 0 ∷ 1 ∷ 0 ∷ 2 ∷ 0 ∷ 0 ∷ 0 ∷ 1 ∷ 0 ∷ 0 ∷ 0 ∷ 0 ∷ 0x60 ∷ 2 ∷ 0x16 ∷ 0xd0 ∷ 0 ∷ 0 ∷ 0 ∷ 0
    ∷ 2 ∷ 4 ∷ 5 ∷ 0xb4 ∷ []

-- Packet A and its twin over IPv6 with a length of 0, so that the length's high byte alone tells whether there is a TCP part: with 1
-- there the length is 256, which is clipped to the packet.
abbrev pub no_length : List ℕ
no_length = set packet_a 3 0

abbrev pub no_length_ipv6 : List ℕ
no_length_ipv6 = set over_ipv6 5 0

-- One byte of packet A turned, and read apart.
abbrev pub Turned : ℕ → ℕ → Type 0
Turned i v = ReadApart packet_a (set packet_a i v)

pub record NotFree : Type 0 where
  -- Packets that are read apart are not alike.
  pub apart : (p q : List ℕ) → ReadApart p q → Alike p q → ⊥
  -- a TTL byte, a window byte and an option kind: packet A is exact, and the others are not
  pub ttl : AnsweredApart packet_a (set packet_a 8 0x1c)
  pub window : AnsweredApart packet_a (set packet_a 34 0x17)
  pub kind : AnsweredApart packet_a (set packet_a 40 3)
  -- a timestamp half that turns zero, and one that turns nonzero
  pub own_stamp : ReadApart stamped (set stamped 47 0)
  pub peer_stamp : ReadApart stamped (set stamped 51 1)
  -- the other fields of packet A, byte by byte: version, header length, type of service, total length
  pub version : Turned 0 0x65
  pub ihl : Turned 0 0x46
  pub service_high : Turned 1 4
  pub service_low : Turned 1 1
  pub total_length : Turned 3 0x2b
  pub total_length_high : ReadApart no_length (set no_length 2 1)
  -- identification turned nonzero; flags; fragment offset; TTL; protocol
  pub identification : Turned 5 1
  pub flags : Turned 6 0
  pub fragment_offset : Turned 7 1
  pub ttl_byte : Turned 8 0x41
  pub protocol : Turned 9 17
  -- sequence turned zero, acknowledgment turned nonzero, data offset, control bits, window, urgent pointer turned nonzero
  pub sequence : Turned 27 0
  pub acknowledgment : Turned 31 1
  pub data_offset : Turned 32 0x50
  pub control : Turned 33 0x12
  pub window_high : Turned 34 0x17
  pub window_low : Turned 35 0xd1
  pub urgent_pointer : Turned 39 1
  -- an option's kind, its length byte, its data
  pub option_kind : Turned 40 3
  pub option_length : Turned 41 3
  pub option_high : Turned 42 4
  pub option_low : Turned 43 0xb5
  -- IPv6: traffic class, flow label turned nonzero, payload length, next header, hop limit
  pub traffic_class_high : ReadApart over_ipv6 (set over_ipv6 0 0x61)
  pub traffic_class : ReadApart over_ipv6 (set over_ipv6 1 0x10)
  pub flow_label : ReadApart over_ipv6 (set over_ipv6 3 1)
  pub payload_length : ReadApart over_ipv6 (set over_ipv6 5 19)
  pub payload_length_high : ReadApart no_length_ipv6 (set no_length_ipv6 4 1)
  pub next_header : ReadApart over_ipv6 (set over_ipv6 6 17)
  pub hop_limit : ReadApart over_ipv6 (set over_ipv6 7 0x41)
