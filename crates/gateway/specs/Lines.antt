-- A line for C: the struct that is answered, and the line that stands in the buffer, from its start on (document 02, Wish 7). Beside
-- "nothing" and a refusal no byte is written.
use Rattle.std.specs.Prelude.{ℕ, ◌%◌, List, [], Result, Ok, Err}
use Rattle.text.specs.Written.{Lined}
use Rattle.refusals.specs.declared.PacketRefusal.{PacketRefusal}
use Rattle.refusals.specs.declared.Refusal.{Refusal}
use Rattle.refusals.specs.Refusals.{number, packet_number, packet_value, by_kind}
use Rattle.observable.specs.declared.TcpObservation.{TcpObservation}
use Rattle.flow.specs.declared.Mode.{Mode}
use Rattle.flow.specs.declared.Reading.{Reading}
use Rattle.flow.specs.declared.Reading.TheVariants as reading
use Rattle.flow.specs.Modes.{mode_of, read_in}
use Rattle.flow.specs.Reading.{read_packet}
use Rattle.packet_answer.specs.Packet.{peer_of}
use Rattle.written_line.specs.Writing.{observation_line, record_line}
use Rattle.gateway.specs.declared.TermreadResult.{TermreadResult}
use Rattle.gateway.specs.Parts.{plain, valued, refused, kind_number, refused_list}

-- ---- the struct

-- `outcome` 6: a line was written. `kind`, of a packet's line: 1 SYN, 2 SYN+ACK; of a record's 0. `value`: how many bytes it has.
abbrev pub line_parts : ℕ → ℕ → TermreadResult
line_parts kind size = valued 6 kind 0 (size % 65536)

-- A packet's and a list's refusal as everywhere; of the others that a line meets, 11, 15 and 23, none returns anything.
unfoldable pub refusal_parts : Refusal → TermreadResult
refusal_parts r = by_kind (λ why. refused (packet_number why) (packet_value why)) refused_list (refused (number r) 0) r

unfoldable pub wrote_parts : ℕ → Result ℕ Refusal → TermreadResult
wrote_parts kind (Ok size) = line_parts kind size
wrote_parts kind (Err r) = refusal_parts r

-- ---- with the line

abbrev pub lined_parts : ℕ → Lined (Result ℕ Refusal) → Lined TermreadResult
lined_parts kind w = record { answer = wrote_parts kind w.answer; line = w.line }

abbrev pub unwritten : TermreadResult → Lined TermreadResult
unwritten a = record { answer = a; line = [] }

-- The raw line of what was seen, in a buffer of so many bytes.
abbrev pub seen_line : ℕ → TcpObservation → ℕ → Lined TermreadResult
seen_line kind o room = lined_parts kind (observation_line o room)

abbrev pub line_of_reading : Result Reading PacketRefusal → ℕ → Lined TermreadResult
line_of_reading (Ok (reading.Opening k o)) room = seen_line (kind_number k) o room
line_of_reading (Ok reading.Nothing) room = unwritten (plain 4 0 0 0 0 0)
line_of_reading (Err r) room = unwritten (refused (packet_number r) (packet_value r))

-- ---- what the exported functions answer and write

-- The raw line of a packet: a mode, the packet, the peer's MSS, the bytes of the buffer.
unfoldable pub packet_line_in : Mode → List ℕ → ℕ → ℕ → Lined TermreadResult
packet_line_in mode p peer room = line_of_reading (read_in mode p (peer_of peer)) room

-- By document 01's reader, and in the mode of a number.
unfoldable pub raw_line : List ℕ → ℕ → ℕ → Lined TermreadResult
raw_line p peer room = line_of_reading (read_packet p (peer_of peer)) room

abbrev pub raw_line_in : ℕ → List ℕ → ℕ → ℕ → Lined TermreadResult
raw_line_in bits = packet_line_in (mode_of bits)

-- The line of a record of a list.
unfoldable pub record_parts : List ℕ → ℕ → ℕ → Lined TermreadResult
record_parts l i room = lined_parts 0 (record_line l i room)
