-- A packet of a bundle as it is read, and its line: its answer as `termread` prints it, a blank, and its raw line (document 02, Wish 7) or
-- `-`.
use Rattle.std.specs.Prelude.{ℕ, ◌+◌, ◌-◌, Bool, cond, ◌&&◌, List, [], ◌∷◌, ◌++◌, leb, length, None, Result, Ok, Err}
use Rattle.basis.specs.Bytes.{be16, part}
use Rattle.text.specs.Decimal.{newline}
use Rattle.observable.specs.declared.TcpObservation.{TcpObservation}
use Rattle.refusals.specs.declared.PacketRefusal.{PacketRefusal}
use Rattle.flow.specs.declared.Reading.{Reading}
use Rattle.flow.specs.declared.Reading.TheVariants as reading
use Rattle.flow.specs.Reading.{read_packet}
use Rattle.packet_answer.specs.declared.PacketAnswer.{PacketAnswer}
use Rattle.packet_answer.specs.Packet.{peer_of}
use Rattle.report.specs.Text.{answer_text}
use Rattle.written_line.specs.Writing.{observation_line}

-- The raw line of an observation, in the room that it needs at most.
unfoldable pub seen_text : TcpObservation → List ℕ
seen_text o = (observation_line o 432).line

-- " "
abbrev pub blank : List ℕ
blank = 32 ∷ []

-- "-", where nothing was seen.
abbrev pub dash : List ℕ
dash = 45 ∷ []

abbrev pub shown_raw : Result Reading PacketRefusal → List ℕ
shown_raw (Ok (reading.Opening k o)) = seen_text o
shown_raw (Ok reading.Nothing) = dash
shown_raw (Err r) = dash

-- The line of a packet that was answered and read so.
unfoldable pub packet_line : Result PacketAnswer PacketRefusal → Result Reading PacketRefusal → List ℕ
packet_line answer r = answer_text answer ++ (blank ++ (shown_raw r ++ newline))

-- A packet with the four bytes before it lies within a bundle of so many bytes.
abbrev pub packet_within : ℕ → ℕ → ℕ → Bool
packet_within at end size = leb end size && leb 4 end && leb at (end - 4)

-- What is read of the packet that starts and ends at these places of a bundle; of one that does not lie within it, what is read of nothing.
unfoldable pub reading_at : List ℕ → ℕ → ℕ → Result Reading PacketRefusal
reading_at b at end =
    cond (packet_within at end (length b)) (read_packet (part (at + 4) end b) (peer_of (be16 b at))) (read_packet [] None)
