-- The peer's MSS beside a packet, and the answer of a packet against a list.
use Rattle.std.specs.Prelude.{ℕ, cond, List, eqb, Option, Some, None, Result, Ok, Err}
use Rattle.refusals.specs.declared.PacketRefusal.{PacketRefusal}
use Rattle.refusals.specs.Refusals.{Verdict, packet_refused}
use Rattle.flow.specs.declared.Mode.{Mode}
use Rattle.flow.specs.declared.Reading.{Reading}
use Rattle.flow.specs.declared.Reading.TheVariants as reading
use Rattle.flow.specs.Reading.{read_packet}
use Rattle.flow.specs.Modes.{read_in}
use Rattle.search.specs.Search.{searched}
use Rattle.packet_answer.specs.declared.PacketAnswer.{PacketAnswer}
use Rattle.packet_answer.specs.declared.PacketAnswer.TheVariants as packet

-- "A packet is peer MSS (two bytes, 0 absent), length (two), bytes."
unfoldable pub peer_of : ℕ → Option ℕ
peer_of n = cond (eqb n 0) None (Some n)

-- A SYN or SYN+ACK is searched for in the list; nothing and a refusal stay what they are.
abbrev pub after_reading : Result Reading PacketRefusal → List ℕ → Result PacketAnswer PacketRefusal
after_reading (Ok (reading.Opening k o)) l = Ok (packet.Opening k (searched o l))
after_reading (Ok reading.Nothing) l = Ok packet.Nothing
after_reading (Err r) l = Err r

-- The answer of a packet, with the peer's MSS, against a well-formed list.
unfoldable pub answer_of : List ℕ → Option ℕ → List ℕ → Result PacketAnswer PacketRefusal
answer_of p peer l = after_reading (read_packet p peer) l

-- The same in any mode.
unfoldable pub answer_in : Mode → List ℕ → Option ℕ → List ℕ → Result PacketAnswer PacketRefusal
answer_in mode p peer l = after_reading (read_in mode p peer) l

-- Which refusal of the table the answer is, if any.
abbrev pub packet_verdict : Result PacketAnswer PacketRefusal → Verdict
packet_verdict (Ok a) = Verdict.accepted
packet_verdict (Err r) = packet_refused r
