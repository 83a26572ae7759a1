-- The reading of a packet: SYN or SYN+ACK observation, nothing, or a refusal 1 to 7 (document 01, "Refusal numbers").
use Rattle.std.specs.Prelude.{ℕ, List, Option, Some, None, Result, Ok, Err}
use Rattle.basis.specs.Bytes.{part}
use Rattle.observable.specs.declared.TcpObservation.{TcpObservation}
use Rattle.observable.specs.Observation.{empty_observation}
use Rattle.ip.specs.declared.IpFacts.{IpFacts}
use Rattle.refusals.specs.declared.PacketRefusal.{PacketRefusal}
use Rattle.flow.specs.declared.Kind.{Kind}
use Rattle.flow.specs.declared.Reading.{Reading}
use Rattle.flow.specs.declared.Reading.TheVariants as reading
use Rattle.ip.specs.Ip.{IpStage, read_ip}
use Rattle.refusals.specs.Refusals.{Verdict, packet_refused, number_of}
use Rattle.flow.specs.Tcp.{read_tcp}

-- A reader has two stages, chosen apart: an IP stage, and a TCP stage, which sees the IP stage's facts, the TCP part and the peer's MSS,
-- and nothing else of the packet.
abbrev pub TcpStage : Type 0
TcpStage = IpFacts → List ℕ → Option ℕ → Result Reading PacketRefusal

-- The TCP part: "the part that begins after the IP header".
abbrev pub tcp_part : IpFacts → List ℕ → List ℕ
tcp_part f p = part f.start f.end p

abbrev pub after_ip : TcpStage → Result IpFacts PacketRefusal → List ℕ → Option ℕ → Result Reading PacketRefusal
after_ip tcp (Err r) p peer = Err r
after_ip tcp (Ok f) p peer = tcp f (tcp_part f p) peer

-- The reader of two stages.
abbrev pub read_by : IpStage → TcpStage → List ℕ → Option ℕ → Result Reading PacketRefusal
read_by stage tcp p peer = after_ip tcp (stage p) p peer

-- Document 01's reader.
unfoldable pub read_packet : List ℕ → Option ℕ → Result Reading PacketRefusal
read_packet p peer = read_by read_ip read_tcp p peer

-- Of what was read, the kind: SYN or SYN+ACK, nothing, or the refusal.
abbrev pub kind_read : Result Reading PacketRefusal → Result (Option Kind) PacketRefusal
kind_read (Err r) = Err r
kind_read (Ok reading.Nothing) = Ok None
kind_read (Ok (reading.Opening k o)) = Ok (Some k)

-- And the observation: "nothing" and a refusal give none (document 01, "Refusal numbers": no row returns an observation), said as the empty
-- observation.
abbrev pub observation_read : Result Reading PacketRefusal → TcpObservation
observation_read (Err r) = empty_observation
observation_read (Ok reading.Nothing) = empty_observation
observation_read (Ok (reading.Opening k o)) = o

-- Which refusal of the table it is, if any, and its number; 0 if it is none.
abbrev pub answer_verdict : Result Reading PacketRefusal → Verdict
answer_verdict (Err r) = packet_refused r
answer_verdict (Ok r) = Verdict.accepted

unfoldable pub refusal_of : Result Reading PacketRefusal → ℕ
refusal_of r = number_of (answer_verdict r)
