-- The lines that a gateway gets: what is said of them is true of every packet and of every list.
use Rattle.std.specs.Prelude.{Result}
use mathlib.Core.Path.{◌≡◌, refl, ap}
use mathlib.Core.List.{List}
use Prim.Native.Nat.{ℕ}
use Rattle.basis.specs.Bytes.{AllBytes}
use Rattle.flow.specs.declared.Mode.{Mode}
use Rattle.flow.specs.declared.Reading.{Reading}
use Rattle.flow.specs.Modes.{plain_mode, read_in}
use Rattle.flow.specs.Reading.{read_packet}
use Rattle.refusals.specs.declared.PacketRefusal.{PacketRefusal}
use Rattle.packet_answer.specs.Packet.{peer_of}
use Rattle.gateway.specs.Lines.{line_of_reading, packet_line_in, raw_line}
use Rattle.gateway.specs.LineTold.{LineTold}
use Rattle.gateway.proofs.LineTold.{packet_line_told, record_line_told}
use Rattle.alike.specs.Packets.{Alike}
use Rattle.alike.proofs.Packets.{read_alike}
use Rattle.acceptance.specs.GatewayLines.{GatewayLines}
use Rattle.observed.proofs.Observed.{observed}

packet_told
    : (mode : Mode) (p : List ℕ) (peer room : ℕ) → AllBytes p → LineTold 432 room (packet_line_in mode p peer room)
packet_told mode p peer room all = packet_line_told mode p peer room (observed mode p (peer_of peer) all).held

plain_line_lem : (p : List ℕ) (peer room : ℕ) → raw_line p peer room ≡ packet_line_in plain_mode p peer room
unfolding raw_line packet_line_in read_packet read_in
plain_line_lem p peer room = refl

line_alike
    : (mode : Mode) (p q : List ℕ) (peer room : ℕ) → Alike p q → packet_line_in mode p peer room ≡ packet_line_in mode q peer room
unfolding packet_line_in
line_alike mode p q peer room a = ap (λ (r : Result Reading PacketRefusal). line_of_reading r room) (read_alike mode p q (peer_of peer) a)

pub gateway_lines_lem : GatewayLines
gateway_lines_lem =
    record {
      packet_told = packet_told;
      record_told = λ l i room all. record_line_told l all i room;
      plain = plain_line_lem;
      alike = line_alike;
    }
