-- Exactly one result meets each public function's own contract.
-- tools/promises makes this file from the contracts, and the gate holds it to them.
use Rattle.std.specs.Borrow.{Bor}
use Rattle.std.specs.Prelude.{ℕ, List, Option, Result}
use contract.Lifetimes.{Lfts}
use Rattle.basis.specs.Unique.{ExactlyOne}
use Rattle.basis.proofs.Unique.{equation}
use Rattle.refusals.specs.declared.PacketRefusal.{PacketRefusal}
use Rattle.flow.specs.declared.Mode.{Mode}
use Rattle.flow.specs.declared.Reading.{Reading}
use Rattle.flow.specs.Modes.{mode_of, read_in}
use Rattle.flow.specs.Reading.{read_packet}
use Rattle.flow.proofs.mode_of.Reads as mode_of'
use Rattle.flow.proofs.read_packet.Reads as read_packet'
use Rattle.flow.proofs.read_packet_in.Reads as read_packet_in'

pub mode_of_one : (bits : ℕ) → ExactlyOne Mode (λ (r : Mode). mode_of'.Post tt (bits, tt) r (bits, tt))
mode_of_one bits = equation (mode_of bits)

pub read_packet_in_one
    : (κs : Lfts 1) (packet : Bor (List ℕ)) (peer_mss : Option ℕ) (mode : Mode)
    → ExactlyOne (Result Reading PacketRefusal)
    (λ (r : Result Reading PacketRefusal). read_packet_in'.Post κs (packet, (peer_mss, (mode, tt))) r (packet, (peer_mss, (mode, tt))))
read_packet_in_one κs packet peer_mss mode = equation (read_in mode packet.now peer_mss)

pub read_packet_one
    : (κs : Lfts 1) (packet : Bor (List ℕ)) (peer_mss : Option ℕ)
    → ExactlyOne (Result Reading PacketRefusal)
    (λ (r : Result Reading PacketRefusal). read_packet'.Post κs (packet, (peer_mss, tt)) r (packet, (peer_mss, tt)))
read_packet_one κs packet peer_mss = equation (read_packet packet.now peer_mss)
