-- Exactly one result meets each public function's own contract.
-- tools/promises makes this file from the contracts, and the gate holds it to them.
use Rattle.std.specs.Borrow.{Bor}
use Rattle.std.specs.Prelude.{ℕ, List, Option, Result}
use contract.Lifetimes.{Lfts}
use Rattle.basis.specs.Unique.{ExactlyOne}
use Rattle.basis.proofs.Unique.{equation}
use Rattle.refusals.specs.declared.PacketRefusal.{PacketRefusal}
use Rattle.flow.specs.declared.Mode.{Mode}
use Rattle.packet_answer.specs.declared.PacketAnswer.{PacketAnswer}
use Rattle.packet_answer.specs.Packet.{answer_in, answer_of, peer_of}
use Rattle.packet_answer.proofs.answer_packet.Reads as answer_packet'
use Rattle.packet_answer.proofs.answer_packet_in.Reads as answer_packet_in'
use Rattle.packet_answer.proofs.peer_of.Reads as peer_of'

pub peer_of_one : (number : ℕ) → ExactlyOne (Option ℕ) (λ (r : Option ℕ). peer_of'.Post tt (number, tt) r (number, tt))
peer_of_one number = equation (peer_of number)

pub answer_packet_in_one
    : (κs : Lfts 2) (packet : Bor (List ℕ)) (peer : Option ℕ) (list : Bor (List ℕ)) (mode : Mode)
    → ExactlyOne (Result PacketAnswer PacketRefusal)
    (λ (r : Result PacketAnswer PacketRefusal). answer_packet_in'.Post κs (packet, (peer, (list, (mode, tt)))) r
    (packet, (peer, (list, (mode, tt)))))
answer_packet_in_one κs packet peer list mode = equation (answer_in mode packet.now peer list.now)

pub answer_packet_one
    : (κs : Lfts 2) (packet : Bor (List ℕ)) (peer : Option ℕ) (list : Bor (List ℕ))
    → ExactlyOne (Result PacketAnswer PacketRefusal)
    (λ (r : Result PacketAnswer PacketRefusal). answer_packet'.Post κs (packet, (peer, (list, tt))) r (packet, (peer, (list, tt))))
answer_packet_one κs packet peer list = equation (answer_of packet.now peer list.now)
