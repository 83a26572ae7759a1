-- Demand 1, a line for each public function of packet_answer.
-- tools/promises makes this file from the contracts, and the gate holds it to them.
use Rattle.std.specs.Borrow.{Bor}
use Rattle.std.specs.Prelude.{ℕ, List, Option}
use contract.Lifetimes.{Lfts}
use Rattle.flow.specs.declared.Mode.{Mode}
use Rattle.packet_answer.specs.Packet.{answer_in, answer_of, peer_of}
use Rattle.packet_answer.specs.contracts.answer_packet as answer_packet'
use Rattle.packet_answer.specs.contracts.answer_packet_in as answer_packet_in'
use Rattle.packet_answer.specs.contracts.peer_of as peer_of'
use Rattle.packet_answer.proofs.answer_packet.Reads as answer_packet_reads
use Rattle.packet_answer.proofs.answer_packet_in.Reads as answer_packet_in_reads
use Rattle.packet_answer.proofs.peer_of.Reads as peer_of_reads
use Rattle.acceptance.specs.Promised.{Answers}

pub record Promises : Type 0 where
  pub peer_of_one
      : (number : ℕ)
      → Answers peer_of'.signature tt (peer_of_reads.Pre tt) (peer_of_reads.Post tt) (number, tt) (peer_of number)
  pub answer_packet_in_one
      : (κs : Lfts 2) (packet : Bor (List ℕ)) (peer : Option ℕ) (list : Bor (List ℕ)) (mode : Mode)
      → Answers answer_packet_in'.signature κs (answer_packet_in_reads.Pre κs) (answer_packet_in_reads.Post κs)
      (packet, (peer, (list, (mode, tt)))) (answer_in mode packet.now peer list.now)
  pub answer_packet_one
      : (κs : Lfts 2) (packet : Bor (List ℕ)) (peer : Option ℕ) (list : Bor (List ℕ))
      → Answers answer_packet'.signature κs (answer_packet_reads.Pre κs) (answer_packet_reads.Post κs)
      (packet, (peer, (list, tt))) (answer_of packet.now peer list.now)
