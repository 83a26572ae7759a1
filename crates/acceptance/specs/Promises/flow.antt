-- Demand 1, a line for each public function of flow.
-- tools/promises makes this file from the contracts, and the gate holds it to them.
use Rattle.std.specs.Borrow.{Bor}
use Rattle.std.specs.Prelude.{ℕ, List, Option}
use contract.Lifetimes.{Lfts}
use Rattle.flow.specs.declared.Mode.{Mode}
use Rattle.flow.specs.Modes.{mode_of, read_in}
use Rattle.flow.specs.Reading.{read_packet}
use Rattle.flow.specs.contracts.mode_of as mode_of'
use Rattle.flow.specs.contracts.read_packet as read_packet'
use Rattle.flow.specs.contracts.read_packet_in as read_packet_in'
use Rattle.flow.proofs.mode_of.Reads as mode_of_reads
use Rattle.flow.proofs.read_packet.Reads as read_packet_reads
use Rattle.flow.proofs.read_packet_in.Reads as read_packet_in_reads
use Rattle.acceptance.specs.Promised.{Answers}

pub record Promises : Type 0 where
  pub mode_of_one : (bits : ℕ) → Answers mode_of'.signature tt (mode_of_reads.Pre tt) (mode_of_reads.Post tt) (bits, tt) (mode_of bits)
  pub read_packet_in_one
      : (κs : Lfts 1) (packet : Bor (List ℕ)) (peer_mss : Option ℕ) (mode : Mode)
      → Answers read_packet_in'.signature κs (read_packet_in_reads.Pre κs) (read_packet_in_reads.Post κs)
      (packet, (peer_mss, (mode, tt))) (read_in mode packet.now peer_mss)
  pub read_packet_one
      : (κs : Lfts 1) (packet : Bor (List ℕ)) (peer_mss : Option ℕ)
      → Answers read_packet'.signature κs (read_packet_reads.Pre κs) (read_packet_reads.Post κs)
      (packet, (peer_mss, tt)) (read_packet packet.now peer_mss)
