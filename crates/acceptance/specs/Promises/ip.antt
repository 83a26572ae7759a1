-- Demand 1, a line for each public function of ip.
-- tools/promises makes this file from the contracts, and the gate holds it to them.
use Rattle.std.specs.Borrow.{Bor}
use Rattle.std.specs.Prelude.{ℕ, List}
use contract.Lifetimes.{Lfts}
use Rattle.ip.specs.Ip.{read_ip}
use Rattle.ip.specs.contracts.read_ip as read_ip'
use Rattle.ip.proofs.read_ip.Reads as read_ip_reads
use Rattle.acceptance.specs.Promised.{Answers}

pub record Promises : Type 0 where
  pub read_ip_one
      : (κs : Lfts 1) (packet : Bor (List ℕ))
      → Answers read_ip'.signature κs (read_ip_reads.Pre κs) (read_ip_reads.Post κs) (packet, tt) (read_ip packet.now)
