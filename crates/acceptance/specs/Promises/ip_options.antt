-- Demand 1, a line for each public function of ip_options.
-- tools/promises makes this file from the contracts, and the gate holds it to them.
use Rattle.std.specs.Borrow.{Bor}
use Rattle.std.specs.Prelude.{ℕ, List}
use contract.Lifetimes.{Lfts}
use Rattle.ip_options.specs.IpOptions.{ipv4_option_length, ipv6_extension_length}
use Rattle.ip_options.specs.contracts.calculate_ipv4_length as calculate_ipv4_length'
use Rattle.ip_options.specs.contracts.calculate_ipv6_length as calculate_ipv6_length'
use Rattle.ip_options.proofs.calculate_ipv4_length.Reads as calculate_ipv4_length_reads
use Rattle.ip_options.proofs.calculate_ipv6_length.Reads as calculate_ipv6_length_reads
use Rattle.acceptance.specs.Promised.{Answers}

pub record Promises : Type 0 where
  pub calculate_ipv4_length_one
      : (κs : Lfts 1) (packet : Bor (List ℕ))
      → Answers calculate_ipv4_length'.signature κs (calculate_ipv4_length_reads.Pre κs) (calculate_ipv4_length_reads.Post κs)
      (packet, tt) (ipv4_option_length packet.now)
  pub calculate_ipv6_length_one
      : (κs : Lfts 1) (packet : Bor (List ℕ))
      → Answers calculate_ipv6_length'.signature κs (calculate_ipv6_length_reads.Pre κs) (calculate_ipv6_length_reads.Post κs)
      (packet, tt) (ipv6_extension_length packet.now)
