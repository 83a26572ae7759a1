-- Exactly one result meets each public function's own contract.
-- tools/promises makes this file from the contracts, and the gate holds it to them.
use Rattle.std.specs.Borrow.{Bor}
use Rattle.std.specs.Prelude.{ℕ, List}
use contract.Lifetimes.{Lfts}
use Rattle.basis.specs.Unique.{ExactlyOne}
use Rattle.basis.proofs.Unique.{equation}
use Rattle.ip_options.specs.IpOptions.{ipv4_option_length, ipv6_extension_length}
use Rattle.ip_options.proofs.calculate_ipv4_length.Reads as calculate_ipv4_length'
use Rattle.ip_options.proofs.calculate_ipv6_length.Reads as calculate_ipv6_length'

pub calculate_ipv4_length_one
    : (κs : Lfts 1) (packet : Bor (List ℕ))
    → ExactlyOne ℕ (λ (r : ℕ). calculate_ipv4_length'.Post κs (packet, tt) r (packet, tt))
calculate_ipv4_length_one κs packet = equation (ipv4_option_length packet.now)

pub calculate_ipv6_length_one
    : (κs : Lfts 1) (packet : Bor (List ℕ))
    → ExactlyOne ℕ (λ (r : ℕ). calculate_ipv6_length'.Post κs (packet, tt) r (packet, tt))
calculate_ipv6_length_one κs packet = equation (ipv6_extension_length packet.now)
