-- Exactly one result meets each public function's own contract.
-- tools/promises makes this file from the contracts, and the gate holds it to them.
use Rattle.std.specs.Borrow.{Bor}
use Rattle.std.specs.Prelude.{ℕ, List, Result}
use contract.Lifetimes.{Lfts}
use Rattle.basis.specs.Unique.{ExactlyOne}
use Rattle.basis.proofs.Unique.{equation}
use Rattle.refusals.specs.declared.PacketRefusal.{PacketRefusal}
use Rattle.ip.specs.declared.IpFacts.{IpFacts}
use Rattle.ip.specs.Ip.{read_ip}
use Rattle.ip.proofs.read_ip.Reads as read_ip'

pub read_ip_one
    : (κs : Lfts 1) (packet : Bor (List ℕ))
    → ExactlyOne (Result IpFacts PacketRefusal) (λ (r : Result IpFacts PacketRefusal). read_ip'.Post κs (packet, tt) r (packet, tt))
read_ip_one κs packet = equation (read_ip packet.now)
