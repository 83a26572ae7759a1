-- Exactly one result meets each public function's own contract.
-- tools/promises makes this file from the contracts, and the gate holds it to them.
use Rattle.std.specs.Prelude.{ℕ}
use Rattle.basis.specs.Unique.{ExactlyOne}
use Rattle.basis.proofs.Unique.{equation}
use Rattle.refusals.specs.declared.ListRefusal.{ListRefusal}
use Rattle.refusals.specs.declared.PacketRefusal.{PacketRefusal}
use Rattle.refusals.specs.declared.Refusal.{Refusal}
use Rattle.refusals.specs.Refusals.{list_value, number, packet_value, value}
use Rattle.refusals.proofs.list_value.Reads as list_value'
use Rattle.refusals.proofs.packet_value.Reads as packet_value'
use Rattle.refusals.proofs.refusal_number.Reads as refusal_number'
use Rattle.refusals.proofs.refusal_value.Reads as refusal_value'

pub refusal_number_one : (refusal : Refusal) → ExactlyOne ℕ (λ (r : ℕ). refusal_number'.Post tt (refusal, tt) r (refusal, tt))
refusal_number_one refusal = equation (number refusal)

pub packet_value_one : (refusal : PacketRefusal) → ExactlyOne ℕ (λ (r : ℕ). packet_value'.Post tt (refusal, tt) r (refusal, tt))
packet_value_one refusal = equation (packet_value refusal)

pub list_value_one : (refusal : ListRefusal) → ExactlyOne ℕ (λ (r : ℕ). list_value'.Post tt (refusal, tt) r (refusal, tt))
list_value_one refusal = equation (list_value refusal)

pub refusal_value_one : (refusal : Refusal) → ExactlyOne ℕ (λ (r : ℕ). refusal_value'.Post tt (refusal, tt) r (refusal, tt))
refusal_value_one refusal = equation (value refusal)
