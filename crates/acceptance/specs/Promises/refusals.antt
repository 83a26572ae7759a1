-- Demand 1, a line for each public function of refusals.
-- tools/promises makes this file from the contracts, and the gate holds it to them.
use Rattle.refusals.specs.declared.ListRefusal.{ListRefusal}
use Rattle.refusals.specs.declared.PacketRefusal.{PacketRefusal}
use Rattle.refusals.specs.declared.Refusal.{Refusal}
use Rattle.refusals.specs.Refusals.{list_value, number, packet_value, value}
use Rattle.refusals.specs.contracts.list_value as list_value'
use Rattle.refusals.specs.contracts.packet_value as packet_value'
use Rattle.refusals.specs.contracts.refusal_number as refusal_number'
use Rattle.refusals.specs.contracts.refusal_value as refusal_value'
use Rattle.refusals.proofs.list_value.Reads as list_value_reads
use Rattle.refusals.proofs.packet_value.Reads as packet_value_reads
use Rattle.refusals.proofs.refusal_number.Reads as refusal_number_reads
use Rattle.refusals.proofs.refusal_value.Reads as refusal_value_reads
use Rattle.acceptance.specs.Promised.{Answers}

pub record Promises : Type 0 where
  pub refusal_number_one
      : (refusal : Refusal)
      → Answers refusal_number'.signature tt (refusal_number_reads.Pre tt) (refusal_number_reads.Post tt) (refusal, tt) (number refusal)
  pub packet_value_one
      : (refusal : PacketRefusal)
      → Answers packet_value'.signature tt (packet_value_reads.Pre tt) (packet_value_reads.Post tt) (refusal, tt) (packet_value refusal)
  pub list_value_one
      : (refusal : ListRefusal)
      → Answers list_value'.signature tt (list_value_reads.Pre tt) (list_value_reads.Post tt) (refusal, tt) (list_value refusal)
  pub refusal_value_one
      : (refusal : Refusal)
      → Answers refusal_value'.signature tt (refusal_value_reads.Pre tt) (refusal_value_reads.Post tt) (refusal, tt) (value refusal)
