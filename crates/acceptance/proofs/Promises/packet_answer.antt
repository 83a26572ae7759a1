-- The lines of packet_answer, by its uniqueness theorems.
-- tools/promises makes this file from the contracts, and the gate holds it to them.
use Rattle.std.specs.Prelude.{refl}
use Rattle.packet_answer.proofs.Unique as unique
use Rattle.acceptance.specs.Promises.packet_answer.{Promises}
use Rattle.acceptance.proofs.Promised.{answered}

pub promises : Promises
promises =
    record {
      peer_of_one = λ number. answered tt (unique.peer_of_one number) (λ m. m) refl;
      answer_packet_in_one = λ κs packet peer list mode. answered tt (unique.answer_packet_in_one κs packet peer list mode) (λ m. m) refl;
      answer_packet_one = λ κs packet peer list. answered tt (unique.answer_packet_one κs packet peer list) (λ m. m) refl;
    }
