-- The lines of flow, by its uniqueness theorems.
-- tools/promises makes this file from the contracts, and the gate holds it to them.
use Rattle.std.specs.Prelude.{refl}
use Rattle.flow.proofs.Unique as unique
use Rattle.acceptance.specs.Promises.flow.{Promises}
use Rattle.acceptance.proofs.Promised.{answered}

pub promises : Promises
promises =
    record {
      mode_of_one = λ bits. answered tt (unique.mode_of_one bits) (λ m. m) refl;
      read_packet_in_one = λ κs packet peer_mss mode. answered tt (unique.read_packet_in_one κs packet peer_mss mode) (λ m. m) refl;
      read_packet_one = λ κs packet peer_mss. answered tt (unique.read_packet_one κs packet peer_mss) (λ m. m) refl;
    }
