-- The lines of ip, by its uniqueness theorems.
-- tools/promises makes this file from the contracts, and the gate holds it to them.
use Rattle.std.specs.Prelude.{refl}
use Rattle.ip.proofs.Unique as unique
use Rattle.acceptance.specs.Promises.ip.{Promises}
use Rattle.acceptance.proofs.Promised.{answered}

pub promises : Promises
promises =
    record {
      read_ip_one = λ κs packet. answered tt (unique.read_ip_one κs packet) (λ m. m) refl;
    }
