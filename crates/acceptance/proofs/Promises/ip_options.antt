-- The lines of ip_options, by its uniqueness theorems.
-- tools/promises makes this file from the contracts, and the gate holds it to them.
use Rattle.std.specs.Prelude.{refl}
use Rattle.ip_options.proofs.Unique as unique
use Rattle.acceptance.specs.Promises.ip_options.{Promises}
use Rattle.acceptance.proofs.Promised.{answered}

pub promises : Promises
promises =
    record {
      calculate_ipv4_length_one = λ κs packet. answered tt (unique.calculate_ipv4_length_one κs packet) (λ m. m) refl;
      calculate_ipv6_length_one = λ κs packet. answered tt (unique.calculate_ipv6_length_one κs packet) (λ m. m) refl;
    }
