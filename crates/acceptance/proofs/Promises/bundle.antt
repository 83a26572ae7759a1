-- The lines of bundle, by its uniqueness theorems.
-- tools/promises makes this file from the contracts, and the gate holds it to them.
use Rattle.std.specs.Prelude.{refl}
use Rattle.bundle.proofs.Unique as unique
use Rattle.acceptance.specs.Promises.bundle.{Promises}
use Rattle.acceptance.proofs.Promised.{answered}

pub promises : Promises
promises =
    record {
      check_bundle_one = λ κs bundle. answered tt (unique.check_bundle_one κs bundle) (λ m. m) refl;
      packet_at_in_one = λ κs bundle at mode. answered tt (unique.packet_at_in_one κs bundle at mode) (λ m. m) refl;
      packet_at_one = λ κs bundle at. answered tt (unique.packet_at_one κs bundle at) (λ m. m) refl;
    }
