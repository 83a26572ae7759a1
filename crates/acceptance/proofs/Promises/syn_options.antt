-- The lines of syn_options, by its uniqueness theorems.
-- tools/promises makes this file from the contracts, and the gate holds it to them.
use Rattle.std.specs.Prelude.{refl}
use Rattle.syn_options.proofs.Unique as unique
use Rattle.acceptance.specs.Promises.syn_options.{Promises}
use Rattle.acceptance.proofs.Promised.{answered}

pub promises : Promises
promises =
    record {
      walk_options_one = λ κs options stop syn quirks. answered tt (unique.walk_options_one κs options stop syn quirks) (λ m. m) refl;
      read_options_one = λ κs buf stop syn quirks. answered tt (unique.read_options_one κs buf stop syn quirks) (λ m. m) refl;
      parse_options_raw_one = λ κs buf. answered tt (unique.parse_options_raw_one κs buf) (λ m. m) refl;
    }
