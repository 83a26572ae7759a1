-- The lines of observable, by its uniqueness theorems.
-- tools/promises makes this file from the contracts, and the gate holds it to them.
use Rattle.std.specs.Prelude.{refl}
use Rattle.observable.proofs.Unique as unique
use Rattle.acceptance.specs.Promises.observable.{Promises}
use Rattle.acceptance.proofs.Promised.{answered}

pub promises : Promises
promises =
    record {
      empty_one = answered tt (unique.empty_one) (λ m. m) refl;
      window_multiplier_one = λ self. answered tt (unique.window_multiplier_one self) (λ m. m) refl;
      own_timestamp_is_nonzero_one = λ self. answered tt (unique.own_timestamp_is_nonzero_one self) (λ m. m) refl;
    }
