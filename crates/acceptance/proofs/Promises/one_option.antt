-- The lines of one_option, by its uniqueness theorems.
-- tools/promises makes this file from the contracts, and the gate holds it to them.
use Rattle.std.specs.Prelude.{refl}
use Rattle.one_option.proofs.Unique as unique
use Rattle.acceptance.specs.Promises.one_option.{Promises}
use Rattle.acceptance.proofs.Promised.{answered}

pub promises : Promises
promises =
    record {
      option_step_one = λ κs options at. answered tt (unique.option_step_one κs options at) (λ m. m) refl;
      later_mss_one = λ κs kind own mss. answered tt (unique.later_mss_one κs kind own mss) (λ m. m) refl;
      later_scale_one = λ κs kind own wscale. answered tt (unique.later_scale_one κs kind own wscale) (λ m. m) refl;
      later_quirks_one = λ κs kind own syn quirks. answered tt (unique.later_quirks_one κs kind own syn quirks) (λ m. m) refl;
    }
