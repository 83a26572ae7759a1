-- The lines of numbers, by its uniqueness theorems.
-- tools/promises makes this file from the contracts, and the gate holds it to them.
use Rattle.std.specs.Prelude.{refl}
use Rattle.numbers.proofs.Unique as unique
use Rattle.acceptance.specs.Promises.numbers.{Promises}
use Rattle.acceptance.proofs.Promised.{answered}

pub promises : Promises
promises =
    record {
      wide_one = λ x. answered tt (unique.wide_one x) (λ m. m) refl;
      be16_one = λ high low. answered tt (unique.be16_one high low) (λ m. m) refl;
      be32_one = λ high low. answered tt (unique.be32_one high low) (λ m. m) refl;
      byte_at_one = λ κs s i. answered tt (unique.byte_at_one κs s i) (λ m. m) refl;
      be16_at_one = λ κs s i. answered tt (unique.be16_at_one κs s i) (λ m. m) refl;
      least_one = λ a b. answered tt (unique.least_one a b) (λ m. m) refl;
      saturating_sub_one = λ a b. answered tt (unique.saturating_sub_one a b) (λ m. m) refl;
      saturating_add_one = λ a b. answered tt (unique.saturating_add_one a b) (λ m. m) refl;
    }
