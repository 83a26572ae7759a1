-- The lines of ttl, by its uniqueness theorems.
-- tools/promises makes this file from the contracts, and the gate holds it to them.
use Rattle.std.specs.Prelude.{refl}
use Rattle.ttl.proofs.Unique as unique
use Rattle.acceptance.specs.Promises.ttl.{Promises}
use Rattle.acceptance.proofs.Promised.{answered}

pub promises : Promises
promises =
    record {
      max_dist_one = answered tt (unique.max_dist_one) (λ m. m) refl;
      observed_ttl_one = λ ttl. answered tt (unique.observed_ttl_one ttl) (λ m. m) refl;
      ttl_classes_one = answered tt (unique.ttl_classes_one) (λ m. m) refl;
      ttl_guesses_one = answered tt (unique.ttl_guesses_one) (λ m. m) refl;
      ttl_entry_one = λ ttl. answered tt (unique.ttl_entry_one ttl) (λ m. m) refl;
      guess_distance_one = λ ttl. answered tt (unique.guess_distance_one ttl) (λ m. m) refl;
      calculate_ttl_one = λ ttl_observed. answered tt (unique.calculate_ttl_one ttl_observed) (λ m. m) refl;
    }
