-- The lines of distances, by its uniqueness theorems.
-- tools/promises makes this file from the contracts, and the gate holds it to them.
use Rattle.std.specs.Prelude.{refl}
use Rattle.distances.proofs.Unique as unique
use Rattle.acceptance.specs.Promises.distances.{Promises}
use Rattle.acceptance.proofs.Promised.{answered}

pub promises : Promises
promises =
    record {
      ip_version_matches_one = λ observed code. answered tt (unique.ip_version_matches_one observed code) (λ m. m) refl;
      ttl_fit_one = λ observed signature. answered tt (unique.ttl_fit_one observed signature) (λ m. m) refl;
      report_hop_distance_one = λ observed signature. answered tt (unique.report_hop_distance_one observed signature) (λ m. m) refl;
      window_size_matches_one =
          λ observed signature multiplier. answered tt (unique.window_size_matches_one observed signature multiplier) (λ m. m) refl;
      payload_size_matches_one = λ observed code. answered tt (unique.payload_size_matches_one observed code) (λ m. m) refl;
    }
