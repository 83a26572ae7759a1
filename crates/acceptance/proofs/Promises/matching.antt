-- The lines of matching, by its uniqueness theorems.
-- tools/promises makes this file from the contracts, and the gate holds it to them.
use Rattle.std.specs.Prelude.{refl}
use Rattle.matching.proofs.Unique as unique
use Rattle.acceptance.specs.Promises.matching.{Promises}
use Rattle.acceptance.proofs.Promised.{answered}

pub promises : Promises
promises =
    record {
      olen_matches_one = λ observed signature. answered tt (unique.olen_matches_one observed signature) (λ m. m) refl;
      mss_matches_one = λ observed signature. answered tt (unique.mss_matches_one observed signature) (λ m. m) refl;
      wscale_matches_one = λ observed signature. answered tt (unique.wscale_matches_one observed signature) (λ m. m) refl;
      olayout_matches_one =
          λ κs kinds bytes count entries declared. answered tt (unique.olayout_matches_one κs kinds bytes count entries declared) (λ m. m)
          refl;
      count_and_scale_match_one = λ κs count wscale raw. answered tt (unique.count_and_scale_match_one κs count wscale raw) (λ m. m) refl;
      other_gates_match_one = λ κs observed raw. answered tt (unique.other_gates_match_one κs observed raw) (λ m. m) refl;
      passes_gates_one = λ κs observed raw. answered tt (unique.passes_gates_one κs observed raw) (λ m. m) refl;
      mask_signature_quirks_one =
          λ quirks signature observed. answered tt (unique.mask_signature_quirks_one quirks signature observed) (λ m. m) refl;
      quirks_fit_one = λ observed signature. answered tt (unique.quirks_fit_one observed signature) (λ m. m) refl;
      features_of_one = λ observed. answered tt (unique.features_of_one observed) (λ m. m) refl;
      tolerance_one = λ κs observed raw. answered tt (unique.tolerance_one κs observed raw) (λ m. m) refl;
    }
