-- The lines of sigrecord, by its uniqueness theorems.
-- tools/promises makes this file from the contracts, and the gate holds it to them.
use Rattle.std.specs.Prelude.{refl}
use Rattle.sigrecord.proofs.Unique as unique
use Rattle.acceptance.specs.Promises.sigrecord.{Promises}
use Rattle.acceptance.proofs.Promised.{answered}

pub promises : Promises
promises =
    record {
      version_of_one = λ κs raw. answered tt (unique.version_of_one κs raw) (λ m. m) refl;
      ttl_of_one = λ κs raw. answered tt (unique.ttl_of_one κs raw) (λ m. m) refl;
      mss_of_one = λ κs raw. answered tt (unique.mss_of_one κs raw) (λ m. m) refl;
      window_of_one = λ κs raw. answered tt (unique.window_of_one κs raw) (λ m. m) refl;
      scale_of_one = λ κs raw. answered tt (unique.scale_of_one κs raw) (λ m. m) refl;
      quirks_of_one = λ κs raw. answered tt (unique.quirks_of_one κs raw) (λ m. m) refl;
      signature_of_one = λ κs raw. answered tt (unique.signature_of_one κs raw) (λ m. m) refl;
      first_entry_one = λ κs raw. answered tt (unique.first_entry_one κs raw) (λ m. m) refl;
      entry_count_one = λ κs raw. answered tt (unique.entry_count_one κs raw) (λ m. m) refl;
      label_of_one = λ κs raw. answered tt (unique.label_of_one κs raw) (λ m. m) refl;
      is_generic_one = λ κs raw. answered tt (unique.is_generic_one κs raw) (λ m. m) refl;
      scalars_well_formed_one = λ κs raw. answered tt (unique.scalars_well_formed_one κs raw) (λ m. m) refl;
      forms_well_formed_one = λ κs raw. answered tt (unique.forms_well_formed_one κs raw) (λ m. m) refl;
      quirks_good_one = λ κs raw. answered tt (unique.quirks_good_one κs raw) (λ m. m) refl;
      entry_good_one = λ kind byte. answered tt (unique.entry_good_one kind byte) (λ m. m) refl;
      entries_good_one = λ κs entries. answered tt (unique.entries_good_one κs entries) (λ m. m) refl;
    }
