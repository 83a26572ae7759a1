-- The lines of display, by its uniqueness theorems.
-- tools/promises makes this file from the contracts, and the gate holds it to them.
use Rattle.std.specs.Prelude.{refl}
use Rattle.display.proofs.Unique as unique
use Rattle.acceptance.specs.Promises.display.{Promises}
use Rattle.acceptance.proofs.Promised.{answered, buffer_answered}

pub promises : Promises
promises =
    record {
      ttl_length_one = λ ttl. answered tt (unique.ttl_length_one ttl) (λ m. m) refl;
      mss_length_one = λ mss. answered tt (unique.mss_length_one mss) (λ m. m) refl;
      wscale_length_one = λ wscale. answered tt (unique.wscale_length_one wscale) (λ m. m) refl;
      window_length_one = λ wsize. answered tt (unique.window_length_one wsize) (λ m. m) refl;
      option_length_one = λ kind byte. answered tt (unique.option_length_one kind byte) (λ m. m) refl;
      quirk_length_one = λ quirk. answered tt (unique.quirk_length_one quirk) (λ m. m) refl;
      put_version_one = λ κs buffer at version. buffer_answered tt (unique.put_version_one κs buffer at version) (λ m. m) refl;
      put_ttl_one = λ κs buffer at ttl. buffer_answered tt (unique.put_ttl_one κs buffer at ttl) (λ m. m) refl;
      put_mss_one = λ κs buffer at mss. buffer_answered tt (unique.put_mss_one κs buffer at mss) (λ m. m) refl;
      put_wscale_one = λ κs buffer at wscale. buffer_answered tt (unique.put_wscale_one κs buffer at wscale) (λ m. m) refl;
      put_window_one = λ κs buffer at wsize. buffer_answered tt (unique.put_window_one κs buffer at wsize) (λ m. m) refl;
      put_option_one = λ κs buffer at kind byte. buffer_answered tt (unique.put_option_one κs buffer at kind byte) (λ m. m) refl;
      put_quirk_one = λ κs buffer at quirk. buffer_answered tt (unique.put_quirk_one κs buffer at quirk) (λ m. m) refl;
      put_payload_one = λ κs buffer at payload. buffer_answered tt (unique.put_payload_one κs buffer at payload) (λ m. m) refl;
    }
