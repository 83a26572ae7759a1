-- The lines of one_field, by its uniqueness theorems.
-- tools/promises makes this file from the contracts, and the gate holds it to them.
use Rattle.std.specs.Prelude.{refl}
use Rattle.one_field.proofs.Unique as unique
use Rattle.acceptance.specs.Promises.one_field.{Promises}
use Rattle.acceptance.proofs.Promised.{answered}

pub promises : Promises
promises =
    record {
      behind_one = λ κs s from byte. answered tt (unique.behind_one κs s from byte) (λ m. m) refl;
      parse_ip_version_one = λ κs s from. answered tt (unique.parse_ip_version_one κs s from) (λ m. m) refl;
      parse_olen_one = λ κs s from. answered tt (unique.parse_olen_one κs s from) (λ m. m) refl;
      parse_ttl_one = λ κs s from. answered tt (unique.parse_ttl_one κs s from) (λ m. m) refl;
      parse_mss_one = λ κs s from. answered tt (unique.parse_mss_one κs s from) (λ m. m) refl;
      parse_wscale_one = λ κs s from. answered tt (unique.parse_wscale_one κs s from) (λ m. m) refl;
      parse_window_size_one = λ κs s from. answered tt (unique.parse_window_size_one κs s from) (λ m. m) refl;
      parse_tcp_option_one = λ κs s from. answered tt (unique.parse_tcp_option_one κs s from) (λ m. m) refl;
      parse_quirk_one = λ κs s from. answered tt (unique.parse_quirk_one κs s from) (λ m. m) refl;
      parse_payload_size_one = λ κs s from. answered tt (unique.parse_payload_size_one κs s from) (λ m. m) refl;
    }
