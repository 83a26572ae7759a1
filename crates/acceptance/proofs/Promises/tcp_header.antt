-- The lines of tcp_header, by its uniqueness theorems.
-- tools/promises makes this file from the contracts, and the gate holds it to them.
use Rattle.std.specs.Prelude.{refl}
use Rattle.tcp_header.proofs.Unique as unique
use Rattle.acceptance.specs.Promises.tcp_header.{Promises}
use Rattle.acceptance.proofs.Promised.{answered}

pub promises : Promises
promises =
    record {
      tcp_type_one = λ flags. answered tt (unique.tcp_type_one flags) (λ m. m) refl;
      is_valid_one = λ flags. answered tt (unique.is_valid_one flags) (λ m. m) refl;
      number_quirks_one =
          λ flags sequence acknowledgment quirks. answered tt (unique.number_quirks_one flags sequence acknowledgment quirks) (λ m. m) refl;
      urgent_quirks_one = λ flags urgent quirks. answered tt (unique.urgent_quirks_one flags urgent quirks) (λ m. m) refl;
    }
