-- The lines of parse_tcp, by its uniqueness theorems.
-- tools/promises makes this file from the contracts, and the gate holds it to them.
use Rattle.std.specs.Prelude.{refl}
use Rattle.parse_tcp.proofs.Unique as unique
use Rattle.acceptance.specs.Promises.parse_tcp.{Promises}
use Rattle.acceptance.proofs.Promised.{answered}

pub promises : Promises
promises =
    record {
      refused_at_one = λ at. answered tt (unique.refused_at_one at) (λ m. m) refl;
      parse_tcp_signature_one = λ κs line. answered tt (unique.parse_tcp_signature_one κs line) (λ m. m) refl;
    }
