-- The lines of refusals, by its uniqueness theorems.
-- tools/promises makes this file from the contracts, and the gate holds it to them.
use Rattle.std.specs.Prelude.{refl}
use Rattle.refusals.proofs.Unique as unique
use Rattle.acceptance.specs.Promises.refusals.{Promises}
use Rattle.acceptance.proofs.Promised.{answered}

pub promises : Promises
promises =
    record {
      refusal_number_one = λ refusal. answered tt (unique.refusal_number_one refusal) (λ m. m) refl;
      packet_value_one = λ refusal. answered tt (unique.packet_value_one refusal) (λ m. m) refl;
      list_value_one = λ refusal. answered tt (unique.list_value_one refusal) (λ m. m) refl;
      refusal_value_one = λ refusal. answered tt (unique.refusal_value_one refusal) (λ m. m) refl;
    }
