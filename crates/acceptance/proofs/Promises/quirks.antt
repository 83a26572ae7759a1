-- The lines of quirks, by its uniqueness theorems.
-- tools/promises makes this file from the contracts, and the gate holds it to them.
use Rattle.std.specs.Prelude.{refl}
use Rattle.quirks.proofs.Unique as unique
use Rattle.acceptance.specs.Promises.quirks.{Promises}
use Rattle.acceptance.proofs.Promised.{answered}

pub promises : Promises
promises =
    record {
      bit_one = λ self. answered tt (unique.bit_one self) (λ m. m) refl;
      from_bits_one = λ bits. answered tt (unique.from_bits_one bits) (λ m. m) refl;
      bits_one = λ self. answered tt (unique.bits_one self) (λ m. m) refl;
      is_empty_one = λ self. answered tt (unique.is_empty_one self) (λ m. m) refl;
      contains_one = λ self quirk. answered tt (unique.contains_one self quirk) (λ m. m) refl;
      insert_one = λ self quirk. answered tt (unique.insert_one self quirk) (λ m. m) refl;
      add_if_one = λ self test quirk. answered tt (unique.add_if_one self test quirk) (λ m. m) refl;
      difference_one = λ self other. answered tt (unique.difference_one self other) (λ m. m) refl;
      named_sets_one = answered tt (unique.named_sets_one) (λ m. m) refl;
      display_order_one = answered tt (unique.display_order_one) (λ m. m) refl;
    }
