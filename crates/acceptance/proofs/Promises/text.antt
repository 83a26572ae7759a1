-- The lines of text, by its uniqueness theorems.
-- tools/promises makes this file from the contracts, and the gate holds it to them.
use Rattle.std.specs.Prelude.{refl}
use Rattle.text.proofs.Unique as unique
use Rattle.acceptance.specs.Promises.text.{Promises}
use Rattle.acceptance.proofs.Promised.{answered, buffer_answered}

pub promises : Promises
promises =
    record {
      put_byte_one = λ κs buffer at byte. buffer_answered tt (unique.put_byte_one κs buffer at byte) (λ m. m) refl;
      put_word_one = λ κs buffer at word. buffer_answered tt (unique.put_word_one κs buffer at word) (λ m. m) refl;
      put_decimal_one = λ κs buffer at n. buffer_answered tt (unique.put_decimal_one κs buffer at n) (λ m. m) refl;
      decimal_length_one = λ n. answered tt (unique.decimal_length_one n) (λ m. m) refl;
    }
