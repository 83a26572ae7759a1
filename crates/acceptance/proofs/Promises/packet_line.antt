-- The lines of packet_line, by its uniqueness theorems.
-- tools/promises makes this file from the contracts, and the gate holds it to them.
use Rattle.std.specs.Prelude.{refl}
use Rattle.packet_line.proofs.Unique as unique
use Rattle.acceptance.specs.Promises.packet_line.{Promises}
use Rattle.acceptance.proofs.Promised.{answered, buffer_answered}

pub promises : Promises
promises =
    record {
      put_packet_one = λ κs buffer at answer reading. buffer_answered tt (unique.put_packet_one κs buffer at answer reading) (λ m. m) refl;
      reading_at_one = λ κs bundle at end. answered tt (unique.reading_at_one κs bundle at end) (λ m. m) refl;
    }
