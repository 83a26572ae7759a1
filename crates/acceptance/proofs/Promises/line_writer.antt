-- The lines of line_writer, by its uniqueness theorems.
-- tools/promises makes this file from the contracts, and the gate holds it to them.
use Rattle.std.specs.Prelude.{refl}
use Rattle.line_writer.proofs.Unique as unique
use Rattle.acceptance.specs.Promises.line_writer.{Promises}
use Rattle.acceptance.proofs.Promised.{line_answered}

pub promises : Promises
promises =
    record {
      write_observation_one = λ κs buffer o. line_answered tt (unique.write_observation_one κs buffer o) (λ m. m) refl;
      write_listed_one = λ κs buffer list index. line_answered tt (unique.write_listed_one κs buffer list index) (λ m. m) refl;
      write_record_one = λ κs buffer list index. line_answered tt (unique.write_record_one κs buffer list index) (λ m. m) refl;
    }
