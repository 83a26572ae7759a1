-- The lines of file_writer, by its uniqueness theorems.
-- tools/promises makes this file from the contracts, and the gate holds it to them.
use Rattle.std.specs.Prelude.{refl}
use Rattle.file_writer.proofs.Unique as unique
use Rattle.acceptance.specs.Promises.file_writer.{Promises}
use Rattle.acceptance.proofs.Promised.{buffer_answered, line_answered}

pub promises : Promises
promises =
    record {
      put_listed_one = λ κs buffer at list index. buffer_answered tt (unique.put_listed_one κs buffer at list index) (λ m. m) refl;
      put_shown_one = λ κs buffer at list index. buffer_answered tt (unique.put_shown_one κs buffer at list index) (λ m. m) refl;
      write_file_one = λ κs buffer list. line_answered tt (unique.write_file_one κs buffer list) (λ m. m) refl;
    }
