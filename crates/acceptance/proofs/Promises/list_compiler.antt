-- The lines of list_compiler, by its uniqueness theorems.
-- tools/promises makes this file from the contracts, and the gate holds it to them.
use Rattle.std.specs.Prelude.{refl}
use Rattle.list_compiler.proofs.Unique as unique
use Rattle.acceptance.specs.Promises.list_compiler.{Promises}
use Rattle.acceptance.proofs.Promised.{line_answered}

pub promises : Promises
promises =
    record {
      compile_list_one = λ κs buffer file. line_answered tt (unique.compile_list_one κs buffer file) (λ m. m) refl;
    }
