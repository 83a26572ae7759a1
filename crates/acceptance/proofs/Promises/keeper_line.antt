-- The lines of keeper_line, by its uniqueness theorems.
-- tools/promises makes this file from the contracts, and the gate holds it to them.
use Rattle.std.specs.Prelude.{refl}
use Rattle.keeper_line.proofs.Unique as unique
use Rattle.acceptance.specs.Promises.keeper_line.{Promises}
use Rattle.acceptance.proofs.Promised.{answered}

pub promises : Promises
promises =
    record {
      read_kept_one = λ κs line. answered tt (unique.read_kept_one κs line) (λ m. m) refl;
      kept_at_one = λ κs file at. answered tt (unique.kept_at_one κs file at) (λ m. m) refl;
    }
