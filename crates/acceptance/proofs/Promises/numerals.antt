-- The lines of numerals, by its uniqueness theorems.
-- tools/promises makes this file from the contracts, and the gate holds it to them.
use Rattle.std.specs.Prelude.{refl}
use Rattle.numerals.proofs.Unique as unique
use Rattle.acceptance.specs.Promises.numerals.{Promises}
use Rattle.acceptance.proofs.Promised.{answered}

pub promises : Promises
promises =
    record {
      no_piece_one = λ at. answered tt (unique.no_piece_one at) (λ m. m) refl;
      read_numeral_one = λ κs s from max form. answered tt (unique.read_numeral_one κs s from max form) (λ m. m) refl;
      read_unnamed_one = λ κs s from. answered tt (unique.read_unnamed_one κs s from) (λ m. m) refl;
    }
