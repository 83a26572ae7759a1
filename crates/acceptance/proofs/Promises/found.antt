-- The lines of found, by its uniqueness theorems.
-- tools/promises makes this file from the contracts, and the gate holds it to them.
use Rattle.std.specs.Prelude.{refl}
use Rattle.found.proofs.Unique as unique
use Rattle.acceptance.specs.Promises.found.{Promises}
use Rattle.acceptance.proofs.Promised.{answered}

pub promises : Promises
promises =
    record {
      is_none_one = λ fit. answered tt (unique.is_none_one fit) (λ m. m) refl;
      found_of_one = λ hit fit. answered tt (unique.found_of_one hit fit) (λ m. m) refl;
      rank_of_one = λ found. answered tt (unique.rank_of_one found) (λ m. m) refl;
    }
