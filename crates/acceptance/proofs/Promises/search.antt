-- The lines of search, by its uniqueness theorems.
-- tools/promises makes this file from the contracts, and the gate holds it to them.
use Rattle.std.specs.Prelude.{refl}
use Rattle.search.proofs.Unique as unique
use Rattle.acceptance.specs.Promises.search.{Promises}
use Rattle.acceptance.proofs.Promised.{answered}

pub promises : Promises
promises =
    record {
      search_checked_one = λ κs observed list. answered tt (unique.search_checked_one κs observed list) (λ m. m) refl;
      search_one = λ κs observed list. answered tt (unique.search_one κs observed list) (λ m. m) refl;
    }
